use Rattle.lv_schema.specs.JoinViews.{parts_of}
use Rattle.lv_schema.proofs.DifferencesAddUp.{groups_and_difference}
use Rattle.lv_schema.proofs.laws.groups_follow_the_difference.Goals as goal

pub returns : goal.returns
returns c = λ view before after. groups_and_difference view (parts_of view.tables before) (parts_of view.tables after)
