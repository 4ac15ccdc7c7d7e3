use Rattle.lv_schema.specs.JoinViews.{parts_of}
use Rattle.lv_schema.proofs.DifferencesAddUp.{differences_add_up}
use Rattle.lv_schema.proofs.laws.differences_add_up.Goals as goal

pub returns : goal.returns
returns c = λ view first second third. differences_add_up view (parts_of view.tables first) (parts_of view.tables second) (parts_of view.tables third)
