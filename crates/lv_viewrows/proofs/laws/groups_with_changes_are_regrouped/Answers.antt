use Rattle.lv_viewrows.proofs.AddedUp.{groups_with_adds_up}
use Rattle.lv_viewrows.proofs.laws.groups_with_changes_are_regrouped.Goals as goal

pub returns : goal.returns
returns c = λ n groups list a b f g. groups_with_adds_up n groups list a b f g
