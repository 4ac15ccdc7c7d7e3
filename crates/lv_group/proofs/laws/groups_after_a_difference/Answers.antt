use Rattle.lv_group.proofs.Regroups.{groups_after}
use Rattle.lv_group.proofs.laws.groups_after_a_difference.Goals as goal

pub returns : goal.returns
returns c = groups_after
