use Rattle.lv_stands.proofs.ViewGroups.{made_groups}
use Rattle.lv_stands.proofs.laws.groups_can_be_kept.Goals as goal

pub returns : goal.returns
returns c = made_groups
