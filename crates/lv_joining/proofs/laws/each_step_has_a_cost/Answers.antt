use Rattle.lv_reach.proofs.Reaches.{bound_stands}
use Rattle.lv_joining.proofs.laws.each_step_has_a_cost.Goals as goal

pub returns : goal.returns
returns c = bound_stands
