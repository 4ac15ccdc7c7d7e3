use Rattle.lv_reach.proofs.Costing.{one_cost}
use Rattle.lv_reach.proofs.laws.the_cost_is_one_number.Goals as goal

pub returns : goal.returns
returns c = one_cost
