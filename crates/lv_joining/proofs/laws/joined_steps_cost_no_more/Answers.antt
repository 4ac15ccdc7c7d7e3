use Rattle.lv_joining.proofs.Joined.{joined_cost}
use Rattle.lv_joining.proofs.laws.joined_steps_cost_no_more.Goals as goal

pub returns : goal.returns
returns c = joined_cost
