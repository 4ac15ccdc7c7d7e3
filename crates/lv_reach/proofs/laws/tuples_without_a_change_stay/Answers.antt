use Rattle.lv_reach.proofs.Unchanged.{tuples_stay}
use Rattle.lv_reach.proofs.laws.tuples_without_a_change_stay.Goals as goal

pub returns : goal.returns
returns c = tuples_stay
