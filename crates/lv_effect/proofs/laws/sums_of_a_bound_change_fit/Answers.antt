use Rattle.lv_effect.proofs.BoundSums.{bound_sums}
use Rattle.lv_effect.proofs.laws.sums_of_a_bound_change_fit.Goals as goal

pub returns : goal.returns
returns c = bound_sums
