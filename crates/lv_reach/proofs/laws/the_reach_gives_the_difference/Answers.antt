use Rattle.lv_reach.proofs.Reached.{reach_gives, reach_of_bound}
use Rattle.lv_reach.proofs.laws.the_reach_gives_the_difference.Goals as goal

pub returns-clause-over : goal.returns-clause-over
returns-clause-over c = reach_gives

pub returns-clause-bound : goal.returns-clause-bound
returns-clause-bound c = reach_of_bound
