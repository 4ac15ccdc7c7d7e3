use Rattle.lv_reach.proofs.Within.{bound_no_more, cost_no_more}
use Rattle.lv_reach.proofs.laws.a_smaller_change_costs_no_more.Goals as goal

pub returns-clause-cost : goal.returns-clause-cost
returns-clause-cost c = λ links small parts near near_small far far_small h. cost_no_more links small parts h near near_small far far_small

pub returns-clause-bound : goal.returns-clause-bound
returns-clause-bound c = λ links small parts start end h. bound_no_more links small parts h start end
