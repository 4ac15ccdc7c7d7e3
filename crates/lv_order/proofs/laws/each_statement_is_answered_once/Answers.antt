use Rattle.lv_order.proofs.Once.{answer_once}
use Rattle.lv_order.proofs.laws.each_statement_is_answered_once.Goals as goal

pub returns : goal.returns
returns c = λ rules opened es whole. answer_once rules opened es whole
