use Rattle.lv_order.proofs.Answered.{all_come}
use Rattle.lv_order.proofs.laws.all_is_answered.Goals as goal

pub returns : goal.returns
returns c = λ p followable. all_come p followable
