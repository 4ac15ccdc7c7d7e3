use Rattle.lv_order.proofs.Answered.{may_come}
use Rattle.lv_order.proofs.laws.each_event_may_come.Goals as goal

pub returns : goal.returns
returns c = λ p s before event behind followable all at. may_come p followable before behind s event all at
