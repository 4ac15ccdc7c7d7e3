use Rattle.lv_parser.proofs.Answered.{one_fault}
use Rattle.lv_parser.proofs.laws.stops_at_one_place.Goals as goal

pub returns : goal.returns
returns c = one_fault
