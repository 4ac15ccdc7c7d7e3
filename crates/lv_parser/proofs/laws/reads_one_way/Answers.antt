use Rattle.lv_parser.proofs.Answered.{one_statement}
use Rattle.lv_parser.proofs.laws.reads_one_way.Goals as goal

pub returns : goal.returns
returns c = one_statement
