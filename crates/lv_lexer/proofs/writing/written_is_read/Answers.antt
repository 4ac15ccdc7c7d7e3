use Rattle.std.proofs.Common.{false}
use Rattle.lv_lexer.proofs.Again.{placed, line_again}
use Rattle.lv_lexer.proofs.writing.written_is_read.Goals as goal

pub returns : goal.returns
returns c xs h = let again = line_again xs h in (placed 0 false xs, again.0, again.1)
