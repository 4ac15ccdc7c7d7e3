use Rattle.lv_bind.proofs.SpokenStmts as stmts
use Rattle.lv_bind.proofs.laws.lines_are_spoken.Goals as goal

pub returns : goal.returns
returns c = stmts.lines_are_spoken
