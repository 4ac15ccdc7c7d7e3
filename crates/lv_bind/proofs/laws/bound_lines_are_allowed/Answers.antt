use Rattle.lv_bind.proofs.AllowedLines.{reads_allowed}
use Rattle.lv_bind.proofs.laws.bound_lines_are_allowed.Goals as goal

pub returns : goal.returns
returns c = reads_allowed
