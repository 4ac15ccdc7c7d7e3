use Rattle.lv_bind.proofs.AllowedLines.{reads_shown}
use Rattle.lv_bind.proofs.laws.refused_lines_show_why.Goals as goal

pub returns : goal.returns
returns c = reads_shown
