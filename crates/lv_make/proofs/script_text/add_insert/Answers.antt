use Rattle.std.proofs.Common.{arith}
use Rattle.std.proofs.lemmas.Grind.{common_steps}
use Rattle.lv_make.proofs.script_text.add_insert.Goals as goal

pub returns : goal.returns
returns c = grind (arith, common_steps, c.min.ensures)
