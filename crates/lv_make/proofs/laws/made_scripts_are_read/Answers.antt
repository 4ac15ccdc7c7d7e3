use Rattle.lv_make.proofs.MadeProgram.{made_scripts_are_read}
use Rattle.lv_make.proofs.laws.made_scripts_are_read.Goals as goal

pub returns : goal.returns
returns c = made_scripts_are_read
