use Rattle.lv_make.proofs.MadeProgram.{made_scripts_are_read}
use Rattle.lv_make.proofs.made_program.make_program.Goals as goal

pub returns-in-Ok-clause-program : goal.returns-in-Ok-clause-program
returns-in-Ok-clause-program c =
    let law = made_scripts_are_read c.args.n c.requires.least c.requires.most in
    cc (law, c.in_ok-script.ensures, c.as_slice.ensures, c.in-Ok.ensures.program)

pub unreachable-requires : goal.unreachable-requires
unreachable-requires c =
    let law = made_scripts_are_read c.args.n c.requires.least c.requires.most in
    let bad = rw c.in-Err-Bad.field-0-is at c.in-Err-Bad.ensures.fault in
    cc (law, bad, c.as_slice.ensures, c.in_ok-script.ensures)
