use Rattle.std.proofs.Common.{◌+◌, codes, refl, arith}
use Rattle.std.proofs.lemmas.Grind.{common_steps}
use Rattle.lv_make.specs.ScriptText.{tuple_text, sale_row}
use Rattle.lv_make.proofs.Joined.{joined_next}
use Rattle.lv_make.proofs.script_text.add_sales.Goals as goal

pub loop-at-preserved : goal.loop-at-preserved
loop-at-preserved c =
    let next = joined_next (codes ", ") tuple_text sale_row c.args.first c.loop-at.at (c.args.first + c.loop-at.at) refl in
    grind (arith, common_steps, next, c.loop-at.invariant)
