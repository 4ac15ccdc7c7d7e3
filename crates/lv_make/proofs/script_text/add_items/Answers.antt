use Rattle.std.proofs.Common.{codes, arith}
use Rattle.std.proofs.lemmas.Grind.{common_steps}
use Rattle.lv_make.specs.ScriptText.{tuple_text, item_row}
use Rattle.lv_make.proofs.Joined.{joined_next}
use Rattle.lv_make.proofs.script_text.add_items.Goals as goal

pub loop-k-preserved : goal.loop-k-preserved
loop-k-preserved c =
    let next = joined_next (codes ", ") tuple_text item_row 0 c.loop-k.k c.loop-k.k (omega arith) in
    grind (arith, common_steps, next, c.loop-k.invariant)
