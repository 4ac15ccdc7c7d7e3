use Rattle.std.proofs.Common.{◌+◌, arith}
use Rattle.std.proofs.lemmas.Grind.{common_steps}
use Rattle.lv_make.specs.ScriptText.{order_items}
use Rattle.lv_make.proofs.Joined.{flat_map_next}
use Rattle.lv_make.proofs.script_text.add_order.Goals as goal

pub loop-k-preserved : goal.loop-k-preserved
loop-k-preserved c =
    let next = flat_map_next order_items 1 c.loop-k.k (c.loop-k.k + 1) (omega arith) in
    grind (arith, common_steps, next, c.loop-k.invariant)
