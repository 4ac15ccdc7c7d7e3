use Rattle.std.proofs.Common.{length, arith}
use Rattle.std.specs.List.{range_with_len}
use Rattle.std.proofs.lemmas.Grind.{common_steps}
use Rattle.lv_plain.specs.Events.{round}
use Rattle.lv_order.specs.Left.{left_in}
use Rattle.lv_order.proofs.Rounds.{rounds_more, left_in_each}
use Rattle.lv_order.proofs.order.push_rounds.Goals as goal

pub loop-done-preserved : goal.loop-done-preserved
loop-done-preserved c =
    let left = c.args.left.now in
    let more = rounds_more (round (range_with_len 1 (length left)) (left_in left)) 0 c.loop-done.done in
    grind (arith, common_steps, more, c.loop-done.invariant)

pub returns : goal.returns
returns c =
    let each = left_in_each c.args.left.now in
    grind (arith, common_steps, each, c.loop-done.invariant, c.greatest_of-done-end.ensures)
