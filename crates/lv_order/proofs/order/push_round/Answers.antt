use Rattle.std.proofs.Common.{arith}
use Rattle.std.proofs.lemmas.Grind.{common_steps}
use Rattle.lv_order.proofs.Rounds.{next_round}
use Rattle.lv_order.proofs.order.push_round.Goals.{then-done-count+in_ok-push_turn, else-done-count}
use Rattle.lv_order.proofs.order.push_round.Goals as goal

pub loop-i-preserved : goal.loop-i-preserved
loop-i-preserved c =
    let more = next_round c.args.left.now c.args.done c.loop-i.i in
    grind (arith, common_steps, more, c.loop-i.invariant)
