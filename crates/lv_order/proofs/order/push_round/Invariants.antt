use Rattle.std.proofs.Common.{◌≡◌, ◌++◌}
use Rattle.std.specs.List.{range_with_len}
use Rattle.lv_plain.specs.Events.{round}
use Rattle.lv_order.specs.Left.{left_in}
use Rattle.lv_order.proofs.order.push_round.Given as goal

abbrev pub invariant-loop-i : goal.invariant-loop-i
invariant-loop-i l = l.events ≡ l.fn.events ++ round (range_with_len 1 l.i) (left_in l.left) l.done
