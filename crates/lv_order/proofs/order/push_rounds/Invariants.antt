use Rattle.std.proofs.Common.{◌≡◌, ◌++◌, length}
use Rattle.std.specs.List.{flat_map, range_with_len}
use Rattle.lv_plain.specs.Events.{round}
use Rattle.lv_order.specs.Left.{left_in}
use Rattle.lv_order.proofs.order.push_rounds.Given as goal

abbrev pub invariant-loop-done : goal.invariant-loop-done
invariant-loop-done l = l.events ≡ l.fn.events ++ flat_map (round (range_with_len 1 (length l.left)) (left_in l.left)) (range_with_len 0 l.done)
