use Rattle.std.proofs.Common.{◌≡◌, drop}
use Rattle.lv_lines.specs.OrderLine.{left_after}
use Rattle.lv_lines.proofs.order_line.take_turns.Given as goal

abbrev pub invariant-loop-item : goal.invariant-loop-item
invariant-loop-item l = left_after l.left (drop l.item-index l.items) ≡ left_after l.initial.left l.items
