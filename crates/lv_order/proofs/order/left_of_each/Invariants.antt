use Rattle.std.proofs.Common.{◌≡◌, ℕ, ◌+◌, ◌-◌, ◌<◌, length, take, slice_index}
use Rattle.std.specs.List.{count_by}
use Rattle.lv_plain.specs.Events.{is_turn_of}
use Rattle.lv_plain.specs.Programs.{lines_of}
use Rattle.lv_order.proofs.order.left_of_each.Given as goal

abbrev pub invariant-loop-item : goal.invariant-loop-item
invariant-loop-item l = record {
  as_many : length l.left ≡ length l.program.sessions;
  each : (i : ℕ) → i < length l.program.sessions → slice_index l.left i ≡ length (lines_of l.program (i + 1)) - count_by (is_turn_of (i + 1)) (take l.item-index l.program.order);
}
