use Rattle.std.proofs.Common.{◌≡◌, ◌+◌, ◌++◌, ◌≤◌, length, None, replicate, vec_capacity}
use Rattle.lv_shelf.specs.Shelves.{falling}
use Rattle.lv_shelf.proofs.slots.push_slots.Given as goal

abbrev pub invariant-loop-left : goal.invariant-loop-left
invariant-loop-left g l = record {
  within : l.left ≤ l.count;
  slots : l.slots.items ++ replicate l.left None ≡ l.initial.slots.items ++ replicate l.count None;
  free : l.free.items ++ falling l.first l.left ≡ l.initial.free.items ++ falling l.first l.count;
  slots_room : length l.slots.items + l.left ≤ vec_capacity l.slots;
  free_room : length l.free.items + l.left ≤ vec_capacity l.free;
  capacity : vec_capacity l.free ≡ vec_capacity l.initial.free;
}

abbrev pub decreases-loop-left : goal.decreases-loop-left
decreases-loop-left g l = l.left
