use Rattle.std.proofs.Common.{◌≡◌, ◌≤◌, drop, length}
use Rattle.lv_group.specs.Gathered.{group_value}
use Rattle.lv_group.proofs.listing.group_value.Given as goal

abbrev pub invariant-loop-i : goal.invariant-loop-i
invariant-loop-i l = record {
  within : l.i ≤ length l.group;
  so_far : group_value l.by l.group l.col ≡ group_value (drop l.i l.by) (drop l.i l.group) l.col;
}
