use Rattle.std.proofs.Common.{◌≡◌, ◌≤◌, take}
use Rattle.lv_places.proofs.blocks.Blocks.of.Given as goal

abbrev pub invariant-loop-i : goal.invariant-loop-i
invariant-loop-i g l = record {
  same : l.blocks.list ≡ take l.i (g.L.Numbers.roomed l.numbers).list;
  room : l.room ≤ l.blocks.room;
}
