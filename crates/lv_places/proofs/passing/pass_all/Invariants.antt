use Rattle.std.proofs.Common.{◌≡◌, ◌/◌, ◌≤◌, length}
use Rattle.std.specs.List.{concat}
use Rattle.lv_places.specs.Blocks.{HaveOneMore}
use Rattle.lv_places.proofs.passing.pass_all.Given as goal

abbrev pub invariant-loop-j : goal.invariant-loop-j
invariant-loop-j g l = record {
  same : concat l.blocks.items ≡ concat l.initial.blocks.items;
  over : HaveOneMore g.row.SIZE l.len l.j l.blocks.items;
  count : length l.blocks.items ≡ length l.initial.blocks.items;
  upto : l.j ≤ l.len / g.row.SIZE;
}
