use Rattle.std.proofs.Common.{◌≡◌, ℕ, ◌≤◌, length}
use Rattle.std.specs.List.{concat}
use Rattle.lv_places.specs.Blocks.{ArePacked}
use Rattle.lv_places.proofs.passing.add_blocks.Given as goal

abbrev pub invariant-loop : goal.invariant-loop
invariant-loop g l = record {
  same : concat l.blocks.items ≡ concat l.initial.blocks.items;
  packed : (n : ℕ) → ArePacked g.row.SIZE n l.initial.blocks.items → ArePacked g.row.SIZE n l.blocks.items;
  count : l.counter ≡ length l.blocks.items;
  most : (m : ℕ) → length l.initial.blocks.items ≤ m → l.count ≤ m → length l.blocks.items ≤ m;
  kept : length l.initial.blocks.items ≤ length l.blocks.items;
}
