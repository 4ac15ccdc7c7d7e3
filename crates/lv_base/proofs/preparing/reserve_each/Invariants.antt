use Rattle.std.proofs.Common.{◌≡◌, ◌≤◌, ◌<◌, ℕ, length, map}
use Rattle.lv_base.specs.Bases.{indexes_in, kept_of, net_in, table_in}
use Rattle.lv_base.proofs.preparing.reserve_each.Given as goal

abbrev pub invariant-loop-at : goal.invariant-loop-at
invariant-loop-at l = record {
  same : map kept_of l.tables ≡ map kept_of l.fn.tables;
  long : length l.tables ≡ length l.fn.tables;
  room : (t : ℕ) → t < l.at → length (net_in l.nets t).plus ≤ (table_in l.tables t).spare;
  kept : (t : ℕ) → (table_in l.fn.tables t).spare ≤ (table_in l.tables t).spare;
  indexes : indexes_in l.tables ≡ indexes_in l.fn.tables;
}
