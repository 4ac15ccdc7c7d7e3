use Rattle.std.proofs.Common.{◌≡◌, ◌≤◌, ◌<◌, ℕ, length}
use Rattle.lv_stands.specs.Moves.{TableCleaned}
use Rattle.lv_base.specs.Bases.{indexes_in, kept_of, table_in}
use Rattle.lv_base.proofs.tables.prune_each.Given as goal

abbrev pub invariant-loop-at : goal.invariant-loop-at
invariant-loop-at l = record {
  long : length l.tables ≡ length l.fn.tables;
  cleaned : (t : ℕ) → t < l.at → TableCleaned l.floor (kept_of (table_in l.fn.tables t)) (kept_of (table_in l.tables t));
  rest : (t : ℕ) → l.at ≤ t → table_in l.tables t ≡ table_in l.fn.tables t;
  room : (t : ℕ) → (table_in l.fn.tables t).spare ≤ (table_in l.tables t).spare;
  indexes : indexes_in l.tables ≡ indexes_in l.fn.tables;
}
