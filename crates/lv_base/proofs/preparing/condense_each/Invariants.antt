use Rattle.std.proofs.Common.{◌≡◌, ◌<◌, ℕ, length, map}
use Rattle.lv_schema.specs.Condensed.{condensed}
use Rattle.lv_versions.specs.Versions.{Kept}
use Rattle.lv_base.specs.Bases.{net_in}
use Rattle.lv_base.proofs.preparing.condense_each.Given as goal

abbrev pub invariant-loop-table : goal.invariant-loop-table
invariant-loop-table l = record {
  all : length l.nets ≡ l.table-index;
  each : (t : ℕ) → t < l.table-index → net_in l.nets t ≡ condensed (map (λ (k : Kept). k.def) l.tables) l.actions t;
}
