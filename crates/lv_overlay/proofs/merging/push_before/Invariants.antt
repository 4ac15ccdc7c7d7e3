use Rattle.std.proofs.Common.{◌-◌, ◌≡◌, ◌++◌, ◌∷◌, List, drop, length}
use Rattle.lv_values.specs.declared.value.Value.{Value}
use Rattle.lv_values.specs.Rows.{key_cmp}
use Rattle.lv_schema.specs.Once.{Ascends}
use Rattle.lv_overlay.specs.Ordered.{AreFrom}
use Rattle.lv_overlay.specs.Puts.{rows_over}
use Rattle.lv_overlay.proofs.merging.push_before.Given as goal

abbrev pub invariant-each : goal.invariant-each
invariant-each l = record {
  from : AreFrom l.table.no (drop l.from l.overlay.list) → AreFrom l.table.no (drop l.at l.overlay.list);
  rows : (others : List (List Value)) → Ascends (key_cmp l.table.key) (l.row ∷ others)
      → l.rows ++ rows_over l.table.key (drop l.at l.overlay.list) l.table.no (l.row ∷ others) ≡ l.fn.rows ++ rows_over l.table.key (drop l.from l.overlay.list) l.table.no (l.row ∷ others);
}

abbrev pub decreases-each : goal.decreases-each
decreases-each l = length l.overlay.list - l.at
