use Rattle.std.proofs.Common.{◌-◌, ◌≡◌, ◌++◌, [], drop, length}
use Rattle.lv_overlay.specs.Ordered.{AreFrom}
use Rattle.lv_overlay.specs.Puts.{rows_over}
use Rattle.lv_overlay.proofs.merging.push_rest.Given as goal

abbrev pub invariant-each : goal.invariant-each
invariant-each l = record {
  from : AreFrom l.table.no (drop l.at l.overlay.list);
  rows : l.rows ++ rows_over l.table.key (drop l.at l.overlay.list) l.table.no [] ≡ l.fn.rows ++ rows_over l.table.key (drop l.from l.overlay.list) l.table.no [];
}

abbrev pub decreases-each : goal.decreases-each
decreases-each l = length l.overlay.list - l.at
