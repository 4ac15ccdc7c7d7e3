use Rattle.std.proofs.Common.{◌≡◌, ◌++◌, drop}
use Rattle.lv_values.specs.Rows.{key_cmp}
use Rattle.lv_schema.specs.Once.{Ascends}
use Rattle.lv_overlay.specs.Ordered.{AreFrom}
use Rattle.lv_overlay.specs.Puts.{rows_over}
use Rattle.lv_overlay.proofs.merging.merge.Given as goal

abbrev pub invariant-loop-row : goal.invariant-loop-row
invariant-loop-row l = record {
  from : AreFrom l.table.no (drop l.at l.overlay.list);
  rise : Ascends (key_cmp l.table.key) l.row-iterator.rest.items;
  rows : l.rows ++ rows_over l.table.key (drop l.at l.overlay.list) l.table.no l.row-iterator.rest.items ≡ rows_over l.table.key (drop l.from l.overlay.list) l.table.no l.fn.base;
}
