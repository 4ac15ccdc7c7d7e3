use Rattle.std.proofs.Common.{◌≡◌, ◌≤◌, drop, length}
use Rattle.lv_values.specs.Order.{row_cmp}
use Rattle.lv_values.specs.Rows.{values_at}
use Rattle.lv_values.proofs.rows.compare_to_key.Given as goal

abbrev pub invariant-loop-i : goal.invariant-loop-i
invariant-loop-i l =
    (l.i ≤ length l.key) × (row_cmp (values_at l.positions l.row) l.key ≡ row_cmp (values_at (drop l.i l.positions) l.row) (drop l.i l.key))
