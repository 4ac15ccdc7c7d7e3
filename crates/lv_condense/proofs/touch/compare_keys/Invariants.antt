use Rattle.std.proofs.Common.{◌≡◌, ◌≤◌, drop, length}
use Rattle.lv_values.specs.Order.{row_cmp}
use Rattle.lv_values.specs.Rows.{values_at}
use Rattle.lv_condense.proofs.touch.compare_keys.Given as goal

abbrev pub invariant-loop-i : goal.invariant-loop-i
invariant-loop-i l = record {
  within : l.i ≤ length l.others;
  so_far : row_cmp (values_at l.key l.a) (values_at l.others l.b) ≡ row_cmp (values_at (drop l.i l.key) l.a) (values_at (drop l.i l.others) l.b);
}
