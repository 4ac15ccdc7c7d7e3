use Rattle.std.proofs.Common.{◌≡◌, ◌≤◌, drop, length}
use Rattle.lv_values.specs.Order.{row_cmp}
use Rattle.lv_schema.specs.Tuples.{listed}
use Rattle.lv_group.proofs.entry.compare_listed.Given as goal

abbrev pub invariant-loop-i : goal.invariant-loop-i
invariant-loop-i l = record {
  within : l.i ≤ length l.others;
  so_far : row_cmp (listed l.by l.a) (listed l.others l.b) ≡ row_cmp (listed (drop l.i l.by) l.a) (listed (drop l.i l.others) l.b);
}
