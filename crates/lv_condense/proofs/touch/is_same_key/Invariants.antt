use Rattle.std.proofs.Common.{◌≡◌, drop}
use Rattle.lv_values.specs.Order.{row_eq}
use Rattle.lv_values.specs.Rows.{values_at}
use Rattle.lv_condense.proofs.touch.is_same_key.Given as goal

abbrev pub invariant-loop-i : goal.invariant-loop-i
invariant-loop-i l = row_eq (values_at l.key l.a) (values_at l.others l.b) ≡ row_eq (values_at (drop l.i l.key) l.a) (values_at (drop l.i l.others) l.b)
