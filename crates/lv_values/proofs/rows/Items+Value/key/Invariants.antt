use Rattle.std.proofs.Common.{◌≡◌, take}
use Rattle.lv_values.specs.Rows.{values_at}
use Rattle.lv_values.proofs.rows.Items+Value.key.Given as goal

abbrev pub invariant-loop-at : goal.invariant-loop-at
invariant-loop-at l = l.key ≡ values_at (take l.at-index l.positions) l.self
