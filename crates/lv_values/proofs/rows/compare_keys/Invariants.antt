use Rattle.std.proofs.Common.{◌≡◌, drop}
use Rattle.lv_values.specs.Rows.{key_cmp}
use Rattle.lv_values.proofs.rows.compare_keys.Given as goal

abbrev pub invariant-loop-at : goal.invariant-loop-at
invariant-loop-at l = key_cmp l.positions l.a l.b ≡ key_cmp (drop l.at-index l.positions) l.a l.b
