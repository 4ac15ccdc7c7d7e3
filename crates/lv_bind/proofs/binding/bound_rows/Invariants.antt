use Rattle.std.proofs.Common.{◌≡◌, take}
use Rattle.lv_bind.specs.Binding.{bound_rows}
use Rattle.lv_bind.proofs.binding.bound_rows.Given as goal

abbrev pub invariant-loop-tuple : goal.invariant-loop-tuple
invariant-loop-tuple l =
    l.rows ≡ bound_rows (take l.tuple-index l.tuples)
