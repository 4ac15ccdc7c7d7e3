use Rattle.std.proofs.Common.{◌≡◌, map, take}
use Rattle.lv_bind.specs.Binding.{bound_column}
use Rattle.lv_bind.proofs.creating.bound_columns.Given as goal

abbrev pub invariant-loop-column : goal.invariant-loop-column
invariant-loop-column l =
    l.out ≡ map bound_column (take l.column-index l.columns)
