use Rattle.std.proofs.Common.{◌≡◌, map, take}
use Rattle.lv_bind.specs.Binding.{bound_col}
use Rattle.lv_bind.specs.Seen.{aliases}
use Rattle.lv_bind.proofs.binding.bound_cols.Given as goal

abbrev pub invariant-loop-column : goal.invariant-loop-column
invariant-loop-column l =
    l.out ≡ map (bound_col (aliases l.scope)) (take l.column-index l.columns)
