use Rattle.std.proofs.Common.{◌≡◌, drop}
use Rattle.lv_bind.specs.Kinds.{value_kinds}
use Rattle.lv_bind.specs.Sources.{first}
use Rattle.lv_bind.proofs.kinds.value_kinds.Given as goal

abbrev pub invariant-loop-at : goal.invariant-loop-at
invariant-loop-at l =
    first (value_kinds (drop l.at l.columns) (drop l.at l.values)) ≡ first (value_kinds l.columns l.values)
