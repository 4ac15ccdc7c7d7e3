use Rattle.std.proofs.Common.{◌≡◌, map, take}
use Rattle.lv_bind.proofs.binding.bound_row.Given as goal

abbrev pub invariant-loop-literal : goal.invariant-loop-literal
invariant-loop-literal l =
    l.row ≡ map (λ x. x.value) (take l.literal-index l.values)
