use Rattle.std.proofs.Common.{◌≡◌, map, take}
use Rattle.lv_bind.specs.Binding.{bound_set}
use Rattle.lv_bind.specs.Seen.{aliases}
use Rattle.lv_bind.proofs.binding.bound_sets.Given as goal

abbrev pub invariant-loop-assign : goal.invariant-loop-assign
invariant-loop-assign l =
    l.out ≡ map (bound_set (aliases l.scope)) (take l.assign-index l.sets)
