use Rattle.std.proofs.Common.{◌≡◌, map, take}
use Rattle.lv_bind.specs.Binding.{key_place}
use Rattle.lv_bind.proofs.creating.bound_key.Given as goal

abbrev pub invariant-loop-column : goal.invariant-loop-column
invariant-loop-column l =
    l.out ≡ map (λ k. key_place l.columns k.name) (take l.column-index l.key)
