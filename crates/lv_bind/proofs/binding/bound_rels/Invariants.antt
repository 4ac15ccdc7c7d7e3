use Rattle.std.proofs.Common.{◌≡◌, map, take}
use Rattle.lv_bind.specs.Binding.{rel_of}
use Rattle.lv_bind.proofs.binding.bound_rels.Given as goal

abbrev pub invariant-loop-source : goal.invariant-loop-source
invariant-loop-source l =
    l.out ≡ map (λ s. rel_of s.rel) (take l.source-index l.sources)
