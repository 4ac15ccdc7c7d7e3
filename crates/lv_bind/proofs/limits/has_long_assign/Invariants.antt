use Rattle.std.proofs.Common.{◌≡◌, drop, nat_lt}
use Rattle.std.specs.List.{list_any, flat_map}
use Rattle.lv_bind.specs.Limits.{lengths, assign_texts}
use Rattle.lv_bind.proofs.limits.has_long_assign.Given as goal

abbrev pub invariant-loop-assign : goal.invariant-loop-assign
invariant-loop-assign l =
    list_any (nat_lt 256) (lengths (flat_map (λ a. assign_texts a.value) (drop l.assign-index l.sets))) ≡ list_any (nat_lt 256) (lengths (flat_map (λ a. assign_texts a.value) l.sets))
