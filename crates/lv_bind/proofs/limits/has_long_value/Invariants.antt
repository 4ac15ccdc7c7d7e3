use Rattle.std.proofs.Common.{◌≡◌, drop, nat_lt}
use Rattle.std.specs.List.{list_any, flat_map}
use Rattle.lv_bind.specs.Limits.{lengths, value_texts}
use Rattle.lv_bind.proofs.limits.has_long_value.Given as goal

abbrev pub invariant-loop-literal : goal.invariant-loop-literal
invariant-loop-literal l =
    list_any (nat_lt 256) (lengths (flat_map (λ x. value_texts x.value) (drop l.literal-index l.values))) ≡ list_any (nat_lt 256) (lengths (flat_map (λ x. value_texts x.value) l.values))
