use Rattle.std.proofs.Common.{◌≡◌, drop}
use Rattle.std.specs.List.{flat_map}
use Rattle.lv_bind.specs.Ranges.{wide_value}
use Rattle.lv_bind.specs.Sources.{first}
use Rattle.lv_bind.proofs.ranges.wide_among.Given as goal

abbrev pub invariant-loop-literal : goal.invariant-loop-literal
invariant-loop-literal l =
    first (flat_map (λ x. wide_value x.value) (drop l.literal-index l.values)) ≡ first (flat_map (λ x. wide_value x.value) l.values)
