use Rattle.std.proofs.Common.{◌≡◌, drop}
use Rattle.std.specs.List.{flat_map}
use Rattle.lv_bind.specs.Ranges.{wide_assign}
use Rattle.lv_bind.specs.Sources.{first}
use Rattle.lv_bind.proofs.ranges.wide_set.Given as goal

abbrev pub invariant-loop-assign : goal.invariant-loop-assign
invariant-loop-assign l =
    first (flat_map (λ a. wide_assign a.value) (drop l.assign-index l.sets)) ≡ first (flat_map (λ a. wide_assign a.value) l.sets)
