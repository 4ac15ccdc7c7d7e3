use Rattle.std.proofs.Common.{◌≡◌, drop}
use Rattle.std.specs.List.{flat_map}
use Rattle.lv_bind.specs.Ranges.{wide_tuple}
use Rattle.lv_bind.specs.Sources.{first}
use Rattle.lv_bind.proofs.ranges.wide_inserted.Given as goal

abbrev pub invariant-loop-tuple : goal.invariant-loop-tuple
invariant-loop-tuple l =
    first (flat_map wide_tuple (drop l.tuple-index l.tuples)) ≡ first (flat_map wide_tuple l.tuples)
