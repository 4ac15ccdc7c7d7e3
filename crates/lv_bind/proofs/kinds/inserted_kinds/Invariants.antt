use Rattle.std.proofs.Common.{◌≡◌, drop}
use Rattle.std.specs.List.{flat_map}
use Rattle.lv_bind.specs.Kinds.{tuple_kinds}
use Rattle.lv_bind.specs.Sources.{first}
use Rattle.lv_bind.proofs.kinds.inserted_kinds.Given as goal

abbrev pub invariant-loop-tuple : goal.invariant-loop-tuple
invariant-loop-tuple l =
    first (flat_map (tuple_kinds l.columns) (drop l.tuple-index l.tuples)) ≡ first (flat_map (tuple_kinds l.columns) l.tuples)
