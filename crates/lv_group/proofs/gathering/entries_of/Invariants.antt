use Rattle.std.proofs.Common.{◌≡◌, map, take}
use Rattle.lv_schema.specs.Tuples.{Tuple}
use Rattle.lv_group.proofs.gathering.entries_of.Given as goal

abbrev pub invariant-loop-tuple : goal.invariant-loop-tuple
invariant-loop-tuple l = l.entries.items ≡ map (λ (tuple : Tuple). (l.by, tuple)) (take l.tuple-index l.tuples)
