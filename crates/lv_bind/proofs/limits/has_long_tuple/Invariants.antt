use Rattle.std.proofs.Common.{◌≡◌, drop, nat_lt}
use Rattle.std.specs.List.{list_any, flat_map}
use Rattle.lv_bind.specs.Limits.{lengths, tuple_texts}
use Rattle.lv_bind.proofs.limits.has_long_tuple.Given as goal

abbrev pub invariant-loop-tuple : goal.invariant-loop-tuple
invariant-loop-tuple l =
    list_any (nat_lt 256) (lengths (flat_map tuple_texts (drop l.tuple-index l.tuples))) ≡ list_any (nat_lt 256) (lengths (flat_map tuple_texts l.tuples))
