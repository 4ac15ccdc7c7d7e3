use Rattle.std.proofs.Common.{◌≡◌, map, drop, nat_lt}
use Rattle.std.specs.List.{list_any}
use Rattle.lv_bind.specs.Limits.{lengths, compared_texts}
use Rattle.lv_bind.specs.Seen.{sides_seen}
use Rattle.lv_bind.proofs.limits.has_long_side.Given as goal

abbrev pub invariant-loop-left : goal.invariant-loop-left
invariant-loop-left l =
    list_any (nat_lt 256) (lengths (compared_texts (map sides_seen (drop l.left-index l.comparisons)))) ≡ list_any (nat_lt 256) (lengths (compared_texts (map sides_seen l.comparisons)))
