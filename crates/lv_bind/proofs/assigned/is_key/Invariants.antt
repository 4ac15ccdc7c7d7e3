use Rattle.std.proofs.Common.{◌≡◌, drop, nat_eq}
use Rattle.std.specs.List.{list_any}
use Rattle.lv_bind.proofs.assigned.is_key.Given as goal

abbrev pub invariant-loop-at : goal.invariant-loop-at
invariant-loop-at l =
    list_any (nat_eq l.column) (drop l.at-index l.key) ≡ list_any (nat_eq l.column) l.key
