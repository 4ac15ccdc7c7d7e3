use Rattle.std.proofs.Common.{◌≡◌, drop}
use Rattle.std.specs.List.{list_any}
use Rattle.lv_bind.specs.InUse.{same_column}
use Rattle.lv_bind.proofs.in_use.is_before.Given as goal

abbrev pub invariant-loop-other : goal.invariant-loop-other
invariant-loop-other l =
    list_any (same_column l.place) (drop l.other-index l.places) ≡ list_any (same_column l.place) l.places
