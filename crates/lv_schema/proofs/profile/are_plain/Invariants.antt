use Rattle.std.proofs.Common.{◌≡◌, drop}
use Rattle.std.specs.List.{list_all}
use Rattle.lv_schema.specs.Bound.{is_plain}
use Rattle.lv_schema.proofs.profile.are_plain.Given as goal

abbrev pub invariant-loop-item : goal.invariant-loop-item
invariant-loop-item l =
    list_all is_plain (drop l.item-index l.items) ≡ list_all is_plain l.items
