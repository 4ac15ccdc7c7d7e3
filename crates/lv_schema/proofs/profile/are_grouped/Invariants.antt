use Rattle.std.proofs.Common.{◌≡◌, drop}
use Rattle.lv_schema.specs.JoinViews.{plain_columns}
use Rattle.lv_schema.specs.Bound.{are_among}
use Rattle.lv_schema.proofs.profile.are_grouped.Given as goal

abbrev pub invariant-loop-item : goal.invariant-loop-item
invariant-loop-item l =
    are_among (plain_columns (drop l.item-index l.items)) l.groups ≡ are_among (plain_columns l.items) l.groups
