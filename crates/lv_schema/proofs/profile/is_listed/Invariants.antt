use Rattle.std.proofs.Common.{◌≡◌, drop}
use Rattle.lv_schema.specs.Bound.{has_col}
use Rattle.lv_schema.specs.JoinViews.{plain_columns}
use Rattle.lv_schema.proofs.profile.is_listed.Given as goal

abbrev pub invariant-loop-item : goal.invariant-loop-item
invariant-loop-item l =
    has_col l.column (plain_columns (drop l.item-index l.items)) ≡ has_col l.column (plain_columns l.items)
