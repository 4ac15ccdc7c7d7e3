use Rattle.std.proofs.Common.{◌≡◌, drop}
use Rattle.lv_schema.specs.JoinViews.{plain_columns}
use Rattle.lv_schema.specs.Bound.{are_among}
use Rattle.lv_schema.proofs.profile.are_listed.Given as goal

abbrev pub invariant-loop-col : goal.invariant-loop-col
invariant-loop-col l =
    are_among (drop l.col-index l.cols) (plain_columns l.items) ≡ are_among l.cols (plain_columns l.items)
