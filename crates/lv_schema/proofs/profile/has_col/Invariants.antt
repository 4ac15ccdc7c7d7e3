use Rattle.std.proofs.Common.{◌≡◌, drop}
use Rattle.lv_schema.specs.Bound.{has_col}
use Rattle.lv_schema.proofs.profile.has_col.Given as goal

abbrev pub invariant-loop-other : goal.invariant-loop-other
invariant-loop-other l =
    has_col l.col (drop l.other-index l.cols) ≡ has_col l.col l.cols
