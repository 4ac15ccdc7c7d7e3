use Rattle.std.proofs.Common.{◌≡◌, ◌++◌, map, drop}
use Rattle.lv_bind.specs.Pieces.{sides_of, joined}
use Rattle.lv_bind.specs.Seen.{sides_seen}
use Rattle.lv_bind.proofs.pieces.+push_sides.Given as goal

abbrev pub invariant-push_sides_of_each-loop-cond : goal.invariant-push_sides_of_each-loop-cond
invariant-push_sides_of_each-loop-cond l =
    map sides_seen l.out ++ joined (map sides_of (drop l.cond-index l.conds)) ≡ map sides_seen l.initial.out ++ joined (map sides_of l.conds)
