use Rattle.std.proofs.Common.{◌≡◌, ◌++◌, map, drop}
use Rattle.lv_bind.specs.Seen.{column_seen}
use Rattle.lv_bind.proofs.pieces.push_ordered.Given as goal

abbrev pub invariant-loop-column : goal.invariant-loop-column
invariant-loop-column l =
    map column_seen l.out ++ map (λ by. by.0) (drop l.column-index l.order) ≡ map column_seen l.initial.out ++ map (λ by. by.0) l.order
