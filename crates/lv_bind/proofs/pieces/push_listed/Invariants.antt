use Rattle.std.proofs.Common.{◌≡◌, ◌++◌, map, drop}
use Rattle.lv_bind.specs.Seen.{column_seen}
use Rattle.lv_bind.proofs.pieces.push_listed.Given as goal

abbrev pub invariant-loop-column : goal.invariant-loop-column
invariant-loop-column l =
    map column_seen l.out ++ drop l.column-index l.columns ≡ map column_seen l.initial.out ++ l.columns
