use Rattle.std.proofs.Common.{◌≡◌, ◌++◌, map, drop}
use Rattle.lv_bind.specs.Pieces.{compared_columns}
use Rattle.lv_bind.specs.Seen.{sides_seen}
use Rattle.lv_bind.specs.Seen.{column_seen}
use Rattle.lv_bind.proofs.pieces.push_compared.Given as goal

abbrev pub invariant-loop-left : goal.invariant-loop-left
invariant-loop-left l =
    map column_seen l.out ++ compared_columns (map sides_seen (drop l.left-index l.sides)) ≡ map column_seen l.initial.out ++ compared_columns (map sides_seen l.sides)
