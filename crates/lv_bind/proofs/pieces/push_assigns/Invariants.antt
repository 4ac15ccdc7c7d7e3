use Rattle.std.proofs.Common.{◌≡◌, ◌++◌, map, drop}
use Rattle.std.specs.List.{flat_map}
use Rattle.lv_bind.specs.Pieces.{assign_columns}
use Rattle.lv_bind.specs.Seen.{column_seen}
use Rattle.lv_bind.proofs.pieces.push_assigns.Given as goal

abbrev pub invariant-loop-assign : goal.invariant-loop-assign
invariant-loop-assign l =
    map column_seen l.out ++ flat_map assign_columns (drop l.assign-index l.sets) ≡ map column_seen l.initial.out ++ flat_map assign_columns l.sets
