use Rattle.std.proofs.Common.{◌≡◌, ◌++◌, map, take}
use Rattle.lv_reach.specs.Reach.{of_alias}
use Rattle.lv_reach.proofs.changed.add_rows.Given as goal

abbrev pub invariant-loop-row : goal.invariant-loop-row
invariant-loop-row l = l.out ≡ l.initial.out ++ map (of_alias l.alias) (take l.row-index l.rows)
