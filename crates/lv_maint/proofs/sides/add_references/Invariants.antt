use Rattle.std.proofs.Common.{◌≡◌, ◌++◌, take}
use Rattle.lv_join.specs.Ties.{seen}
use Rattle.lv_maint.proofs.sides.add_references.Given as goal

abbrev pub invariant-loop-row : goal.invariant-loop-row
invariant-loop-row l = seen l.refs.items ≡ seen l.initial.refs.items ++ take l.row-index l.rows
