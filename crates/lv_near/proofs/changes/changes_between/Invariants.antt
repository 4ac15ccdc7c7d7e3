use Rattle.std.proofs.Common.{◌≡◌, map, take}
use Rattle.lv_near.specs.Small.{change_in}
use Rattle.lv_near.proofs.changes.changes_between.Given as goal

abbrev pub invariant-loop-alias : goal.invariant-loop-alias
invariant-loop-alias l = l.changes ≡ map (change_in l.at.base.now l.at.lo l.at.hi) (take l.alias l.at.tables.now)
