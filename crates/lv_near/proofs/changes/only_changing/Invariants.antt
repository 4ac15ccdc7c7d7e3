use Rattle.std.proofs.Common.{◌-◌, length, take}
use Rattle.std.specs.List.{AllByRecursion}
use Rattle.lv_near.specs.Small.{StaysSame}
use Rattle.lv_near.proofs.changes.only_changing.Given as goal

abbrev pub invariant-loop-at : goal.invariant-loop-at
invariant-loop-at l = AllByRecursion StaysSame (take l.at l.parts)

abbrev pub decreases-loop-at : goal.decreases-loop-at
decreases-loop-at l = length l.parts - l.at
