use Rattle.std.proofs.Common.{take}
use Rattle.std.specs.List.{AllByRecursion}
use Rattle.lv_near.specs.Small.{StaysSame}
use Rattle.lv_near.proofs.changes.all_stay_same.Given as goal

abbrev pub invariant-loop-part : goal.invariant-loop-part
invariant-loop-part l = AllByRecursion StaysSame (take l.part-index l.parts)
