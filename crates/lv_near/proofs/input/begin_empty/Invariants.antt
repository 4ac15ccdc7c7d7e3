use Rattle.std.proofs.Common.{take}
use Rattle.lv_near.specs.Small.{AreEmptyAt}
use Rattle.lv_near.proofs.input.begin_empty.Given as goal

abbrev pub invariant-loop-table : goal.invariant-loop-table
invariant-loop-table l = AreEmptyAt l.at.base.now l.at.lo (take l.table-index l.table-items)
