use Rattle.std.proofs.Common.{◌+◌, ◌<◌, ◌^◌, drop, length}
use Rattle.lv_reach.specs.Found.{with_found}
use Rattle.lv_reach.proofs.FoundLaws.{AreLeft}
use Rattle.lv_reach.proofs.near.NearRows.move_into.Given as goal

abbrev pub invariant-loop-row : goal.invariant-loop-row
invariant-loop-row l = record {
  few : l.at + length l.row-iterator < 2 ^ 63;
  left : AreLeft l.from l.at l.parts (with_found 0 l.initial.parts (drop l.from l.fn.self)) l.row-iterator;
}
