use Rattle.std.proofs.Common.{◌≤◌, length, drop}
use Rattle.lv_condense.proofs.Joined.{Below}
use Rattle.lv_condense.proofs.collecting.place_behind.Given as goal

abbrev pub invariant-loop-at : goal.invariant-loop-at
invariant-loop-at l = record {
  within : l.at ≤ length l.touches;
  above : Below l.touch (drop l.at l.touches);
}

abbrev pub decreases-loop-at : goal.decreases-loop-at
decreases-loop-at l = l.at
