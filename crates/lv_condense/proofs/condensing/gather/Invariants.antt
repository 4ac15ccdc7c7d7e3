use Rattle.std.proofs.Common.{◌≡◌, ◌≤◌, ◌-◌, ◌++◌, length, drop}
use Rattle.lv_condense.specs.Touches.{by_key, gained_in, lost_in, Rises}
use Rattle.lv_condense.proofs.condensing.gather.Given as goal

abbrev pub invariant-loop-at : goal.invariant-loop-at
invariant-loop-at g l = record {
  within : l.at ≤ length l.touches;
  lost : (g.G.Gathers.net l.net).minus ++ by_key lost_in (drop l.at l.touches) ≡ by_key lost_in l.touches;
  gained : (g.G.Gathers.net l.net).plus ++ by_key gained_in (drop l.at l.touches) ≡ by_key gained_in l.touches;
  rises : Rises (drop l.at l.touches);
}

abbrev pub decreases-loop-at : goal.decreases-loop-at
decreases-loop-at g l = length l.touches - l.at
