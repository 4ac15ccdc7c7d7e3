use Rattle.std.proofs.Common.{◌<◌, ◌≤◌, length}
use Rattle.lv_shelf.proofs.guessing.bounds_below.Given as goal

abbrev pub invariant-loop-step : goal.invariant-loop-step
invariant-loop-step l = record { some : 0 < l.step; within : l.high ≤ length l.places.list }

abbrev pub decreases-loop-step : goal.decreases-loop-step
decreases-loop-step l = l.high
