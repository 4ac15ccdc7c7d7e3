use Rattle.std.proofs.Common.{◌≡◌, ◌≤◌, ◌-◌, length}
use Rattle.lv_shelf.proofs.guessing.bounds_above.Given as goal

abbrev pub invariant-loop-step : goal.invariant-loop-step
invariant-loop-step l = record { len : l.len ≡ length l.places.list; within : l.low ≤ l.len }

abbrev pub decreases-loop-step : goal.decreases-loop-step
decreases-loop-step l = l.len - l.low
