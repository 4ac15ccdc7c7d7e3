use Rattle.std.proofs.Common.{◌≡◌, ◌+◌, ◌-◌, ◌++◌, filter, length, drop, take}
use Rattle.lv_shelf.specs.Chains.{joined}
use Rattle.lv_versions.specs.Versions.{state_at}
use Rattle.lv_versions.proofs.versions.rows_in.Given as goal

abbrev pub invariant-loop-at : goal.invariant-loop-at
invariant-loop-at g l = record {
  rows : l.rows ++ filter (g.T.Test.passed l.test) (state_at l.n (joined (drop l.at (take l.end l.seen)))) ≡ filter (g.T.Test.passed l.test) (state_at l.n (joined (drop l.first (take l.end l.seen))));
  cost : l.steps + length (state_at l.n (joined (drop l.at (take l.end l.seen)))) ≡ l.initial.steps + length (state_at l.n (joined (drop l.first (take l.end l.seen))));
}

abbrev pub decreases-loop-at : goal.decreases-loop-at
decreases-loop-at g l = l.end - l.at
