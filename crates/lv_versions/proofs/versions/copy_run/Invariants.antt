use Rattle.std.proofs.Common.{◌≡◌, ◌+◌, ◌++◌, filter, length, drop, take}
use Rattle.lv_shelf.specs.Chains.{joined}
use Rattle.lv_versions.specs.Versions.{state_at}
use Rattle.lv_versions.proofs.versions.copy_run.Given as goal

abbrev pub invariant-loop-i : goal.invariant-loop-i
invariant-loop-i g l =
    let chains = take (length l.run) (drop l.first l.seen) in
    record {
      rows : l.rows ++ filter (g.T.Test.passed l.test) (state_at l.n (joined (drop l.i chains))) ≡ l.initial.rows ++ filter (g.T.Test.passed l.test) (state_at l.n (joined chains));
      cost : l.steps + length (state_at l.n (joined (drop l.i chains))) ≡ l.initial.steps + length (state_at l.n (joined chains));
    }
