use Rattle.std.proofs.Common.{◌≡◌, ◌++◌, drop}
use Rattle.lv_viewrows.specs.Kept.{groups_at}
use Rattle.lv_viewrows.specs.Merged.{merged, passing}
use Rattle.lv_viewrows.proofs.reading.push_compared.Given as goal

abbrev pub invariant-loop-at : goal.invariant-loop-at
invariant-loop-at g l =
    l.out.rows ++ passing l.view (g.T.Test.passed l.test) (merged (drop l.left l.changes) (groups_at l.n (drop l.at l.versions)))
    ≡ l.initial.out.rows ++ passing l.view (g.T.Test.passed l.test) (merged (drop l.next l.changes) (groups_at l.n (drop l.from l.versions)))
