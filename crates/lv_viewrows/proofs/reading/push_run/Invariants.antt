use Rattle.std.proofs.Common.{◌≡◌, ◌++◌, drop}
use Rattle.lv_viewrows.specs.Kept.{groups_at}
use Rattle.lv_viewrows.specs.Merged.{passing}
use Rattle.lv_viewrows.proofs.reading.push_run.Given as goal

abbrev pub invariant-loop-i : goal.invariant-loop-i
invariant-loop-i g l = l.out.rows ++ passing l.view (g.T.Test.passed l.test) (groups_at l.n (drop l.i l.run)) ≡ l.initial.out.rows ++ passing l.view (g.T.Test.passed l.test) (groups_at l.n l.run)
