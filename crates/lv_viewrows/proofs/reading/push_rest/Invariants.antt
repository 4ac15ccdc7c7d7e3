use Rattle.std.proofs.Common.{◌≡◌, ◌++◌, drop, filter}
use Rattle.lv_group.specs.Gathered.{has_tuples}
use Rattle.lv_viewrows.specs.Merged.{passing}
use Rattle.lv_viewrows.proofs.reading.push_rest.Given as goal

abbrev pub invariant-loop-at : goal.invariant-loop-at
invariant-loop-at g l = l.out.rows ++ passing l.view (g.T.Test.passed l.test) (filter has_tuples (drop l.at l.changes)) ≡ l.initial.out.rows ++ passing l.view (g.T.Test.passed l.test) (filter has_tuples (drop l.from l.changes))
