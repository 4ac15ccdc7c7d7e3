use Rattle.std.proofs.Common.{◌≡◌, ◌++◌, drop}
use Rattle.lv_viewrows.specs.Merged.{left_by, passing, up_to}
use Rattle.lv_viewrows.proofs.reading.push_up_to.Given as goal

abbrev pub invariant-loop-at : goal.invariant-loop-at
invariant-loop-at g l = record {
  rows : l.out.rows ++ passing l.view (g.T.Test.passed l.test) (up_to l.group (drop l.at l.changes)) ≡ l.initial.out.rows ++ passing l.view (g.T.Test.passed l.test) (up_to l.group (drop l.from l.changes));
  left : left_by l.group (drop l.at l.changes) ≡ left_by l.group (drop l.from l.changes);
}
