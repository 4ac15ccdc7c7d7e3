use Rattle.std.proofs.Common.{◌≡◌, ◌-◌, ◌≤◌, ◌++◌, drop}
use Rattle.lv_viewrows.specs.Kept.{groups_at}
use Rattle.lv_viewrows.specs.Merged.{merged, passing}
use Rattle.lv_viewrows.proofs.reading.rows_in_order.Given as goal

abbrev pub invariant-loop-at : goal.invariant-loop-at
invariant-loop-at g l = record {
  within : l.at ≤ l.end;
  rows : l.out.rows ++ passing l.view (g.T.Test.passed l.test) (merged (drop l.next l.changes) (groups_at l.n (drop l.at l.versions))) ≡ passing l.view (g.T.Test.passed l.test) (merged l.changes (groups_at l.n l.versions));
}

abbrev pub decreases-loop-at : goal.decreases-loop-at
decreases-loop-at g l = l.end - l.at
