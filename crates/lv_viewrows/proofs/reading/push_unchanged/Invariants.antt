use Rattle.std.proofs.Common.{◌≡◌, ◌-◌, ◌++◌, drop, take}
use Rattle.lv_viewrows.specs.Kept.{groups_at}
use Rattle.lv_viewrows.specs.Merged.{passing}
use Rattle.lv_viewrows.proofs.reading.push_unchanged.Given as goal

abbrev pub invariant-loop-at : goal.invariant-loop-at
invariant-loop-at g l =
    let part = take l.end l.versions in
    l.out.rows ++ passing l.view (g.T.Test.passed l.test) (groups_at l.n (drop l.at part)) ≡ l.initial.out.rows ++ passing l.view (g.T.Test.passed l.test) (groups_at l.n (drop l.from part))

abbrev pub decreases-loop-at : goal.decreases-loop-at
decreases-loop-at g l = l.end - l.at
