use Rattle.std.proofs.Common.{◌++◌, drop, take, arith}
use Rattle.std.proofs.lemmas.List.{length-take-le}
use Rattle.lv_viewrows.specs.Kept.{groups_at}
use Rattle.lv_viewrows.specs.Merged.{passing}
use Rattle.lv_viewrows.proofs.Unchanged.{none_unchanged, run_unchanged}
use Rattle.lv_viewrows.proofs.reading.push_unchanged.Goals as goal

pub loop-at-preserved : goal.loop-at-preserved
loop-at-preserved g c =
    let view = c.args.view.now in
    let p = g.T.Test.passed c.args.test.now in
    let list = c.args.versions.now in
    rw c.len-at.ensures
    (run_unchanged view p c.args.n c.loop-at.at c.args.end c.run-run.result list c.loop-at.out.rows c.push_run.new.out.rows (c.args.out.now.rows ++ passing view p (groups_at c.args.n (drop c.args.from (take c.args.end list)))) c.run-run.ensures.run c.run-run.ensures.within
    c.in_ok-push_run.ensures c.loop-at.invariant)

pub returns : goal.returns
returns g c =
    let view = c.args.view.now in
    let p = g.T.Test.passed c.args.test.now in
    let part = take c.args.end c.args.versions.now in
    none_unchanged view p c.args.n c.loop-at.at part c.loop-at.out.rows (c.args.out.now.rows ++ passing view p (groups_at c.args.n (drop c.args.from part))) (omega (arith, c.loop-at-test.false, length-take-le c.args.end c.args.versions.now c.requires))
    c.loop-at.invariant
