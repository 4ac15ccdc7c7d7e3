use Rattle.std.proofs.Common.{◌++◌, arith}
use Rattle.lv_viewrows.specs.Kept.{groups_at}
use Rattle.lv_viewrows.specs.Merged.{passing}
use Rattle.lv_viewrows.proofs.Unchanged.{next_unchanged, none_unchanged}
use Rattle.lv_viewrows.proofs.reading.push_run.Goals as goal

pub loop-i-preserved : goal.loop-i-preserved
loop-i-preserved g c =
    let view = c.args.view.now in
    let p = g.T.Test.passed c.args.test.now in
    next_unchanged view p c.args.n c.loop-i.i c.get.result.now c.args.run.now c.loop-i.out.rows c.push_if_there.new.out.rows (c.args.out.now.rows ++ passing view p (groups_at c.args.n c.args.run.now)) c.get.ensures c.in_ok-push_if_there.ensures
    c.loop-i.invariant

pub returns : goal.returns
returns g c =
    let view = c.args.view.now in
    let p = g.T.Test.passed c.args.test.now in
    none_unchanged view p c.args.n c.loop-i.i c.args.run.now c.loop-i.out.rows (c.args.out.now.rows ++ passing view p (groups_at c.args.n c.args.run.now)) (omega (arith, c.loop-i-test.false, c.len-i-end.ensures)) c.loop-i.invariant
