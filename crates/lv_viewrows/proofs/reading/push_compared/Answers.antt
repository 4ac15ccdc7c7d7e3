use Rattle.std.proofs.Common.{◌++◌, List, drop}
use Rattle.lv_schema.specs.declared.signed.SignedRow.{SignedRow}
use Rattle.lv_viewrows.specs.Kept.{groups_at}
use Rattle.lv_viewrows.specs.Merged.{merged, passing}
use Rattle.lv_viewrows.proofs.Walking.{walk_there}
use Rattle.lv_viewrows.proofs.reading.push_compared.Goals as goal

pub loop-at-preserved : goal.loop-at-preserved
loop-at-preserved g c =
    let view = c.args.view.now in
    let p = g.T.Test.passed c.args.test.now in
    let changes = c.args.changes.now in
    let list = c.args.versions.now in
    walk_there c.args.n c.loop-at.at c.get.result.now list c.get.ensures (λ (groups : List SignedRow). c.loop-at.out.rows ++ passing view p (merged (drop c.loop-at.left changes) groups))
    (λ (groups : List SignedRow). c.push_version.new.out.rows ++ passing view p (merged (drop c.in_ok-left.left changes) groups)) c.in_ok-left.ensures.rows (c.args.out.now.rows ++ passing view p (merged (drop c.args.next changes) (groups_at c.args.n (drop c.args.from list)))) c.loop-at.invariant
