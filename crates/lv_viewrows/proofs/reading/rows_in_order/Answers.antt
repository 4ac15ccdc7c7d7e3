use Rattle.std.proofs.Common.{◌≡◌, ◌≤◌, ◌++◌, drop, length, sym, ap, ◌∙◌, arith}
use Rattle.lv_viewrows.specs.Kept.{groups_at}
use Rattle.lv_viewrows.specs.Merged.{merged, passing}
use Rattle.lv_viewrows.specs.Standing.{Precedes}
use Rattle.lv_viewrows.proofs.Narrowing.{apart_drop, without_front, without_rest}
use Rattle.lv_viewrows.proofs.Unchanged.{rows_unchanged}
use Rattle.lv_viewrows.proofs.reading.rows_in_order.Goals as goal

pub loop-at-init : goal.loop-at-init
loop-at-init g c =
    let view = c.args.view.now in
    let p = g.T.Test.passed c.args.test.now in
    let rest = passing view p (merged c.args.changes.now (groups_at c.args.n (drop c.args.from c.args.versions.now))) in
    record {
      within = c.requires.forward;
      rows = ap (λ rows. rows ++ rest) c.in_ok-room_for.ensures ∙ without_front view p c.args.n c.args.from c.args.versions.now c.args.changes.now c.requires.order c.requires.before;
    }

pub loop-at-preserved : goal.loop-at-preserved
loop-at-preserved g c =
    let view = c.args.view.now in
    let p = g.T.Test.passed c.args.test.now in
    let n = c.args.n in
    let list = c.args.versions.now in
    let changes = c.args.changes.now in
    let near = c.end_below-near in
    let within : near.result ≤ length list = omega (arith, near.ensures.within, c.requires.within) in
    record {
      within = grind (arith, c.min-at.ensures);
      rows = c.in_ok-next.ensures
          ∙ rows_unchanged view p n c.loop-at.at near.result (drop c.loop-at.next changes) list c.loop-at.out.rows c.push_unchanged.new.out.rows (passing view p (merged changes (groups_at n list))) near.ensures.forward within near.ensures.below
          c.in_ok-push_unchanged.ensures c.loop-at.invariant.rows;
    }

pub returns : goal.returns
returns g c =
    let view = c.args.view.now in
    let p = g.T.Test.passed c.args.test.now in
    let n = c.args.n in
    let list = c.args.versions.now in
    let changes = drop c.loop-at.next c.args.changes.now in
    let end : c.loop-at.at ≡ c.args.end = omega (arith, c.loop-at.invariant.within, c.loop-at-test.false) in
    c.in_ok-push_rest.ensures
    ∙ ap (λ rows. c.loop-at.out.rows ++ rows) (sym (without_rest view p n (drop c.args.end list) changes (apart_drop Precedes c.args.end list c.requires.order) c.requires.behind))
    ∙ ap (λ at. c.loop-at.out.rows ++ passing view p (merged changes (groups_at n (drop at list)))) (sym end)
    ∙ c.loop-at.invariant.rows
