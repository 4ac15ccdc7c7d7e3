use Rattle.std.proofs.Common.{◌≡◌, ◌+◌, ◌<◌, length, List, suc, refl, ap, ◌∙◌, arith}
use Rattle.lv_reach.specs.declared.rows.AliasRow.{AliasRow}
use Rattle.lv_reach.specs.Cost.{looked_up, neighbours}
use Rattle.lv_reach.specs.Reach.{with_old}
use Rattle.lv_reach.specs.Walk.{put_all}
use Rattle.lv_reach.proofs.Asking.{on_err}
use Rattle.lv_reach.proofs.Costing.{fails_within, looked_more}
use Rattle.lv_reach.proofs.Questioning.{asked_more}
use Rattle.lv_reach.proofs.Walking.{neighbours_are, one_at, same_first, walk_goes_on}
use Rattle.lv_reach.proofs.walk.walk.Goals as goal

pub returns-in_err-visit-clause-most : goal.returns-in_err-visit-clause-most
returns-in_err-visit-clause-most g c =
    let links = c.args.links.now in
    let whole = with_old (g.S.OldRows.rows c.args.source.now) c.args.parts.now in
    let lt : c.loop-at.at < length c.loop-at.near = omega (arith, c.loop-at-test.true, c.len.ensures.len) in
    let a = one_at c.loop-at.near c.loop-at.at lt in
    let same = ap (λ (l : List AliasRow). length l) (neighbours_are links (g.S.OldRows.rows c.args.source.now) c.args.parts.now a.0 (length c.args.parts.now) refl) in
    on_err c.from_residual.result
    (fails_within links whole c.args.near.now c.loop-at.near c.loop-at.at c.loop-at.invariant.walk a.0 c.args.steps.now c.loop-at.steps c.visit.new.steps a.1 c.loop-at.invariant.cost
    (omega (arith, same, c.visit.ensures.most a.0 a.1)))

pub loop-at-preserved : goal.loop-at-preserved
loop-at-preserved g c =
    let links = c.args.links.now in
    let rows = g.S.OldRows.rows c.args.source.now in
    let parts = c.args.parts.now in
    let whole = with_old rows parts in
    let lt : c.loop-at.at < length c.loop-at.near = omega (arith, c.loop-at-test.true, c.len.ensures.len) in
    let a = one_at c.loop-at.near c.loop-at.at lt in
    let same = neighbours_are links rows parts a.0 (length parts) refl in
    let next : c.loop-at.at + 1 ≡ suc c.loop-at.at = omega arith in
    let new : c.visit.new.near ≡ put_all (neighbours links whole a.0) c.loop-at.near = c.in_ok-visit.ensures.near a.0 a.1 ∙ ap (λ l. put_all l c.loop-at.near) same in
    let long = ap (λ (l : List AliasRow). length l) same in
    let more = looked_more links whole c.args.near.now c.loop-at.near c.loop-at.at c.loop-at.invariant.walk (c.loop-at.at + 1) a.0 a.1 next in
    let first = same_first (neighbours links whole a.0) c.loop-at.near c.visit.new.near (c.loop-at.at + 1) new (omega (arith, lt)) in
    let kept = ap (looked_up links whole) first in
    record {
      walk = walk_goes_on links whole c.args.near.now c.loop-at.near c.visit.new.near c.loop-at.at (c.loop-at.at + 1) a.0 c.loop-at.invariant.walk a.1 next new;
      asked = asked_more links (length parts) c.loop-at.near c.visit.new.near c.loop-at.at (c.loop-at.at + 1) a.0 c.loop-at.asked c.visit.new.asked a.1 next first c.loop-at.invariant.asked (c.in_ok-visit.ensures.asked a.0 a.1);
      answered = c.in_ok-visit.ensures.answered;
      once = omega (arith, c.in_ok-visit.ensures.cost, c.loop-at.invariant.once);
      cost = omega (arith, c.visit.ensures.most a.0 a.1, long, more, kept, c.loop-at.invariant.cost);
    }
