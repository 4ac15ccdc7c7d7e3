use Rattle.std.proofs.Common.{◌≡◌, ◌<◌, ◌+◌, ◌∷◌, ◌∙◌, length, get_or, arith, sym, ap, subst, drop, add-one, drop-cons}
use Rattle.lv_schema.specs.Policies.{chosen}
use Rattle.lv_schema.specs.UpkeepCases.{no_pending}
use Rattle.lv_picker.proofs.Best.{so_far, better_so_far, worse_so_far}
use Rattle.lv_picker.proofs.places.place.Goals as goal
use Rattle.lv_picker.proofs.places.place.Goals.{then-is_better, else-is_better}

pub loop-at-preserved : goal.loop-at-preserved
loop-at-preserved c =
    let kind = c.args.kind in
    let list = c.args.list.now in
    let at = c.loop-at.at in
    let best = c.loop-at.best in
    let b = get_or list best no_pending in
    let q = get_or list at no_pending in
    let lt : at < length list = c.loop-at-test.true in
    let front : drop at list ≡ q ∷ drop (at + 1) list = rw add-one (drop-cons list at no_pending lt) in
    let so : so_far kind best b at (q ∷ drop (at + 1) list) ≡ chosen kind list = ap (so_far kind best b at) (sym front) ∙ c.loop-at.invariant.so in
    elim c.if-is_better.branch [
      | then-is_better w ↦ record {
        so = subst (λ n. so_far kind n (get_or list n no_pending) (at + 1) (drop (at + 1) list) ≡ chosen kind list) (sym w.best-is) (better_so_far kind best b at q (drop (at + 1) list) (sym c.is_better.ensures ∙ w.if-is_better.true) ∙ so);
        within = omega (arith, w.best-is);
      }
      | else-is_better w ↦ record {
        so = subst (λ n. so_far kind n (get_or list n no_pending) (at + 1) (drop (at + 1) list) ≡ chosen kind list) (sym w.best-is) (worse_so_far kind best b at q (drop (at + 1) list) (sym c.is_better.ensures ∙ w.if-is_better.false) ∙ so);
        within = omega (arith, w.best-is, c.loop-at.invariant.within);
      }
    ]
