use Rattle.std.proofs.Common.{◌≡◌, ◌∙◌, sym, ap, ◌-◌, ◌<◌, ℕ, get_or, true, false, arith}
use Rattle.lv_shelf.specs.Shelves.{items_at}
use Rattle.lv_shelf.proofs.Cutting.{cut_at, cut_fails, cut_from, failed_from, got, got_within, not_not, passed_up_to}
use Rattle.lv_shelf.proofs.Shelved.{length_items}
use Rattle.lv_shelf.proofs.slots.is_cut_at.Goals as goal
use Rattle.lv_shelf.proofs.slots.is_cut_at.Goals.{else-at-gt0-via-then-at-gt0+else-not-passes, else-at-gt0-via-else-at-gt0}

pub returns-then-not-passes-clause-other : goal.returns-then-not-passes-clause-other
returns-then-not-passes-clause-other g c e h =
    let p = g.P.Test.passed c.args.test.now in
    let list = items_at c.args.slots.now c.args.places.now.list in
    let before = c.item_at.result.now in
    let passes = cut_at p c.args.at (c.args.at - 1) list before h (omega (arith, c.if-at-gt0.true)) in
    let is = ap p (got list (c.args.at - 1) before before c.item_at.ensures) in
    let said = c.passes.ensures in
    let fails = c.if-not-passes.true in
    cc

pub returns-then-at-len-clause-cut : goal.returns-then-at-len-clause-cut
returns-then-at-len-clause-cut g c e =
    let p = g.P.Test.passed c.args.test.now in
    let list = items_at c.args.slots.now c.args.places.now.list in
    let long = length_items c.args.slots.now c.args.places.now.list c.requires.held in
    let below : (k : ℕ) (d : g.row.T.Denot) → k < c.args.at → p (get_or list k d) ≡ true =
    elim c.else-at-gt0.branch [
      | else-at-gt0-via-then-at-gt0+else-not-passes w ↦ passed_up_to p list c.args.at w.item_at.result.now c.requires.falls w.if-at-gt0.true w.item_at.ensures (sym w.passes.ensures ∙ w.if-not-passes.false)
      | else-at-gt0-via-else-at-gt0 w ↦ λ k d lt. absurd (omega (arith, lt, w.if-at-gt0.false))
    ] in
    cut_from p list c.args.at (omega (arith, long, c.requires.within)) below (λ k d le lt. absurd (omega (arith, le, lt, long, c.if-at-len.true, c.len.ensures)))

pub returns-else-at-len-clause-cut : goal.returns-else-at-len-clause-cut
returns-else-at-len-clause-cut g c e =
    let p = g.P.Test.passed c.args.test.now in
    let list = items_at c.args.slots.now c.args.places.now.list in
    let long = length_items c.args.slots.now c.args.places.now.list c.requires.held in
    let below : (k : ℕ) (d : g.row.T.Denot) → k < c.args.at → p (get_or list k d) ≡ true =
    elim c.else-at-gt0.branch [
      | else-at-gt0-via-then-at-gt0+else-not-passes w ↦ passed_up_to p list c.args.at w.item_at.result.now c.requires.falls w.if-at-gt0.true w.item_at.ensures (sym w.passes.ensures ∙ w.if-not-passes.false)
      | else-at-gt0-via-else-at-gt0 w ↦ λ k d lt. absurd (omega (arith, lt, w.if-at-gt0.false))
    ] in
    let fails = sym c.passes-else-at-len.ensures ∙ not_not c.passes-else-at-len.result true e in
    cut_from p list c.args.at (omega (arith, long, c.requires.within)) below (failed_from p list c.args.at c.item_at-else-at-len.result.now c.requires.falls c.item_at-else-at-len.ensures fails)

pub returns-else-at-len-clause-other : goal.returns-else-at-len-clause-other
returns-else-at-len-clause-other g c e h =
    let p = g.P.Test.passed c.args.test.now in
    let list = items_at c.args.slots.now c.args.places.now.list in
    let here = c.item_at-else-at-len.result.now in
    let fails = cut_fails p c.args.at c.args.at list here h (omega arith) (got_within list c.args.at here c.item_at-else-at-len.ensures) in
    let is = ap p (got list c.args.at here here c.item_at-else-at-len.ensures) in
    let said = c.passes-else-at-len.ensures in
    let passes = not_not c.passes-else-at-len.result false e in
    cc
