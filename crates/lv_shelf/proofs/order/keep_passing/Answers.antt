use Rattle.std.proofs.Common.{◌≡◌, ◌+◌, ◌<◌, ◌∙◌, sym, ap, ap₂, length, take, drop, set, arith}
use Rattle.std.proofs.lemmas.List.{length-set}
use Rattle.lv_shelf.specs.Shelves.{passes_in}
use Rattle.lv_shelf.proofs.Orders.{IsKept, kept_step, skip_step}
use Rattle.lv_shelf.proofs.order.keep_passing.Goals as goal
use Rattle.lv_shelf.proofs.order.keep_passing.Goals.{then-passes_in, else-passes_in}

pub loop-at-preserved : goal.loop-at-preserved
loop-at-preserved g c =
    let test = passes_in (g.P.Test.passed c.args.test.now) c.args.slots.now in
    let xs = c.args.order.now.list in
    let ys = c.loop-at.order.list in
    let i = c.loop-at.at in
    let kept = c.loop-at.kept in
    let x = c.at-slot.result in
    let inv = c.loop-at.invariant in
    let lt : i < length xs = omega (arith, c.loop-at-test.true, c.len-at-end.ensures) in
    let so_far : IsKept test xs ys i kept = record { first = inv.first; rest = inv.rest } in
    elim c.if-passes_in.branch [
      | then-passes_in w ↦
          let list : c.if-passes_in.order.list ≡ set ys kept x = ap (λ o. o.list) w.order-is ∙ w.set.ensures.replaced in
          let step = kept_step test xs ys i kept x lt inv.long inv.within so_far c.at-slot.ensures (sym c.passes_in.ensures ∙ w.if-passes_in.true) in
          record {
            first = ap₂ (λ k l. take k l) w.kept-is list ∙ step.first;
            rest = ap (drop (i + 1)) list ∙ step.rest;
            long = ap length list ∙ length-set ys kept x ∙ inv.long;
            within = omega (arith, w.kept-is, inv.within);
            room = ap (λ o. o.room) w.order-is ∙ w.set.ensures.room ∙ inv.room;
          }
      | else-passes_in w ↦
          let step = skip_step test xs ys i kept x lt inv.long so_far c.at-slot.ensures (sym c.passes_in.ensures ∙ w.if-passes_in.false) in
          let list = ap (λ o. o.list) w.order-is in
          record {
            first = ap₂ (λ k l. take k l) w.kept-is list ∙ step.first;
            rest = ap (drop (i + 1)) list ∙ step.rest;
            long = ap length list ∙ inv.long;
            within = omega (arith, w.kept-is, inv.within);
            room = ap (λ o. o.room) w.order-is ∙ inv.room;
          }
    ]
