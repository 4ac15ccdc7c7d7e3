use Rattle.std.proofs.Common.{◌≡◌, ◌<◌, ◌∷◌, ◌+◌, ◌++◌, refl, sym, ◌∙◌, ap, length, drop, get_or, arith}
use Rattle.std.proofs.lemmas.List.{drop_more, get_or_read}
use Rattle.lv_shelf.specs.Shelves.{cleared, dropped, clear_of, passes_in}
use Rattle.lv_shelf.proofs.Shelved.{freed_step, length_clear, length_freed}
use Rattle.lv_shelf.proofs.slots.clear_failing.Goals as goal

pub loop-at-preserved : goal.loop-at-preserved
loop-at-preserved g c =
    let test = g.P.Test.passed c.args.test.now in
    let order = c.args.order.now.list in
    let i = c.loop-at.at in
    let p = c.at.result in
    let lt : i < length order = omega (arith, c.loop-at-test.true, c.len-at-end.ensures) in
    let read : p ≡ get_or order i 0 = get_or_read order i p lt c.at.ensures 0 in
    let slots = c.loop-at.slots.items in
    let free = c.loop-at.free.items in
    let b = passes_in test slots p in
    let more = drop_more order i 0 lt ∙ ap (λ q. q ∷ drop (i + 1) order) (sym read) in
    record {
      room = omega (arith, c.loop-at.invariant.room, lt, ap length c.clear_slot.ensures.freed, length_freed b free p, c.clear_slot.ensures.capacity);
      capacity = c.clear_slot.ensures.capacity ∙ c.loop-at.invariant.capacity;
      long = ap length c.clear_slot.ensures.cleared ∙ length_clear b slots p ∙ c.loop-at.invariant.long;
      cleared = ap (λ s. cleared test s (drop (i + 1) order)) c.clear_slot.ensures.cleared ∙ ap (cleared test slots) (sym more) ∙ c.loop-at.invariant.cleared;
      freed = ap (λ s. c.clear_slot.new.free.items ++ dropped test s (drop (i + 1) order)) c.clear_slot.ensures.cleared
          ∙ ap (λ f. f ++ dropped test (clear_of b slots p) (drop (i + 1) order)) c.clear_slot.ensures.freed
          ∙ freed_step test slots free p (drop (i + 1) order) b refl
          ∙ ap (λ l. free ++ dropped test slots l) (sym more)
          ∙ c.loop-at.invariant.freed;
    }
