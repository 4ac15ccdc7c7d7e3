use Rattle.std.proofs.Common.{◌≡◌, ◌∙◌, sym, ap, subst, length, map, filter, vec_capacity}
use Rattle.std.specs.List.{AllByRecursion}
use Rattle.lv_shelf.specs.Shelves.{HaveRoom, IsOrder, cleared, items_at, lists_of, passes_in}
use Rattle.lv_shelf.proofs.Orders.{orders_kept, others_kept}
use Rattle.lv_shelf.proofs.Shelved.{in_range, kept_items, kept_shelf, length_cleared}
use Rattle.lv_shelf.proofs.shelf.Shelf.keep.Goals as goal

pub clear_failing-requires-clause-within : goal.clear_failing-requires-clause-within
clear_failing-requires-clause-within g c =
    let s = c.self.inside in
    in_range s.slots.items s.order.list c.self.invariant.own.held

pub invariant_of-self : goal.invariant_of-self
invariant_of-self g c =
    let s = c.self.inside in
    let slots = s.slots.items in
    let order = s.order.list in
    let test = g.P.Test.passed c.args.test.now in
    let after = cleared test slots order in
    let lists : lists_of c.keep_each.new.orders.items ≡ map (filter (passes_in test slots)) (lists_of s.others.items) = c.keep_each.ensures.kept ∙ ap (λ l. map (filter (passes_in test l)) (lists_of s.others.items)) c.as_slice.ensures.value in
    rw (c.keep_taken.ensures.kept, c.as_slice-2.ensures.value, c.clear_failing.ensures.cleared, c.clear_failing.ensures.freed, c.keep_taken.ensures.room, c.clear_failing.ensures.capacity) (record {
      own = kept_shelf test slots order s.free.items s.order.room (vec_capacity s.free) c.self.invariant.own;
      lists = subst (AllByRecursion (IsOrder after)) (sym lists) (orders_kept test slots order (lists_of s.others.items) c.self.invariant.lists);
      rooms = subst (λ n. HaveRoom n c.keep_each.new.orders.items) (sym (length_cleared test slots order)) (c.keep_each.ensures.room (length slots) c.self.invariant.rooms);
    })

pub returns-clause-kept : goal.returns-clause-kept
returns-clause-kept g c =
    let s = c.self.inside in
    let test = g.P.Test.passed c.args.test.now in
    rw (c.keep_taken.ensures.kept, c.as_slice-2.ensures.value, c.clear_failing.ensures.cleared)
    (kept_items test s.slots.items s.order.list c.self.invariant.own.held c.self.invariant.own.apart ∙ ap (λ r. filter test r.list) c.self.view_is)

pub returns-clause-others : goal.returns-clause-others
returns-clause-others g c =
    let s = c.self.inside in
    let slots = s.slots.items in
    let order = s.order.list in
    let test = g.P.Test.passed c.args.test.now in
    let ls = lists_of s.others.items in
    let lists : lists_of c.keep_each.new.orders.items ≡ map (filter (passes_in test slots)) ls = c.keep_each.ensures.kept ∙ ap (λ l. map (filter (passes_in test l)) ls) c.as_slice.ensures.value in
    ap (λ l. map (items_at l) (lists_of c.keep_each.new.orders.items)) c.clear_failing.ensures.cleared
    ∙ ap (map (items_at (cleared test slots order))) lists
    ∙ others_kept test slots order ls
    ∙ ap (λ r. map (filter test) r.others) c.self.view_is
