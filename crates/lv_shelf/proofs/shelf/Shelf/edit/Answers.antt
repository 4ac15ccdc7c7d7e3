use Rattle.std.proofs.Common.{◌≡◌, ◌∙◌, sym, ap, subst, length, map, set, Some, vec_capacity, arith}
use Rattle.std.proofs.lemmas.List.{length-set}
use Rattle.lv_shelf.specs.Shelves.{ChangesOnly, HaveRoom, items_at, lists_of, slot_of}
use Rattle.lv_shelf.proofs.Orders.{orders_inserted, others_edited, place_is}
use Rattle.lv_shelf.proofs.Shelved.{edited_items, edited_shelf, length_items}
use Rattle.lv_shelf.proofs.shelf.Shelf.edit.Goals as goal

pub at-requires : goal.at-requires
at-requires g c =
    let s = c.self.inside in
    omega (arith, length_items s.slots.items s.order.list c.self.invariant.own.held, ap (λ r. length r.list) c.self.view_is, c.requires)

pub edit_slot-requires : goal.edit_slot-requires
edit_slot-requires g c =
    let s = c.self.inside in
    let slots = s.slots.items in
    let order = s.order.list in
    let at = c.args.at in
    let p = c.at.result in
    let slot = place_is slots order c.args.self.now.list at p c.self.invariant.own.held (ap (λ r. r.list) c.self.view_is) c.requires c.at.ensures in
    slot.held

pub invariant_of-self : goal.invariant_of-self
invariant_of-self g c =
    let s = c.self.inside in
    let slots = s.slots.items in
    let order = s.order.list in
    let at = c.args.at in
    let p = c.at.result in
    let slot = place_is slots order c.args.self.now.list at p c.self.invariant.own.held (ap (λ r. r.list) c.self.view_is) c.requires c.at.ensures in
    let y = g.E.Edit.edited c.args.edit.now slot.item in
    rw (c.edit_slot.ensures.edited slot.item slot.there) (record {
      own = edited_shelf slots order s.free.items p y s.order.room (vec_capacity s.free) slot.held c.self.invariant.own;
      lists = orders_inserted slots p y (lists_of s.others.items) c.self.invariant.lists;
      rooms = subst (λ n. HaveRoom n s.others.items) (sym (length-set slots p (Some y))) c.self.invariant.rooms;
    })

pub returns-clause-edited : goal.returns-clause-edited
returns-clause-edited g c = λ item e.
    let s = c.self.inside in
    let slots = s.slots.items in
    let order = s.order.list in
    let at = c.args.at in
    let p = c.at.result in
    let slot = place_is slots order c.args.self.now.list at p c.self.invariant.own.held (ap (λ r. r.list) c.self.view_is) c.requires c.at.ensures in
    let y = g.E.Edit.edited c.args.edit.now item in
    let there : slot_of slots p ≡ Some item = slot.there ∙ sym slot.seen ∙ e in
    ap (λ l. items_at l order) (c.edit_slot.ensures.edited item there)
    ∙ ap (λ q. items_at (set slots q (Some y)) order) slot.read
    ∙ edited_items slots order at y c.self.invariant.own.held c.self.invariant.own.apart slot.within
    ∙ ap (λ r. set r.list at y) c.self.view_is

pub returns-clause-others : goal.returns-clause-others
returns-clause-others g c = λ only.
    let s = c.self.inside in
    let slots = s.slots.items in
    let order = s.order.list in
    let at = c.args.at in
    let p = c.at.result in
    let slot = place_is slots order c.args.self.now.list at p c.self.invariant.own.held (ap (λ r. r.list) c.self.view_is) c.requires c.at.ensures in
    let f = g.E.Edit.edited c.args.edit.now in
    ap (λ l. map (items_at l) (lists_of s.others.items)) (c.edit_slot.ensures.edited slot.item slot.there)
    ∙ ap (λ q. map (items_at (set slots q (Some (f slot.item)))) (lists_of s.others.items)) slot.read
    ∙ others_edited slots order f at slot.item (lists_of s.others.items) c.self.invariant.own.all c.self.invariant.own.held (subst (ChangesOnly f at) (sym (ap (λ r. r.list) c.self.view_is)) only) (ap (slot_of slots) (sym slot.read) ∙ slot.there) c.self.invariant.lists
    ∙ ap (λ r. map (map f) r.others) c.self.view_is

pub returns-clause-others_by : goal.returns-clause-others_by
returns-clause-others_by g c = λ f item e is only.
    let s = c.self.inside in
    let slots = s.slots.items in
    let order = s.order.list in
    let at = c.args.at in
    let p = c.at.result in
    let slot = place_is slots order c.args.self.now.list at p c.self.invariant.own.held (ap (λ r. r.list) c.self.view_is) c.requires c.at.ensures in
    let there : slot_of slots p ≡ Some item = slot.there ∙ sym slot.seen ∙ e in
    let ls = lists_of s.others.items in
    ap (λ l. map (items_at l) ls) (c.edit_slot.ensures.edited item there)
    ∙ ap (λ y. map (items_at (set slots p (Some y))) ls) (sym is)
    ∙ ap (λ q. map (items_at (set slots q (Some (f item)))) ls) slot.read
    ∙ others_edited slots order f at item ls c.self.invariant.own.all c.self.invariant.own.held (subst (ChangesOnly f at) (sym (ap (λ r. r.list) c.self.view_is)) only) (ap (slot_of slots) (sym slot.read) ∙ there) c.self.invariant.lists
    ∙ ap (λ r. map (map f) r.others) c.self.view_is
