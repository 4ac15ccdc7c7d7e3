use Rattle.std.proofs.Common.{◌∙◌, sym, ap, subst, length, set, Some, vec_capacity, arith}
use Rattle.std.proofs.lemmas.List.{length-map, length-set}
use Rattle.lv_shelf.specs.Shelves.{HaveRoom, items_at, lists_of}
use Rattle.lv_shelf.proofs.Orders.{orders_inserted, place_is}
use Rattle.lv_shelf.proofs.Shelved.{edited_items, edited_shelf, length_items, taken_in}
use Rattle.lv_shelf.proofs.shelf.Shelf.set.Goals as goal

pub at-requires : goal.at-requires
at-requires g c =
    let s = c.self.inside in
    omega (arith, length_items s.slots.items s.order.list c.self.invariant.own.held, ap (λ r. length r.list) c.self.view_is, c.requires)

pub set_slot-requires : goal.set_slot-requires
set_slot-requires g c =
    let s = c.self.inside in
    let slots = s.slots.items in
    let order = s.order.list in
    let at = c.args.at in
    let p = c.at.result in
    let slot = place_is slots order c.args.self.now.list at p c.self.invariant.own.held (ap (λ r. r.list) c.self.view_is) c.requires c.at.ensures in
    taken_in slots p slot.held

pub invariant_of-self : goal.invariant_of-self
invariant_of-self g c =
    let s = c.self.inside in
    let slots = s.slots.items in
    let order = s.order.list in
    let at = c.args.at in
    let p = c.at.result in
    let slot = place_is slots order c.args.self.now.list at p c.self.invariant.own.held (ap (λ r. r.list) c.self.view_is) c.requires c.at.ensures in
    let y = c.args.item in
    rw c.set_slot.ensures (record {
      own = edited_shelf slots order s.free.items p y s.order.room (vec_capacity s.free) slot.held c.self.invariant.own;
      lists = orders_inserted slots p y (lists_of s.others.items) c.self.invariant.lists;
      rooms = subst (λ n. HaveRoom n s.others.items) (sym (length-set slots p (Some y))) c.self.invariant.rooms;
    })

pub returns-clause-replaced : goal.returns-clause-replaced
returns-clause-replaced g c =
    let s = c.self.inside in
    let slots = s.slots.items in
    let order = s.order.list in
    let at = c.args.at in
    let p = c.at.result in
    let slot = place_is slots order c.args.self.now.list at p c.self.invariant.own.held (ap (λ r. r.list) c.self.view_is) c.requires c.at.ensures in
    let y = c.args.item in
    ap (λ l. items_at l order) c.set_slot.ensures
    ∙ ap (λ q. items_at (set slots q (Some y)) order) slot.read
    ∙ edited_items slots order at y c.self.invariant.own.held c.self.invariant.own.apart slot.within
    ∙ ap (λ r. set r.list at y) c.self.view_is

pub returns-clause-others : goal.returns-clause-others
returns-clause-others g c =
    let s = c.self.inside in
    let ls = lists_of s.others.items in
    length-map ls (items_at c.set_slot.new.slots.items) ∙ sym (length-map ls (items_at s.slots.items)) ∙ ap (λ r. length r.others) c.self.view_is
