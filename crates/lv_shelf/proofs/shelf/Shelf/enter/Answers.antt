use Rattle.std.proofs.Common.{◌≡◌, ◌≤◌, [], ◌∙◌, sym, ap, subst, length, get_or, insert, Some, vec_capacity, arith}
use Rattle.lv_shelf.specs.Shelves.{IsOrder, LacksItem, items_at, slot_of}
use Rattle.lv_shelf.proofs.Orders.{fits, lacks_slot, lists_set, order_entered, other_is, place_is, room_at, room_set, value_set}
use Rattle.lv_shelf.proofs.Shelved.{insert_items, length_items}
use Rattle.lv_shelf.proofs.shelf.Shelf.enter.Goals as goal

pub at-slot-requires : goal.at-slot-requires
at-slot-requires g c =
    let s = c.self.inside in
    omega (arith, length_items s.slots.items s.order.list c.self.invariant.own.held, ap (λ r. length r.list) c.self.view_is, c.requires.at)

pub insert-requires : goal.insert-requires
insert-requires g c =
    let s = c.self.inside in
    let slots = s.slots.items in
    let others = c.args.self.now.others in
    let x = c.index_mut.result.now in
    let o = other_is slots s.order.list s.free.items s.order.room (vec_capacity s.free) s.others.items others c.args.order x c.self.invariant (ap (λ r. r.others) c.self.view_is) c.requires.order c.index_mut.ensures.value in
    let slot = place_is slots s.order.list c.args.self.now.list c.args.at c.at-slot.result c.self.invariant.own.held (ap (λ r. r.list) c.self.view_is) c.requires.at c.at-slot.ensures in
    let differ = lacks_slot slots c.at-slot.result slot.item x.list slot.there o.order.held (subst (LacksItem slot.item) (sym o.seen) (c.requires.absent slot.item slot.seen)) in
    record {
      place = omega (arith, c.requires.place, o.long);
      room = omega (arith, fits slots x.list c.at-slot.result slot.held differ o.order, room_at (length slots) s.others.items c.args.order x o.read o.within c.self.invariant.rooms);
    }

pub invariant_of-self : goal.invariant_of-self
invariant_of-self g c =
    let s = c.self.inside in
    let slots = s.slots.items in
    let others = c.args.self.now.others in
    let x = c.index_mut.result.now in
    let o = other_is slots s.order.list s.free.items s.order.room (vec_capacity s.free) s.others.items others c.args.order x c.self.invariant (ap (λ r. r.others) c.self.view_is) c.requires.order c.index_mut.ensures.value in
    let slot = place_is slots s.order.list c.args.self.now.list c.args.at c.at-slot.result c.self.invariant.own.held (ap (λ r. r.list) c.self.view_is) c.requires.at c.at-slot.ensures in
    let p = c.at-slot.result in
    let differ = lacks_slot slots p slot.item x.list slot.there o.order.held (subst (LacksItem slot.item) (sym o.seen) (c.requires.absent slot.item slot.seen)) in
    let y = c.insert.new.self in
    record {
      own = c.self.invariant.own;
      lists = lists_set slots s.others.items c.args.order y (subst (IsOrder slots) (sym c.insert.ensures.added) (order_entered slots x.list c.args.place p slot.held differ o.order)) c.self.invariant.lists;
      rooms = room_set (length slots) s.others.items c.args.order x y o.read o.within (omega (arith, c.insert.ensures.room)) c.self.invariant.rooms;
    }

pub returns-clause-entered : goal.returns-clause-entered
returns-clause-entered g c = λ thing e.
    let s = c.self.inside in
    let slots = s.slots.items in
    let others = c.args.self.now.others in
    let x = c.index_mut.result.now in
    let o = other_is slots s.order.list s.free.items s.order.room (vec_capacity s.free) s.others.items others c.args.order x c.self.invariant (ap (λ r. r.others) c.self.view_is) c.requires.order c.index_mut.ensures.value in
    let slot = place_is slots s.order.list c.args.self.now.list c.args.at c.at-slot.result c.self.invariant.own.held (ap (λ r. r.list) c.self.view_is) c.requires.at c.at-slot.ensures in
    let p = c.at-slot.result in
    let le : c.args.place ≤ length x.list = omega (arith, c.requires.place, o.long) in
    let same : slot_of slots p ≡ Some thing = slot.there ∙ sym slot.seen ∙ e in
    value_set slots s.others.items others c.args.order c.insert.new.self (insert (get_or others c.args.order []) c.args.place thing) (ap (λ r. r.others) c.self.view_is)
    (ap (items_at slots) c.insert.ensures.added ∙ insert_items slots x.list c.args.place p thing o.order.held le same ∙ ap (λ l. insert l c.args.place thing) o.seen)
