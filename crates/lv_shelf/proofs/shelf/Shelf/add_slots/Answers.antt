use Rattle.std.proofs.Common.{◌∙◌, ap, length, length-append, vec_capacity, arith}
use Rattle.lv_shelf.specs.Shelves.{falling}
use Rattle.lv_shelf.proofs.Orders.{others_grown, roomier, shelved_grown}
use Rattle.lv_shelf.proofs.Shelved.{grown_items, length_falling}
use Rattle.lv_shelf.proofs.shelf.Shelf.add_slots.Goals as goal

pub invariant_of-self : goal.invariant_of-self
invariant_of-self g c =
    let s = c.self.inside in
    let e = c.make_room.ensures in
    rw (e.slots, e.order, e.free)
    (roomier s.slots.items s.order.list s.free.items s.order.room (vec_capacity s.free) c.make_room.new.order.room (vec_capacity c.make_room.new.free) s.others.items c.make_room.new.others.items
    e.order_kept e.free_kept e.others e.others_kept c.self.invariant)

pub push_slots-requires-clause-numbers : goal.push_slots-requires-clause-numbers
push_slots-requires-clause-numbers g c =
    omega (arith, ap length c.make_room.ensures.slots, c.self.inside.slots.ok.0, c.len-slots.ensures, c.in-Some.ensures, c.min-count.ensures, c.if-missing-left.false)

pub invariant_of-self-2 : goal.invariant_of-self-2
invariant_of-self-2 g c =
    let s = c.self.inside in
    let e = c.make_room.ensures in
    let ok = c.in_ok-make_room.ensures in
    let n = c.min-count.result in
    rw (c.push_slots.ensures.slots, c.push_slots.ensures.free, e.slots, e.order, e.free)
    (shelved_grown s.slots.items s.order.list s.free.items n s.order.room (vec_capacity s.free) c.make_room.new.order.room (vec_capacity c.push_slots.new.free) s.others.items c.make_room.new.others.items
    ok.order_room (omega (arith, ok.free_room, c.push_slots.ensures.capacity)) e.others ok.others_room c.self.invariant)

pub returns-clause-same : goal.returns-clause-same
returns-clause-same g c =
    let s = c.self.inside in
    let e = c.make_room.ensures in
    rw (c.push_slots.ensures.slots, e.slots, e.order) (grown_items s.slots.items c.min-count.result s.order.list ∙ ap (λ r. r.list) c.self.view_is)

pub returns-clause-others : goal.returns-clause-others
returns-clause-others g c =
    let s = c.self.inside in
    let e = c.make_room.ensures in
    rw (c.push_slots.ensures.slots, e.slots, e.others) (others_grown s.slots.items c.min-count.result _ ∙ ap (λ r. r.others) c.self.view_is)

pub returns-clause-room : goal.returns-clause-room
returns-clause-room g c =
    let s = c.self.inside in
    let n = c.min-count.result in
    let first = length c.make_room.new.slots.items in
    omega (arith, ap length c.push_slots.ensures.free, length-append c.make_room.new.free.items (falling first n), length_falling first n, ap length c.make_room.ensures.free, ap (λ r. r.spare) c.self.view_is, c.min-count.ensures, c.if-missing-left.false)
