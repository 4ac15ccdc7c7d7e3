use Rattle.std.proofs.Common.{◌≡◌, ◌≤◌, [], ◌∙◌, sym, ap, subst, length, get_or, insert, Some, arith}
use Rattle.lv_shelf.specs.Shelves.{IsOrder, LacksItem, items_at, slot_of}
use Rattle.lv_shelf.proofs.ChainShelves.{newest_is, other_among}
use Rattle.lv_shelf.proofs.Orders.{fits, lacks_slot, lists_set, order_entered, room_at, room_set, value_set}
use Rattle.lv_shelf.proofs.Shelved.{insert_items}
use Rattle.lv_shelf.proofs.chain_shelf.ChainShelf.enter.Goals as goal

pub insert-requires-clause-place : goal.insert-requires-clause-place
insert-requires-clause-place g c =
    let s = c.self.inside in
    let slots = s.slots.items in
    let others = c.args.self.now.others in
    let x = c.index_mut.result.now in
    let o = other_among slots s.others.items others c.args.order x c.self.invariant.lists (ap (λ r. r.others) c.self.view_is) c.requires.order c.index_mut.ensures.value in
    omega (arith, c.requires.place, o.long)

pub insert-requires-clause-room : goal.insert-requires-clause-room
insert-requires-clause-room g c =
    let s = c.self.inside in
    let slots = s.slots.items in
    let others = c.args.self.now.others in
    let x = c.index_mut.result.now in
    let o = other_among slots s.others.items others c.args.order x c.self.invariant.lists (ap (λ r. r.others) c.self.view_is) c.requires.order c.index_mut.ensures.value in
    let p = c.newest_in-slot.result in
    let slot = newest_is slots s.chains.chains c.args.self.now.chains c.args.chain p c.self.invariant.own.held c.self.invariant.some (ap (λ r. r.chains) c.self.view_is) c.requires.chain c.newest_in-slot.ensures in
    let differ = lacks_slot slots p slot.item x.list slot.there o.order.held (subst (LacksItem slot.item) (sym o.seen) (c.requires.absent slot.item slot.seen)) in
    omega (arith, fits slots x.list p slot.held differ o.order, room_at (length slots) s.others.items c.args.order x o.read o.within c.self.invariant.rooms)

pub invariant_of-self : goal.invariant_of-self
invariant_of-self g c =
    let s = c.self.inside in
    let slots = s.slots.items in
    let others = c.args.self.now.others in
    let x = c.index_mut.result.now in
    let o = other_among slots s.others.items others c.args.order x c.self.invariant.lists (ap (λ r. r.others) c.self.view_is) c.requires.order c.index_mut.ensures.value in
    let p = c.newest_in-slot.result in
    let slot = newest_is slots s.chains.chains c.args.self.now.chains c.args.chain p c.self.invariant.own.held c.self.invariant.some (ap (λ r. r.chains) c.self.view_is) c.requires.chain c.newest_in-slot.ensures in
    let differ = lacks_slot slots p slot.item x.list slot.there o.order.held (subst (LacksItem slot.item) (sym o.seen) (c.requires.absent slot.item slot.seen)) in
    let y = c.insert.new.self in
    record {
      own = c.self.invariant.own;
      lists = lists_set slots s.others.items c.args.order y (subst (IsOrder slots) (sym c.insert.ensures.added) (order_entered slots x.list c.args.place p slot.held differ o.order)) c.self.invariant.lists;
      rooms = room_set (length slots) s.others.items c.args.order x y o.read o.within (omega (arith, c.insert.ensures.room)) c.self.invariant.rooms;
      links = c.self.invariant.links;
      some = c.self.invariant.some;
      counted = c.self.invariant.counted;
      most = c.self.invariant.most;
    }

pub returns-clause-entered : goal.returns-clause-entered
returns-clause-entered g c = λ thing e.
    let s = c.self.inside in
    let slots = s.slots.items in
    let others = c.args.self.now.others in
    let x = c.index_mut.result.now in
    let o = other_among slots s.others.items others c.args.order x c.self.invariant.lists (ap (λ r. r.others) c.self.view_is) c.requires.order c.index_mut.ensures.value in
    let p = c.newest_in-slot.result in
    let slot = newest_is slots s.chains.chains c.args.self.now.chains c.args.chain p c.self.invariant.own.held c.self.invariant.some (ap (λ r. r.chains) c.self.view_is) c.requires.chain c.newest_in-slot.ensures in
    let le : c.args.place ≤ length x.list = omega (arith, c.requires.place, o.long) in
    let same : slot_of slots p ≡ Some thing = slot.there ∙ sym slot.seen ∙ e in
    value_set slots s.others.items others c.args.order c.insert.new.self (insert (get_or others c.args.order []) c.args.place thing) (ap (λ r. r.others) c.self.view_is)
    (ap (items_at slots) c.insert.ensures.added ∙ insert_items slots x.list c.args.place p thing o.order.held le same ∙ ap (λ l. insert l c.args.place thing) o.seen)
