use Rattle.std.proofs.Common.{◌∙◌, None, sym, ap, subst, length, set, vec_capacity, arith}
use Rattle.std.specs.List.{AllByRecursion, remove}
use Rattle.std.proofs.lemmas.List.{length-set}
use Rattle.lv_shelf.specs.Shelves.{HaveRoom, LacksItem, items_at, lists_of}
use Rattle.lv_shelf.proofs.Orders.{orders_removed, others_removed, place_is}
use Rattle.lv_shelf.proofs.Shelved.{length_items, removed_items, removed_shelf, taken_in}
use Rattle.lv_shelf.proofs.shelf.Shelf.remove.Goals as goal

pub at-slot-requires : goal.at-slot-requires
at-slot-requires g c =
    let s = c.self.inside in
    omega (arith, length_items s.slots.items s.order.list c.self.invariant.own.held, ap (λ r. length r.list) c.self.view_is, c.requires.at)

pub invariant_of-self : goal.invariant_of-self
invariant_of-self g c =
    let s = c.self.inside in
    let slots = s.slots.items in
    let order = s.order.list in
    let at = c.args.at in
    let p = c.at-slot.result in
    let slot = place_is slots order c.args.self.now.list at p c.self.invariant.own.held (ap (λ r. r.list) c.self.view_is) c.requires.at c.at-slot.ensures in
    let lacks = subst (AllByRecursion (LacksItem slot.item)) (sym (ap (λ r. r.others) c.self.view_is)) (c.requires.alone slot.item slot.seen) in
    rw (c.remove.ensures.rest, c.push_reserved.ensures.items) (record {
      own = removed_shelf slots order s.free.items at p s.order.room (vec_capacity s.free) c.remove.new.self.room (vec_capacity c.push_reserved.new.self) slot.read slot.within (omega (arith, c.remove.ensures.room)) (omega (arith, c.push_reserved.ensures.capacity)) c.self.invariant.own;
      lists = orders_removed slots p slot.item (lists_of s.others.items) slot.there lacks c.self.invariant.lists;
      rooms = subst (λ n. HaveRoom n s.others.items) (sym (length-set slots p None)) c.self.invariant.rooms;
    })

pub returns-clause-removed : goal.returns-clause-removed
returns-clause-removed g c =
    let s = c.self.inside in
    let slots = s.slots.items in
    let order = s.order.list in
    let at = c.args.at in
    let p = c.at-slot.result in
    let slot = place_is slots order c.args.self.now.list at p c.self.invariant.own.held (ap (λ r. r.list) c.self.view_is) c.requires.at c.at-slot.ensures in
    ap (items_at (set slots p None)) c.remove.ensures.rest
    ∙ removed_items slots order at p slot.read slot.within c.self.invariant.own.held c.self.invariant.own.apart
    ∙ ap (λ r. remove r.list at) c.self.view_is

pub returns-clause-others : goal.returns-clause-others
returns-clause-others g c =
    let s = c.self.inside in
    let slots = s.slots.items in
    let order = s.order.list in
    let at = c.args.at in
    let p = c.at-slot.result in
    let slot = place_is slots order c.args.self.now.list at p c.self.invariant.own.held (ap (λ r. r.list) c.self.view_is) c.requires.at c.at-slot.ensures in
    let lacks = subst (AllByRecursion (LacksItem slot.item)) (sym (ap (λ r. r.others) c.self.view_is)) (c.requires.alone slot.item slot.seen) in
    others_removed slots p slot.item (lists_of s.others.items) slot.there lacks c.self.invariant.lists ∙ ap (λ r. r.others) c.self.view_is

pub remove-requires : goal.remove-requires
remove-requires g c =
    let s = c.self.inside in
    omega (arith, length_items s.slots.items s.order.list c.self.invariant.own.held, ap (λ r. length r.list) c.self.view_is, c.requires.at)

pub index_mut-requires : goal.index_mut-requires
index_mut-requires g c =
    let s = c.self.inside in
    let slots = s.slots.items in
    let slot = place_is slots s.order.list c.args.self.now.list c.args.at c.at-slot.result c.self.invariant.own.held (ap (λ r. r.list) c.self.view_is) c.requires.at c.at-slot.ensures in
    omega (arith, taken_in slots c.at-slot.result slot.held, s.slots.ok.0)
