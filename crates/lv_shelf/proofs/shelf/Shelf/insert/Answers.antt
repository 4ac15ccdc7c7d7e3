use Rattle.std.proofs.Common.{◌≡◌, ◌++◌, ◌∷◌, [], ◌∙◌, sym, ap, subst, length, set, Some, option_to_list, insert, vec_capacity, arith}
use Rattle.std.specs.List.{AllByRecursion}
use Rattle.std.proofs.lemmas.List.{length-set}
use Rattle.lv_shelf.specs.Shelves.{HaveRoom, IsShelf, IsEmpty, items_at, lists_of}
use Rattle.lv_shelf.proofs.Orders.{orders_inserted, others_inserted}
use Rattle.lv_shelf.proofs.Shelved.{all_last, inserted_items, inserted_shelf, length_items}
use Rattle.lv_shelf.proofs.shelf.Shelf.insert.Goals as goal

pub insert-requires : goal.insert-requires
insert-requires g c =
    let s = c.self.inside in
    let long = length_items s.slots.items s.order.list c.self.invariant.own.held in
    let is = ap (λ r. length r.list) c.self.view_is in
    record {
      place = omega (arith, long, is, c.requires.place);
      room = omega (arith, c.self.invariant.own.long, c.self.invariant.own.order_long, ap (λ r. r.spare) c.self.view_is, c.requires.room);
    }

pub invariant_of-self : goal.invariant_of-self
invariant_of-self g c =
    let s = c.self.inside in
    let slot = c.unwrap-slot.result in
    let popped : s.free.items ≡ c.pop.new.self.items ++ slot ∷ [] = c.pop.ensures.items ∙ ap (λ o. c.pop.new.self.items ++ option_to_list o) c.unwrap-slot.ensures in
    let shelf = subst (λ l. IsShelf s.slots.items s.order.list l s.order.room (vec_capacity s.free)) popped c.self.invariant.own in
    let inserted : c.insert.new.self.list ≡ insert s.order.list c.args.at slot = c.insert.ensures.added in
    let long = length_items s.slots.items s.order.list c.self.invariant.own.held in
    let is = ap (λ r. length r.list) c.self.view_is in
    rw inserted (record {
      own = inserted_shelf s.slots.items s.order.list c.pop.new.self.items c.args.at slot c.args.item s.order.room (vec_capacity s.free) c.insert.new.self.room (vec_capacity c.pop.new.self)
          (omega (arith, long, is, c.requires.place)) (omega (arith, c.insert.ensures.room)) (omega (arith, c.pop.ensures.capacity)) shelf;
      lists = orders_inserted s.slots.items slot c.args.item (lists_of s.others.items) c.self.invariant.lists;
      rooms = subst (λ n. HaveRoom n s.others.items) (sym (length-set s.slots.items slot (Some c.args.item))) c.self.invariant.rooms;
    })

pub returns-clause-added : goal.returns-clause-added
returns-clause-added g c =
    let s = c.self.inside in
    let slot = c.unwrap-slot.result in
    let popped : s.free.items ≡ c.pop.new.self.items ++ slot ∷ [] = c.pop.ensures.items ∙ ap (λ o. c.pop.new.self.items ++ option_to_list o) c.unwrap-slot.ensures in
    let inserted : c.insert.new.self.list ≡ insert s.order.list c.args.at slot = c.insert.ensures.added in
    let long = length_items s.slots.items s.order.list c.self.invariant.own.held in
    let is = ap (λ r. length r.list) c.self.view_is in
    let empty = all_last (IsEmpty s.slots.items) c.pop.new.self.items slot (subst (AllByRecursion (IsEmpty s.slots.items)) popped c.self.invariant.own.empty) in
    ap (items_at (set s.slots.items slot (Some c.args.item))) inserted
    ∙ inserted_items s.slots.items s.order.list c.args.at slot c.args.item c.self.invariant.own.held empty.1 (omega (arith, long, is, c.requires.place))
    ∙ ap (λ r. insert r.list c.args.at c.args.item) c.self.view_is

pub returns-clause-others : goal.returns-clause-others
returns-clause-others g c =
    let s = c.self.inside in
    let slot = c.unwrap-slot.result in
    let popped : s.free.items ≡ c.pop.new.self.items ++ slot ∷ [] = c.pop.ensures.items ∙ ap (λ o. c.pop.new.self.items ++ option_to_list o) c.unwrap-slot.ensures in
    let empty = all_last (IsEmpty s.slots.items) c.pop.new.self.items slot (subst (AllByRecursion (IsEmpty s.slots.items)) popped c.self.invariant.own.empty) in
    others_inserted s.slots.items slot c.args.item (lists_of s.others.items) empty.1 c.self.invariant.lists ∙ ap (λ r. r.others) c.self.view_is
