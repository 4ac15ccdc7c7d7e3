use Rattle.std.proofs.Common.{◌≡◌, ◌<◌, ◌++◌, ◌∷◌, [], ◌∙◌, sym, ap, subst, length, map, set, Some, option_to_list, insert, vec_capacity, arith}
use Rattle.std.specs.List.{AllByRecursion}
use Rattle.lv_shelf.specs.Chains.{AreChainShelved, HasSome, before, joined}
use Rattle.lv_shelf.specs.Shelves.{IsEmpty, items_at, lists_of}
use Rattle.lv_shelf.proofs.ChainShelves.{before_within, chains_long, inserted_chains, joined_insert, more_shelved}
use Rattle.lv_shelf.proofs.Orders.{others_inserted}
use Rattle.lv_shelf.proofs.Shelved.{all_differ, all_insert, all_last}
use Rattle.lv_shelf.proofs.chain_shelf.ChainShelf.insert.Goals as goal

pub insert-requires-clause-room : goal.insert-requires-clause-room
insert-requires-clause-room g c =
    let s = c.self.inside in
    omega (arith, chains_long s.chains.chains c.self.invariant.some, c.self.invariant.own.long, c.self.invariant.own.order_long, ap (λ r. r.spare) c.self.view_is, c.requires.room)

pub insert-requires-clause-links : goal.insert-requires-clause-links
insert-requires-clause-links g c =
    let s = c.self.inside in
    let slots = s.slots.items in
    let cs = s.chains.chains in
    let slot = c.unwrap-slot.result in
    let popped : s.free.items ≡ c.pop.new.self.items ++ slot ∷ [] = c.pop.ensures.items ∙ ap (λ o. c.pop.new.self.items ++ option_to_list o) c.unwrap-slot.ensures in
    let empty = all_last (IsEmpty slots) c.pop.new.self.items slot (subst (AllByRecursion (IsEmpty slots)) popped c.self.invariant.own.empty) in
    let within = empty.1.0 in
    omega (arith, within, c.self.invariant.links)

pub insert-requires-clause-fresh : goal.insert-requires-clause-fresh
insert-requires-clause-fresh g c =
    let s = c.self.inside in
    let slots = s.slots.items in
    let cs = s.chains.chains in
    let slot = c.unwrap-slot.result in
    let popped : s.free.items ≡ c.pop.new.self.items ++ slot ∷ [] = c.pop.ensures.items ∙ ap (λ o. c.pop.new.self.items ++ option_to_list o) c.unwrap-slot.ensures in
    let empty = all_last (IsEmpty slots) c.pop.new.self.items slot (subst (AllByRecursion (IsEmpty slots)) popped c.self.invariant.own.empty) in
    all_differ slots (joined cs) slot empty.1.1 c.self.invariant.own.held

pub invariant_of-self : goal.invariant_of-self
invariant_of-self g c =
    let s = c.self.inside in
    let slots = s.slots.items in
    let cs = s.chains.chains in
    let slot = c.unwrap-slot.result in
    let popped : s.free.items ≡ c.pop.new.self.items ++ slot ∷ [] = c.pop.ensures.items ∙ ap (λ o. c.pop.new.self.items ++ option_to_list o) c.unwrap-slot.ensures in
    let empty = all_last (IsEmpty slots) c.pop.new.self.items slot (subst (AllByRecursion (IsEmpty slots)) popped c.self.invariant.own.empty) in
    let room = s.chains.room in
    let links = s.chains.links in
    let shelf = subst (λ l. AreChainShelved slots cs l room links (vec_capacity s.free) s.count s.others.items) popped c.self.invariant in
    let k = before cs c.args.at in
    let le = before_within cs c.args.at in
    let after = c.insert.new.self in
    let e = c.insert.ensures in
    more_shelved slots cs after.chains c.pop.new.self.items k slot c.args.item room links (vec_capacity s.free) after.room after.links (vec_capacity c.pop.new.self) s.count s.others.items
    (ap joined e.added ∙ joined_insert cs c.args.at slot) le (subst (AllByRecursion HasSome) (sym e.added) (let one : 0 < length (slot ∷ []) = omega arith in all_insert HasSome cs c.args.at (slot ∷ []) one c.self.invariant.some))
    (omega (arith, e.room)) (omega (arith, e.links)) (omega (arith, c.pop.ensures.capacity)) shelf

pub returns-clause-added : goal.returns-clause-added
returns-clause-added g c =
    let s = c.self.inside in
    let slots = s.slots.items in
    let cs = s.chains.chains in
    let slot = c.unwrap-slot.result in
    let popped : s.free.items ≡ c.pop.new.self.items ++ slot ∷ [] = c.pop.ensures.items ∙ ap (λ o. c.pop.new.self.items ++ option_to_list o) c.unwrap-slot.ensures in
    let empty = all_last (IsEmpty slots) c.pop.new.self.items slot (subst (AllByRecursion (IsEmpty slots)) popped c.self.invariant.own.empty) in
    let after = set slots slot (Some c.args.item) in
    ap (map (items_at after)) c.insert.ensures.added
    ∙ inserted_chains slots cs c.args.at slot c.args.item c.self.invariant.own.held empty.1
    ∙ ap (λ r. insert r.chains c.args.at (c.args.item ∷ [])) c.self.view_is

pub returns-clause-joined : goal.returns-clause-joined
returns-clause-joined g c =
    let s = c.self.inside in
    let slots = s.slots.items in
    let cs = s.chains.chains in
    let slot = c.unwrap-slot.result in
    let popped : s.free.items ≡ c.pop.new.self.items ++ slot ∷ [] = c.pop.ensures.items ∙ ap (λ o. c.pop.new.self.items ++ option_to_list o) c.unwrap-slot.ensures in
    let empty = all_last (IsEmpty slots) c.pop.new.self.items slot (subst (AllByRecursion (IsEmpty slots)) popped c.self.invariant.own.empty) in
    let after = set slots slot (Some c.args.item) in
    let view = c.args.self.now.chains in
    ap joined (
    ap (map (items_at after)) c.insert.ensures.added
    ∙ inserted_chains slots cs c.args.at slot c.args.item c.self.invariant.own.held empty.1
    ∙ ap (λ r. insert r.chains c.args.at (c.args.item ∷ [])) c.self.view_is)
    ∙ joined_insert view c.args.at c.args.item

pub returns-clause-others : goal.returns-clause-others
returns-clause-others g c =
    let s = c.self.inside in
    let slots = s.slots.items in
    let cs = s.chains.chains in
    let slot = c.unwrap-slot.result in
    let popped : s.free.items ≡ c.pop.new.self.items ++ slot ∷ [] = c.pop.ensures.items ∙ ap (λ o. c.pop.new.self.items ++ option_to_list o) c.unwrap-slot.ensures in
    let empty = all_last (IsEmpty slots) c.pop.new.self.items slot (subst (AllByRecursion (IsEmpty slots)) popped c.self.invariant.own.empty) in
    others_inserted slots slot c.args.item (lists_of s.others.items) empty.1 c.self.invariant.lists ∙ ap (λ r. r.others) c.self.view_is
