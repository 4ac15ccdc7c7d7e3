use Rattle.std.proofs.Common.{◌≡◌, ◌+◌, ◌<◌, ◌++◌, ◌∷◌, [], suc, ◌∙◌, sym, ap, subst, length, length-append, map, set, Some, option_to_list, insert, vec_capacity, arith}
use Rattle.std.specs.List.{AllByRecursion}
use Rattle.std.proofs.lemmas.List.{length-map}
use Rattle.lv_shelf.specs.Chains.{AreChainShelved, HasSome, before, chain_at, joined}
use Rattle.lv_shelf.specs.Shelves.{IsEmpty, items_at, lists_of}
use Rattle.lv_shelf.proofs.ChainShelves.{before_within, chain_long, joined_push, more_shelved, pushed_chains}
use Rattle.lv_shelf.proofs.Orders.{all_set, others_inserted}
use Rattle.lv_shelf.proofs.Shelved.{all_differ, all_last}
use Rattle.lv_shelf.proofs.chain_shelf.ChainShelf.push.Goals as goal

pub push-requires-clause-high : goal.push-requires-clause-high
push-requires-clause-high g c =
    let s = c.self.inside in
    omega (arith, chain_long s.chains.chains c.args.chain, c.self.invariant.own.long, c.self.invariant.most, ap (λ r. r.spare) c.self.view_is, c.requires.room)

pub push-requires-clause-links : goal.push-requires-clause-links
push-requires-clause-links g c =
    let s = c.self.inside in
    let slots = s.slots.items in
    let cs = s.chains.chains in
    let slot = c.unwrap-slot.result in
    let popped : s.free.items ≡ c.pop.new.self.items ++ slot ∷ [] = c.pop.ensures.items ∙ ap (λ o. c.pop.new.self.items ++ option_to_list o) c.unwrap-slot.ensures in
    let empty = all_last (IsEmpty slots) c.pop.new.self.items slot (subst (AllByRecursion (IsEmpty slots)) popped c.self.invariant.own.empty) in
    let within = empty.1.0 in
    omega (arith, within, c.self.invariant.links)

pub push-requires-clause-fresh : goal.push-requires-clause-fresh
push-requires-clause-fresh g c =
    let s = c.self.inside in
    let slots = s.slots.items in
    let cs = s.chains.chains in
    let slot = c.unwrap-slot.result in
    let popped : s.free.items ≡ c.pop.new.self.items ++ slot ∷ [] = c.pop.ensures.items ∙ ap (λ o. c.pop.new.self.items ++ option_to_list o) c.unwrap-slot.ensures in
    let empty = all_last (IsEmpty slots) c.pop.new.self.items slot (subst (AllByRecursion (IsEmpty slots)) popped c.self.invariant.own.empty) in
    all_differ slots (joined cs) slot empty.1.1 c.self.invariant.own.held

pub invariant_of-self : goal.invariant_of-self
invariant_of-self g c =
    let s = c.self.inside in
    let slots = s.slots.items in
    let cs = s.chains.chains in
    let slot = c.unwrap-slot.result in
    let popped : s.free.items ≡ c.pop.new.self.items ++ slot ∷ [] = c.pop.ensures.items ∙ ap (λ o. c.pop.new.self.items ++ option_to_list o) c.unwrap-slot.ensures in
    let empty = all_last (IsEmpty slots) c.pop.new.self.items slot (subst (AllByRecursion (IsEmpty slots)) popped c.self.invariant.own.empty) in
    let room = s.chains.room in
    let links = s.chains.links in
    let shelf = subst (λ l. AreChainShelved slots cs l room links (vec_capacity s.free) s.count s.others.items) popped c.self.invariant in
    let k = before cs (suc c.args.chain) in
    let le = before_within cs (suc c.args.chain) in
    let within : c.args.chain < length cs = omega (arith, ap (λ r. length r.chains) c.self.view_is, length-map cs (items_at slots), c.requires.chain) in
    let after = c.push.new.self in
    let e = c.push.ensures in
    more_shelved slots cs after.chains c.pop.new.self.items k slot c.args.item room links (vec_capacity s.free) after.room after.links (vec_capacity c.pop.new.self) s.count s.others.items
    (ap joined e.added ∙ joined_push cs c.args.chain slot within) le (subst (AllByRecursion HasSome) (sym e.added) (let one : 0 < length (chain_at cs c.args.chain ++ slot ∷ []) = omega (arith, length-append (chain_at cs c.args.chain) (slot ∷ [])) in all_set HasSome cs c.args.chain (chain_at cs c.args.chain ++ slot ∷ []) one c.self.invariant.some))
    (omega (arith, e.room)) (omega (arith, e.links)) (omega (arith, c.pop.ensures.capacity)) shelf

pub returns-clause-added : goal.returns-clause-added
returns-clause-added g c =
    let s = c.self.inside in
    let slots = s.slots.items in
    let cs = s.chains.chains in
    let slot = c.unwrap-slot.result in
    let popped : s.free.items ≡ c.pop.new.self.items ++ slot ∷ [] = c.pop.ensures.items ∙ ap (λ o. c.pop.new.self.items ++ option_to_list o) c.unwrap-slot.ensures in
    let empty = all_last (IsEmpty slots) c.pop.new.self.items slot (subst (AllByRecursion (IsEmpty slots)) popped c.self.invariant.own.empty) in
    let after = set slots slot (Some c.args.item) in
    ap (map (items_at after)) c.push.ensures.added
    ∙ pushed_chains slots cs c.args.chain slot c.args.item c.self.invariant.own.held empty.1
    ∙ ap (λ r. set r.chains c.args.chain (chain_at r.chains c.args.chain ++ c.args.item ∷ [])) c.self.view_is

pub returns-clause-joined : goal.returns-clause-joined
returns-clause-joined g c =
    let s = c.self.inside in
    let slots = s.slots.items in
    let cs = s.chains.chains in
    let slot = c.unwrap-slot.result in
    let popped : s.free.items ≡ c.pop.new.self.items ++ slot ∷ [] = c.pop.ensures.items ∙ ap (λ o. c.pop.new.self.items ++ option_to_list o) c.unwrap-slot.ensures in
    let empty = all_last (IsEmpty slots) c.pop.new.self.items slot (subst (AllByRecursion (IsEmpty slots)) popped c.self.invariant.own.empty) in
    let after = set slots slot (Some c.args.item) in
    let view = c.args.self.now.chains in
    let e : suc c.args.chain ≡ c.args.chain + 1 = omega arith in
    ap joined (
    ap (map (items_at after)) c.push.ensures.added
    ∙ pushed_chains slots cs c.args.chain slot c.args.item c.self.invariant.own.held empty.1
    ∙ ap (λ r. set r.chains c.args.chain (chain_at r.chains c.args.chain ++ c.args.item ∷ [])) c.self.view_is)
    ∙ joined_push view c.args.chain c.args.item c.requires.chain
    ∙ ap (λ n. insert (joined view) (before view n) c.args.item) e

pub returns-clause-others : goal.returns-clause-others
returns-clause-others g c =
    let s = c.self.inside in
    let slots = s.slots.items in
    let cs = s.chains.chains in
    let slot = c.unwrap-slot.result in
    let popped : s.free.items ≡ c.pop.new.self.items ++ slot ∷ [] = c.pop.ensures.items ∙ ap (λ o. c.pop.new.self.items ++ option_to_list o) c.unwrap-slot.ensures in
    let empty = all_last (IsEmpty slots) c.pop.new.self.items slot (subst (AllByRecursion (IsEmpty slots)) popped c.self.invariant.own.empty) in
    others_inserted slots slot c.args.item (lists_of s.others.items) empty.1 c.self.invariant.lists ∙ ap (λ r. r.others) c.self.view_is
