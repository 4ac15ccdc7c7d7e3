use Rattle.std.proofs.Common.{◌∙◌, sym, ap, subst, vec_capacity, arith}
use Rattle.std.specs.List.{AllByRecursion}
use Rattle.lv_shelf.specs.Chains.{HasSome, before, joined, shortened}
use Rattle.lv_shelf.specs.Shelves.{LacksItem, lists_of}
use Rattle.lv_shelf.proofs.ChainShelves.{chain_some, gone_chains, joined_shortened, less_shelved, oldest_is, some_items, some_shortened}
use Rattle.lv_shelf.proofs.Orders.{others_removed}
use Rattle.lv_shelf.proofs.Shelved.{taken_in}
use Rattle.lv_shelf.proofs.chain_shelf.ChainShelf.shorten.Goals as goal

pub index_mut-requires : goal.index_mut-requires
index_mut-requires g c =
    let s = c.self.inside in
    let slots = s.slots.items in
    let cs = s.chains.chains in
    let p = c.oldest_in-slot.result in
    let slot = oldest_is slots cs c.args.self.now.chains c.args.chain p c.self.invariant.own.held c.self.invariant.some (ap (λ r. r.chains) c.self.view_is) c.requires.chain c.oldest_in-slot.ensures in
    omega (arith, taken_in slots p slot.held, s.slots.ok.0)

pub invariant_of-self : goal.invariant_of-self
invariant_of-self g c =
    let s = c.self.inside in
    let slots = s.slots.items in
    let cs = s.chains.chains in
    let p = c.oldest_in-slot.result in
    let slot = oldest_is slots cs c.args.self.now.chains c.args.chain p c.self.invariant.own.held c.self.invariant.some (ap (λ r. r.chains) c.self.view_is) c.requires.chain c.oldest_in-slot.ensures in
    let lacks = subst (AllByRecursion (LacksItem slot.item)) (sym (ap (λ r. r.others) c.self.view_is)) (c.requires.alone slot.item slot.seen) in
    let after = c.shorten.new.self in
    let e = c.shorten.ensures in
    rw c.push_reserved.ensures.items
    (less_shelved slots cs after.chains s.free.items (before cs c.args.chain) p slot.item s.chains.room s.chains.links (vec_capacity s.free) after.room after.links (vec_capacity c.push_reserved.new.self) s.count s.others.items
    (ap joined e.rest ∙ joined_shortened cs c.args.chain slot.within (chain_some cs c.args.chain c.self.invariant.some slot.within))
    slot.read slot.place slot.there lacks (subst (AllByRecursion HasSome) (sym e.rest) (some_shortened cs c.args.chain slot.within c.self.invariant.some))
    (omega (arith, e.room)) (omega (arith, e.links)) (omega (arith, c.push_reserved.ensures.capacity)) c.self.invariant)

pub returns-clause-rest : goal.returns-clause-rest
returns-clause-rest g c =
    let s = c.self.inside in
    let slots = s.slots.items in
    let cs = s.chains.chains in
    let p = c.oldest_in-slot.result in
    let slot = oldest_is slots cs c.args.self.now.chains c.args.chain p c.self.invariant.own.held c.self.invariant.some (ap (λ r. r.chains) c.self.view_is) c.requires.chain c.oldest_in-slot.ensures in
    gone_chains slots cs c.shorten.new.self.chains c.args.chain p c.self.invariant.own.held c.self.invariant.own.apart slot.within (chain_some cs c.args.chain c.self.invariant.some slot.within) slot.read slot.place c.shorten.ensures.rest
    ∙ ap (λ r. shortened r.chains c.args.chain) c.self.view_is

pub returns-clause-joined : goal.returns-clause-joined
returns-clause-joined g c =
    let s = c.self.inside in
    let slots = s.slots.items in
    let cs = s.chains.chains in
    let p = c.oldest_in-slot.result in
    let slot = oldest_is slots cs c.args.self.now.chains c.args.chain p c.self.invariant.own.held c.self.invariant.some (ap (λ r. r.chains) c.self.view_is) c.requires.chain c.oldest_in-slot.ensures in
    let view = c.args.self.now.chains in
    let some = subst (AllByRecursion HasSome) (ap (λ r. r.chains) c.self.view_is) (some_items slots cs c.self.invariant.own.held c.self.invariant.some) in
    ap joined (gone_chains slots cs c.shorten.new.self.chains c.args.chain p c.self.invariant.own.held c.self.invariant.own.apart slot.within (chain_some cs c.args.chain c.self.invariant.some slot.within) slot.read slot.place c.shorten.ensures.rest
    ∙ ap (λ r. shortened r.chains c.args.chain) c.self.view_is)
    ∙ joined_shortened view c.args.chain c.requires.chain (chain_some view c.args.chain some c.requires.chain)

pub returns-clause-others : goal.returns-clause-others
returns-clause-others g c =
    let s = c.self.inside in
    let slots = s.slots.items in
    let cs = s.chains.chains in
    let p = c.oldest_in-slot.result in
    let slot = oldest_is slots cs c.args.self.now.chains c.args.chain p c.self.invariant.own.held c.self.invariant.some (ap (λ r. r.chains) c.self.view_is) c.requires.chain c.oldest_in-slot.ensures in
    let lacks = subst (AllByRecursion (LacksItem slot.item)) (sym (ap (λ r. r.others) c.self.view_is)) (c.requires.alone slot.item slot.seen) in
    others_removed slots p slot.item (lists_of s.others.items) slot.there lacks c.self.invariant.lists ∙ ap (λ r. r.others) c.self.view_is
