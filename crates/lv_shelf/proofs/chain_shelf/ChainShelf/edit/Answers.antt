use Rattle.std.proofs.Common.{◌≡◌, ◌+◌, ◌-◌, suc, ◌∙◌, sym, ap, ap₂, subst, length, map, set, Some, vec_capacity, arith}
use Rattle.lv_shelf.specs.Chains.{before, chain_at, joined}
use Rattle.lv_shelf.specs.Shelves.{ChangesOnly, items_at, lists_of, slot_of}
use Rattle.lv_shelf.proofs.ChainShelves.{before_items, changed_chains, changed_shelved, joined_items, newest_is}
use Rattle.lv_shelf.proofs.Orders.{others_edited}
use Rattle.lv_shelf.proofs.Shelved.{edited_items}
use Rattle.lv_shelf.proofs.chain_shelf.ChainShelf.edit.Goals as goal

pub edit_slot-requires : goal.edit_slot-requires
edit_slot-requires g c =
    let s = c.self.inside in
    let slots = s.slots.items in
    let cs = s.chains.chains in
    let p = c.newest_in.result in
    let slot = newest_is slots cs c.args.self.now.chains c.args.chain p c.self.invariant.own.held c.self.invariant.some (ap (λ r. r.chains) c.self.view_is) c.requires c.newest_in.ensures in
    slot.held

pub invariant_of-self : goal.invariant_of-self
invariant_of-self g c =
    let s = c.self.inside in
    let slots = s.slots.items in
    let cs = s.chains.chains in
    let p = c.newest_in.result in
    let slot = newest_is slots cs c.args.self.now.chains c.args.chain p c.self.invariant.own.held c.self.invariant.some (ap (λ r. r.chains) c.self.view_is) c.requires c.newest_in.ensures in
    let y = g.E.Edit.edited c.args.edit.now slot.item in
    rw (c.edit_slot.ensures.edited slot.item slot.there) (changed_shelved slots cs s.free.items p y s.chains.room s.chains.links (vec_capacity s.free) s.count s.others.items slot.held c.self.invariant)

pub returns-clause-edited : goal.returns-clause-edited
returns-clause-edited g c = λ item e.
    let s = c.self.inside in
    let slots = s.slots.items in
    let cs = s.chains.chains in
    let p = c.newest_in.result in
    let slot = newest_is slots cs c.args.self.now.chains c.args.chain p c.self.invariant.own.held c.self.invariant.some (ap (λ r. r.chains) c.self.view_is) c.requires c.newest_in.ensures in
    let y = g.E.Edit.edited c.args.edit.now item in
    let there : slot_of slots p ≡ Some item = slot.there ∙ sym slot.seen ∙ e in
    ap (λ l. map (items_at l) cs) (c.edit_slot.ensures.edited item there)
    ∙ changed_chains slots cs c.args.chain p y c.self.invariant.own.held c.self.invariant.own.apart c.newest_in.ensures
    ∙ ap (λ r. set r.chains c.args.chain (set (chain_at r.chains c.args.chain) (length (chain_at r.chains c.args.chain) - 1) y)) c.self.view_is

pub returns-clause-joined : goal.returns-clause-joined
returns-clause-joined g c = λ item e.
    let s = c.self.inside in
    let slots = s.slots.items in
    let cs = s.chains.chains in
    let p = c.newest_in.result in
    let slot = newest_is slots cs c.args.self.now.chains c.args.chain p c.self.invariant.own.held c.self.invariant.some (ap (λ r. r.chains) c.self.view_is) c.requires c.newest_in.ensures in
    let view = c.args.self.now.chains in
    let k = before cs (suc c.args.chain) - 1 in
    let is = ap (λ r. r.chains) c.self.view_is in
    let list : joined view ≡ items_at slots (joined cs) = ap joined (sym is) ∙ joined_items slots cs in
    let next : c.args.chain + 1 ≡ suc c.args.chain = omega arith in
    let at : before view (c.args.chain + 1) - 1 ≡ k = ap (λ n. before view n - 1) next ∙ ap (λ l. before l (suc c.args.chain) - 1) (sym is) ∙ ap (λ n. n - 1) (before_items slots cs (suc c.args.chain) c.self.invariant.own.held) in
    let y = g.E.Edit.edited c.args.edit.now item in
    let there : slot_of slots p ≡ Some item = slot.there ∙ sym slot.seen ∙ e in
    ap (λ l. joined (map (items_at l) cs)) (c.edit_slot.ensures.edited item there)
    ∙ joined_items (set slots p (Some y)) cs
    ∙ ap (λ q. items_at (set slots q (Some y)) (joined cs)) slot.read
    ∙ edited_items slots (joined cs) k y c.self.invariant.own.held c.self.invariant.own.apart slot.place
    ∙ ap₂ (λ n l. set l n y) (sym at) (sym list)

pub returns-clause-others : goal.returns-clause-others
returns-clause-others g c = λ only.
    let s = c.self.inside in
    let slots = s.slots.items in
    let cs = s.chains.chains in
    let p = c.newest_in.result in
    let slot = newest_is slots cs c.args.self.now.chains c.args.chain p c.self.invariant.own.held c.self.invariant.some (ap (λ r. r.chains) c.self.view_is) c.requires c.newest_in.ensures in
    let view = c.args.self.now.chains in
    let k = before cs (suc c.args.chain) - 1 in
    let is = ap (λ r. r.chains) c.self.view_is in
    let list : joined view ≡ items_at slots (joined cs) = ap joined (sym is) ∙ joined_items slots cs in
    let next : c.args.chain + 1 ≡ suc c.args.chain = omega arith in
    let at : before view (c.args.chain + 1) - 1 ≡ k = ap (λ n. before view n - 1) next ∙ ap (λ l. before l (suc c.args.chain) - 1) (sym is) ∙ ap (λ n. n - 1) (before_items slots cs (suc c.args.chain) c.self.invariant.own.held) in
    let f = g.E.Edit.edited c.args.edit.now in
    let ls = lists_of s.others.items in
    ap (λ l. map (items_at l) ls) (c.edit_slot.ensures.edited slot.item slot.there)
    ∙ ap (λ q. map (items_at (set slots q (Some (f slot.item)))) ls) slot.read
    ∙ others_edited slots (joined cs) f k slot.item ls c.self.invariant.own.all c.self.invariant.own.held (subst (ChangesOnly f k) list (subst (λ n. ChangesOnly f n (joined view)) at only)) (ap (slot_of slots) (sym slot.read) ∙ slot.there) c.self.invariant.lists
    ∙ ap (λ r. map (map f) r.others) c.self.view_is
