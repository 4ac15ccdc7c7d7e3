use Rattle.std.proofs.Common.{◌∙◌, ap, subst, sym}
use Rattle.std.specs.List.{AllByRecursion}
use Rattle.lv_shelf.specs.Chains.{HasSome, all_newest}
use Rattle.lv_shelf.specs.Cuts.{Falls, IsCut}
use Rattle.lv_shelf.specs.Shelves.{IsHeld, items_at}
use Rattle.lv_shelf.proofs.ChainShelves.{all_newest_items, cut_joined, falls_newest, newest_all, some_items}
use Rattle.lv_shelf.proofs.chain_shelf.ChainShelf.cut_near.Goals as goal

pub cut_near-requires-clause-held : goal.cut_near-requires-clause-held
cut_near-requires-clause-held g c =
    let s = c.self.inside in
    let slots = s.slots.items in
    rw c.as_slice.ensures.value (subst (AllByRecursion (IsHeld slots)) (sym c.newest.ensures.newest) (newest_all (IsHeld slots) s.chains.chains c.self.invariant.own.held))

pub cut_near-requires-clause-falls : goal.cut_near-requires-clause-falls
cut_near-requires-clause-falls g c =
    let s = c.self.inside in
    let slots = s.slots.items in
    let p = g.P.Test.passed c.args.test.now in
    let newest = ap (λ l. items_at l c.newest.result.now.list) c.as_slice.ensures.value
    ∙ ap (items_at slots) c.newest.ensures.newest
    ∙ all_newest_items slots s.chains.chains c.self.invariant.own.held c.self.invariant.some
    ∙ ap (λ r. all_newest r.chains) c.self.view_is in
    subst (Falls p) (sym newest) (falls_newest p c.args.self.now.chains c.requires.falls)

pub returns-clause-cut : goal.returns-clause-cut
returns-clause-cut g c =
    let s = c.self.inside in
    let slots = s.slots.items in
    let p = g.P.Test.passed c.args.test.now in
    let newest = ap (λ l. items_at l c.newest.result.now.list) c.as_slice.ensures.value
    ∙ ap (items_at slots) c.newest.ensures.newest
    ∙ all_newest_items slots s.chains.chains c.self.invariant.own.held c.self.invariant.some
    ∙ ap (λ r. all_newest r.chains) c.self.view_is in
    let some = subst (AllByRecursion HasSome) (ap (λ r. r.chains) c.self.view_is) (some_items slots s.chains.chains c.self.invariant.own.held c.self.invariant.some) in
    cut_joined p c.cut_near.result c.args.self.now.chains c.requires.agrees some (subst (IsCut p c.cut_near.result) newest c.cut_near.ensures.cut)
