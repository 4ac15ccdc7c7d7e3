use Rattle.std.proofs.Common.{◌∙◌, sym, ap}
use Rattle.lv_shelf.specs.Chains.{chain_at, newest_that}
use Rattle.lv_shelf.specs.Shelves.{IsHeld, passes_in, slot_of}
use Rattle.lv_shelf.proofs.ChainShelves.{chain_all, chain_items, that_all, that_none, that_some}
use Rattle.lv_shelf.proofs.chain_shelf.ChainShelf.newest_that.Goals as goal

pub in_slot-requires : goal.in_slot-requires
in_slot-requires g c =
    let s = c.self.inside in
    let slots = s.slots.items in
    let test = g.P.Test.passed c.args.test.now in
    let chain = chain_at s.chains.chains c.args.chain in
    let held = chain_all (IsHeld slots) s.chains.chains c.args.chain c.self.invariant.own.held in
    let found = ap (λ l. newest_that (passes_in test l) chain) (sym c.as_slice-slots.ensures.value) ∙ sym c.newest_that.ensures ∙ c.in-Some.is in
    rw c.as_slice-slots.ensures.value (that_all (IsHeld slots) (passes_in test slots) chain c.in-Some.slot held found)

pub returns-in-Some : goal.returns-in-Some
returns-in-Some g c =
    let s = c.self.inside in
    let slots = s.slots.items in
    let test = g.P.Test.passed c.args.test.now in
    let chain = chain_at s.chains.chains c.args.chain in
    let held = chain_all (IsHeld slots) s.chains.chains c.args.chain c.self.invariant.own.held in
    let found = ap (λ l. newest_that (passes_in test l) chain) (sym c.as_slice-slots.ensures.value) ∙ sym c.newest_that.ensures ∙ c.in-Some.is in
    sym (ap (λ r. newest_that test (chain_at r.chains c.args.chain)) (sym c.self.view_is)
    ∙ ap (newest_that test) (chain_items slots s.chains.chains c.args.chain)
    ∙ that_some test slots chain c.in-Some.slot held found
    ∙ ap (λ l. slot_of l c.in-Some.slot) (sym c.as_slice-slots.ensures.value)
    ∙ c.in_slot.ensures)

pub returns-in-None : goal.returns-in-None
returns-in-None g c =
    let s = c.self.inside in
    let slots = s.slots.items in
    let test = g.P.Test.passed c.args.test.now in
    let chain = chain_at s.chains.chains c.args.chain in
    let held = chain_all (IsHeld slots) s.chains.chains c.args.chain c.self.invariant.own.held in
    let found = ap (λ l. newest_that (passes_in test l) chain) (sym c.as_slice-slots.ensures.value) ∙ sym c.newest_that.ensures ∙ c.in-None.is in
    sym (ap (λ r. newest_that test (chain_at r.chains c.args.chain)) (sym c.self.view_is)
    ∙ ap (newest_that test) (chain_items slots s.chains.chains c.args.chain)
    ∙ that_none test slots chain held found)
