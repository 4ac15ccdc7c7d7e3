use Rattle.std.proofs.Common.{◌∙◌, ap, drop, length, subst, sym, take}
use Rattle.std.specs.List.{AllByRecursion}
use Rattle.lv_shelf.specs.Chains.{all_newest}
use Rattle.lv_shelf.specs.Shelves.{IsHeld, items_at}
use Rattle.lv_shelf.proofs.ChainShelves.{all_newest_items, newest_all}
use Rattle.lv_shelf.proofs.chain_shelf.ChainShelf.run.Goals as goal

pub run_of-requires-clause-held : goal.run_of-requires-clause-held
run_of-requires-clause-held g c =
    let s = c.self.inside in
    let slots = s.slots.items in
    rw c.as_slice.ensures.value (subst (AllByRecursion (IsHeld slots)) (sym c.newest.ensures.newest) (newest_all (IsHeld slots) s.chains.chains c.self.invariant.own.held))

pub returns-clause-run : goal.returns-clause-run
returns-clause-run g c =
    let s = c.self.inside in
    let slots = s.slots.items in
    let n = length c.run_of.result in
    c.run_of.ensures.run
    ∙ ap (λ l. take n (drop c.args.at (items_at l c.newest.result.now.list))) c.as_slice.ensures.value
    ∙ ap (λ l. take n (drop c.args.at (items_at slots l))) c.newest.ensures.newest
    ∙ ap (λ l. take n (drop c.args.at l)) (all_newest_items slots s.chains.chains c.self.invariant.own.held c.self.invariant.some)
    ∙ ap (λ r. take n (drop c.args.at (all_newest r.chains))) c.self.view_is
