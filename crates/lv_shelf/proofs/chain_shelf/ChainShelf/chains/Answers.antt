use Rattle.std.proofs.Common.{ap, subst}
use Rattle.std.specs.List.{AllByRecursion}
use Rattle.lv_shelf.specs.Chains.{HasSome}
use Rattle.lv_shelf.proofs.ChainShelves.{some_items}
use Rattle.lv_shelf.proofs.chain_shelf.ChainShelf.chains.Goals as goal

pub returns-clause-some : goal.returns-clause-some
returns-clause-some g c =
    let s = c.self.inside in
    subst (AllByRecursion HasSome) (ap (λ r. r.chains) c.self.view_is) (some_items s.slots.items s.chains.chains c.self.invariant.own.held c.self.invariant.some)
