use Rattle.std.proofs.Common.{ap, length, arith}
use Rattle.lv_shelf.specs.Chains.{joined}
use Rattle.lv_shelf.proofs.ChainShelves.{joined_long}
use Rattle.lv_shelf.proofs.chain_shelf.ChainShelf.len.Goals as goal

pub returns : goal.returns
returns g c =
    let s = c.self.inside in
    let long = joined_long s.slots.items s.chains.chains c.self.invariant.own.held in
    let is = ap (λ r. length (joined r.chains)) c.self.view_is in
    omega (arith, long, is, c.self.invariant.counted)
