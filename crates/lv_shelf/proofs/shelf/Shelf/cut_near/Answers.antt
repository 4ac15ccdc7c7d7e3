use Rattle.std.proofs.Common.{ap, length, arith}
use Rattle.lv_shelf.proofs.Shelved.{length_items}
use Rattle.lv_shelf.proofs.shelf.Shelf.cut_near.Goals as goal

pub returns-clause-within : goal.returns-clause-within
returns-clause-within g c =
    let s = c.self.inside in
    let long = length_items s.slots.items s.order.list c.self.invariant.own.held in
    let is = ap (λ r. length r.list) c.self.view_is in
    omega (arith, long, is, c.cut_near.ensures.within)
