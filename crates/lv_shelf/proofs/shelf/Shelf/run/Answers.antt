use Rattle.std.proofs.Common.{ap, length, arith}
use Rattle.lv_shelf.proofs.Shelved.{length_items}
use Rattle.lv_shelf.proofs.shelf.Shelf.run.Goals as goal

pub run_of-requires-clause-end : goal.run_of-requires-clause-end
run_of-requires-clause-end g c =
    let s = c.self.inside in
    let long = length_items s.slots.items s.order.list c.self.invariant.own.held in
    let is = ap (λ r. length r.list) c.self.view_is in
    omega (arith, long, is, c.requires.end)
