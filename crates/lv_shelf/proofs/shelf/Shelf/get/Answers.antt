use Rattle.std.proofs.Common.{ap, length, arith}
use Rattle.lv_shelf.proofs.Shelved.{length_items}
use Rattle.lv_shelf.proofs.shelf.Shelf.get.Goals as goal

pub item_at-requires-clause-place : goal.item_at-requires-clause-place
item_at-requires-clause-place g c =
    let s = c.self.inside in
    let long = length_items s.slots.items s.order.list c.self.invariant.own.held in
    let is = ap (λ r. length r.list) c.self.view_is in
    omega (arith, long, is, c.requires)
