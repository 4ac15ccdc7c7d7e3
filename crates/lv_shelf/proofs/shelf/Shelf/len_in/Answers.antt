use Rattle.std.proofs.Common.{ap, vec_capacity, arith}
use Rattle.lv_shelf.proofs.Orders.{other_is}
use Rattle.lv_shelf.proofs.shelf.Shelf.len_in.Goals as goal

pub returns : goal.returns
returns g c =
    let s = c.self.inside in
    let slots = s.slots.items in
    let others = c.args.self.now.others in
    let x = c.index.result.now in
    let o = other_is slots s.order.list s.free.items s.order.room (vec_capacity s.free) s.others.items others c.args.order x c.self.invariant (ap (λ r. r.others) c.self.view_is) c.requires c.index.ensures in
    omega (arith, o.long, c.len.ensures)
