use Rattle.std.proofs.Common.{ap, arith}
use Rattle.lv_shelf.proofs.ChainShelves.{other_among}
use Rattle.lv_shelf.proofs.chain_shelf.ChainShelf.len_in.Goals as goal

pub returns : goal.returns
returns g c =
    let s = c.self.inside in
    let slots = s.slots.items in
    let others = c.args.self.now.others in
    let x = c.index.result.now in
    let o = other_among slots s.others.items others c.args.order x c.self.invariant.lists (ap (λ r. r.others) c.self.view_is) c.requires c.index.ensures in
    omega (arith, o.long, c.len.ensures)
