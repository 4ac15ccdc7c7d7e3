use Rattle.std.proofs.Common.{◌∙◌, sym, ap, arith}
use Rattle.std.specs.Prelude.{slice_get}
use Rattle.lv_shelf.specs.Shelves.{items_at}
use Rattle.lv_shelf.proofs.ChainShelves.{other_among}
use Rattle.lv_shelf.proofs.chain_shelf.ChainShelf.get_in.Goals as goal

pub item_at-requires : goal.item_at-requires
item_at-requires g c =
    let s = c.self.inside in
    let slots = s.slots.items in
    let others = c.args.self.now.others in
    let x = c.index.result.now in
    let o = other_among slots s.others.items others c.args.order x c.self.invariant.lists (ap (λ r. r.others) c.self.view_is) c.requires.order c.index.ensures in
    rw c.as_slice.ensures.value (record { held = o.order.held; place = omega (arith, c.requires.place, o.long) })

pub returns : goal.returns
returns g c =
    let s = c.self.inside in
    let slots = s.slots.items in
    let others = c.args.self.now.others in
    let x = c.index.result.now in
    let o = other_among slots s.others.items others c.args.order x c.self.invariant.lists (ap (λ r. r.others) c.self.view_is) c.requires.order c.index.ensures in
    ap (λ l. slice_get l c.args.at) (sym o.seen)
    ∙ ap (λ sl. slice_get (items_at sl x.list) c.args.at) (sym c.as_slice.ensures.value)
    ∙ c.item_at.ensures
