use Rattle.std.proofs.Common.{◌∙◌, sym, ap, subst, arith}
use Rattle.lv_shelf.specs.Cuts.{Falls, IsCut}
use Rattle.lv_shelf.specs.Shelves.{items_at}
use Rattle.lv_shelf.proofs.ChainShelves.{other_among}
use Rattle.lv_shelf.proofs.chain_shelf.ChainShelf.cut_in.Goals as goal

pub cut_at-requires : goal.cut_at-requires
cut_at-requires g c =
    let s = c.self.inside in
    let slots = s.slots.items in
    let others = c.args.self.now.others in
    let x = c.index.result.now in
    let o = other_among slots s.others.items others c.args.order x c.self.invariant.lists (ap (λ r. r.others) c.self.view_is) c.requires.order c.index.ensures in
    rw c.as_slice.ensures.value (record { held = o.order.held; falls = subst (Falls (g.P.Test.passed c.args.test.now)) (sym o.seen) c.requires.falls })

pub returns : goal.returns
returns g c =
    let s = c.self.inside in
    let slots = s.slots.items in
    let others = c.args.self.now.others in
    let x = c.index.result.now in
    let o = other_among slots s.others.items others c.args.order x c.self.invariant.lists (ap (λ r. r.others) c.self.view_is) c.requires.order c.index.ensures in
    let there = ap (λ sl. items_at sl x.list) c.as_slice.ensures.value ∙ o.seen in
    record {
      within = omega (arith, c.cut_at.ensures.within, o.long);
      cut = subst (IsCut (g.P.Test.passed c.args.test.now) c.cut_at.result) there c.cut_at.ensures.cut;
    }
