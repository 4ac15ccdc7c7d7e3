use Rattle.std.proofs.Common.{◌∙◌, ap, drop, length, take, arith}
use Rattle.lv_shelf.specs.Shelves.{items_at}
use Rattle.lv_shelf.proofs.ChainShelves.{other_among}
use Rattle.lv_shelf.proofs.chain_shelf.ChainShelf.run_in.Goals as goal

pub run_of-requires-clause-held : goal.run_of-requires-clause-held
run_of-requires-clause-held g c =
    let s = c.self.inside in
    let slots = s.slots.items in
    let others = c.args.self.now.others in
    let x = c.index.result.now in
    let o = other_among slots s.others.items others c.args.order x c.self.invariant.lists (ap (λ r. r.others) c.self.view_is) c.requires.order c.index.ensures in
    rw c.as_slice.ensures.value o.order.held

pub run_of-requires-clause-end : goal.run_of-requires-clause-end
run_of-requires-clause-end g c =
    let s = c.self.inside in
    let slots = s.slots.items in
    let others = c.args.self.now.others in
    let x = c.index.result.now in
    let o = other_among slots s.others.items others c.args.order x c.self.invariant.lists (ap (λ r. r.others) c.self.view_is) c.requires.order c.index.ensures in
    omega (arith, c.requires.end, o.long)

pub returns-clause-run : goal.returns-clause-run
returns-clause-run g c =
    let s = c.self.inside in
    let slots = s.slots.items in
    let others = c.args.self.now.others in
    let x = c.index.result.now in
    let o = other_among slots s.others.items others c.args.order x c.self.invariant.lists (ap (λ r. r.others) c.self.view_is) c.requires.order c.index.ensures in
    let n = length c.run_of.result in
    c.run_of.ensures.run
    ∙ ap (λ sl. take n (drop c.args.at (items_at sl x.list))) c.as_slice.ensures.value
    ∙ ap (λ l. take n (drop c.args.at l)) o.seen
