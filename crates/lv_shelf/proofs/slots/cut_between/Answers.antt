use Rattle.std.proofs.Common.{◌+◌, ◌-◌, ◌/◌, ◌<◌, sym, ◌∙◌, ap, length, arith}
use Rattle.lv_shelf.specs.Shelves.{items_at}
use Rattle.lv_shelf.proofs.Cutting.{cut_within, fails_at, falls_at, got}
use Rattle.lv_shelf.proofs.Shelved.{length_items}
use Rattle.lv_shelf.proofs.slots.cut_between.Goals as goal

pub loop-low-preserved-then-passes : goal.loop-low-preserved-then-passes
loop-low-preserved-then-passes g c =
    let p = g.P.Test.passed c.args.test.now in
    let list = items_at c.args.slots.now c.args.places.now.list in
    let long = length_items c.args.slots.now c.args.places.now.list c.requires.held in
    let middle = c.loop-low.low + (c.loop-low.high - c.loop-low.low) / 2 in
    let lt : middle < c.loop-low.high = omega arith in
    let lt' : middle < length list = omega (arith, lt, c.loop-low.invariant.end, c.requires.end, long) in
    record {
      first = omega (arith, c.loop-low.invariant.first);
      order = omega (arith, lt);
      end = c.loop-low.invariant.end;
      below = λ k d le h. falls_at p list k middle d c.requires.falls (omega (arith, h)) lt' (ap p (got list middle c.item_at.result.now d c.item_at.ensures) ∙ sym c.passes.ensures ∙ c.if-passes.true);
      above = c.loop-low.invariant.above;
    }

pub loop-low-preserved : goal.loop-low-preserved
loop-low-preserved g c =
    let p = g.P.Test.passed c.args.test.now in
    let list = items_at c.args.slots.now c.args.places.now.list in
    let long = length_items c.args.slots.now c.args.places.now.list c.requires.held in
    let middle = c.loop-low.low + (c.loop-low.high - c.loop-low.low) / 2 in
    let lt : middle < c.loop-low.high = omega arith in
    record {
      first = c.loop-low.invariant.first;
      order = omega arith;
      end = omega (arith, lt, c.loop-low.invariant.end);
      below = c.loop-low.invariant.below;
      above = λ k d le h. fails_at p list middle k d c.requires.falls le (omega (arith, h, long, c.requires.end)) (ap p (got list middle c.item_at.result.now d c.item_at.ensures) ∙ sym c.passes.ensures ∙ c.if-passes.false);
    }

pub returns-clause-cut : goal.returns-clause-cut
returns-clause-cut g c =
    let list = items_at c.args.slots.now c.args.places.now.list in
    let long = length_items c.args.slots.now c.args.places.now.list c.requires.held in
    let i = c.loop-low.invariant in
    cut_within (g.P.Test.passed c.args.test.now) list c.args.first c.loop-low.low c.args.end i.first (omega (arith, i.order, i.end)) (omega (arith, long, c.requires.end)) i.below
    (λ k d le h. i.above k d (omega (arith, le, c.loop-low-test.false)) h)
