use Rattle.std.proofs.Common.{◌≡◌, ◌-◌, ◌<◌, ◌≤◌, false, sym, ◌∙◌, ap, length, arith}
use Rattle.lv_shelf.proofs.Cutting.{cut_from, fails_at, falls_at, got}
use Rattle.lv_viewrows.specs.Standing.{comes_before}
use Rattle.lv_viewrows.proofs.Galloping.{all_behind}
use Rattle.lv_viewrows.proofs.Order.{before_falls}
use Rattle.lv_viewrows.proofs.searching.place_of.Goals as goal

pub loop-low-init : goal.loop-low-init
loop-low-init c = record {
  order = omega arith;
  within = omega arith;
  step = c.requires.step;
  below = λ k d h. absurd (omega arith);
  above = λ k d le h. all_behind (λ v. comes_before c.args.row.now c.args.number v ≡ false) c.args.high c.args.versions.now c.requires.above k d le h;
}

pub loop-low-preserved-then-passes : goal.loop-low-preserved-then-passes
loop-low-preserved-then-passes c =
    let p = comes_before c.args.row.now c.args.number in
    let list = c.args.versions.now in
    let at = c.loop-low.high - c.stride.result in
    let lt : at < c.loop-low.high = omega arith in
    let within : at < length list = omega (arith, lt, c.loop-low.invariant.within, c.requires.within) in
    record {
      order = omega (arith, lt);
      within = c.loop-low.invariant.within;
      step = c.loop-low.invariant.step;
      below = λ k d h. falls_at p list k at d (before_falls c.args.row.now c.args.number list c.requires.order) (omega (arith, h)) within (ap p (got list at c.get.result.now d c.get.ensures) ∙ sym c.passes.ensures ∙ c.if-passes.true);
      above = c.loop-low.invariant.above;
    }

pub loop-low-preserved : goal.loop-low-preserved
loop-low-preserved c =
    let p = comes_before c.args.row.now c.args.number in
    let list = c.args.versions.now in
    let at = c.loop-low.high - c.stride.result in
    record {
      order = omega arith;
      within = omega (arith, c.loop-low.invariant.within);
      step = grind (arith, c.saturating_mul-step.ensures, c.loop-low.invariant.step);
      below = c.loop-low.invariant.below;
      above = λ k d le h. fails_at p list at k d (before_falls c.args.row.now c.args.number list c.requires.order) le h (ap p (got list at c.get.result.now d c.get.ensures) ∙ sym c.passes.ensures ∙ c.if-passes.false);
    }

pub returns-clause-cut : goal.returns-clause-cut
returns-clause-cut c =
    let list = c.args.versions.now in
    let within : c.loop-low.low ≤ length list = omega (arith, c.loop-low.invariant.order, c.loop-low.invariant.within, c.requires.within) in
    cut_from (comes_before c.args.row.now c.args.number) list c.loop-low.low within c.loop-low.invariant.below
    (λ k d le h. c.loop-low.invariant.above k d (omega (arith, le, c.loop-low-test.false)) h)
