use Rattle.std.proofs.Common.{◌≡◌, ◌+◌, ◌-◌, suc, true, take, drop, sym, ◌∙◌, ap, subst, arith}
use Rattle.std.specs.List.{AllByRecursion}
use Rattle.lv_shelf.proofs.Cutting.{got}
use Rattle.lv_viewrows.specs.declared.version.GroupVersion.{GroupVersion}
use Rattle.lv_viewrows.specs.Merged.{is_below}
use Rattle.lv_viewrows.proofs.Galloping.{all_drop, below_falls, nothing_between, passes_up_to}
use Rattle.lv_viewrows.proofs.searching.end_below.Goals as goal

pub loop-high-init : goal.loop-high-init
loop-high-init c =
    let left = drop c.args.next c.args.changes.now in
    record {
      forward = omega arith;
      order = c.requires.forward;
      within = c.requires.within;
      upper = omega arith;
      step = omega arith;
      below = subst (AllByRecursion (λ (v : GroupVersion). is_below left v.group ≡ true)) (sym (nothing_between c.args.from c.args.versions.now)) tt;
    }

pub loop-high-preserved-then-is_below : goal.loop-high-preserved-then-is_below
loop-high-preserved-then-is_below c =
    let left = drop c.args.next c.args.changes.now in
    let p = λ (v : GroupVersion). is_below left v.group in
    let list = c.args.versions.now in
    let far = c.loop-high.end + c.stride.result in
    let was = c.loop-high.invariant in
    let last : suc (far - 1) ≡ far = omega (arith, c.stride.ensures.forward) in
    let up = passes_up_to p (far - 1) list c.get.result.now (below_falls left list c.requires.order) (omega (arith, last, c.stride.ensures.within, was.within, was.order)) (ap p (got list (far - 1) c.get.result.now c.get.result.now c.get.ensures) ∙ sym c.is_below.ensures ∙ c.if-is_below.true) in
    record {
      forward = omega (arith, was.forward);
      order = omega (arith, c.stride.ensures.within, was.order);
      within = was.within;
      upper = was.upper;
      step = grind (arith, c.saturating_mul-step.ensures, was.step);
      below = all_drop (λ v. p v ≡ true) c.args.from (take far list) (subst (λ n. AllByRecursion (λ v. p v ≡ true) (take n list)) last up);
    }
