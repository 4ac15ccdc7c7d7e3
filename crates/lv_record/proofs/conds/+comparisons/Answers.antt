use Rattle.std.proofs.Common.{◌≡◌, map, arith, ap, drop}
use Rattle.std.specs.Prelude.{sum}
use Rattle.std.proofs.lemmas.List.{drop_all}
use Rattle.lv_schema.specs.Bound.{comparisons}
use Rattle.lv_record.proofs.conds.+comparisons.Goals as goal

pub all_comparisons-returns : goal.all_comparisons-returns
all_comparisons-returns t c =
    let none : sum (map comparisons (drop c.loop-cond.cond-index c.args.conds.now)) ≡ 0 =
    ap (λ xs. sum (map comparisons xs)) (drop_all c.loop-cond.cond-index c.args.conds.now (omega (arith, c.loop-cond-test.false))) in
    omega (arith, c.loop-cond.invariant.0, c.loop-cond.invariant.1, none)
