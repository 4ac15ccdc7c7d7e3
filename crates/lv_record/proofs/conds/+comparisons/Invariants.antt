use Rattle.std.proofs.Common.{◌≡◌, ◌+◌, ◌-◌, ◌^◌, ◌≤◌, drop, map, min}
use Rattle.std.specs.Prelude.{sum}
use Rattle.lv_schema.specs.Bound.{comparisons}
use Rattle.lv_record.proofs.conds.+comparisons.Given as goal

abbrev pub invariant-all_comparisons-loop-cond : goal.invariant-all_comparisons-loop-cond
invariant-all_comparisons-loop-cond l =
    (min (l.sum + sum (map comparisons (drop l.cond-index l.conds))) (2 ^ 64 - 1) ≡ min (sum (map comparisons l.initial.conds)) (2 ^ 64 - 1))
    × (l.sum ≤ 2 ^ 64 - 1)
