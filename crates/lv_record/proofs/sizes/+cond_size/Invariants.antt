use Rattle.std.proofs.Common.{◌≡◌, ◌+◌, ◌-◌, ◌^◌, ◌≤◌, drop, map, min}
use Rattle.std.specs.Prelude.{sum}
use Rattle.std.specs.List.{list_all}
use Rattle.lv_schema.specs.Records.{cond_size}
use Rattle.lv_record.specs.Kept.{is_typed_cond}
use Rattle.lv_record.proofs.sizes.+cond_size.Given as goal

abbrev pub invariant-conds_size-loop-cond : goal.invariant-conds_size-loop-cond
invariant-conds_size-loop-cond l =
    (min (l.sum + sum (map cond_size (drop l.cond-index l.conds))) (2 ^ 64 - 1) ≡ min (sum (map cond_size l.initial.conds)) (2 ^ 64 - 1))
    × (l.sum ≤ 2 ^ 64 - 1)
    × (list_all (λ part. part) (map is_typed_cond (drop l.cond-index l.conds)) ≡ list_all (λ part. part) (map is_typed_cond l.initial.conds))
