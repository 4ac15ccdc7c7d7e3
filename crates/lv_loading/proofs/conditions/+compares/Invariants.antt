use Rattle.std.proofs.Common.{◌≡◌, drop, map}
use Rattle.std.specs.List.{list_all}
use Rattle.lv_schema.specs.Bound.{alias_columns, compares}
use Rattle.lv_loading.proofs.conditions.+compares.Given as goal

abbrev pub invariant-all_compare-loop-part : goal.invariant-all_compare-loop-part
invariant-all_compare-loop-part l =
    list_all (λ part. part) (map (compares (alias_columns l.schema.tables l.tables)) (drop l.part-index l.parts)) ≡ list_all (λ part. part) (map (compares (alias_columns l.schema.tables l.tables)) l.parts)
