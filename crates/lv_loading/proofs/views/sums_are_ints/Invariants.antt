use Rattle.std.proofs.Common.{◌≡◌, drop}
use Rattle.std.specs.List.{filter_map, list_all}
use Rattle.lv_schema.specs.Bound.{alias_columns, is_int_column}
use Rattle.lv_schema.specs.Differences.{summed_column}
use Rattle.lv_loading.proofs.views.sums_are_ints.Given as goal

abbrev pub invariant-loop-item : goal.invariant-loop-item
invariant-loop-item l =
    list_all (is_int_column (alias_columns l.schema.tables l.def.tables)) (filter_map summed_column (drop l.item-index l.item-items)) ≡ list_all (is_int_column (alias_columns l.schema.tables l.def.tables)) (filter_map summed_column l.item-items)
