use Rattle.std.proofs.Common.{◌≡◌, drop}
use Rattle.std.specs.List.{filter_map, list_all}
use Rattle.lv_schema.specs.Differences.{summed_column}
use Rattle.lv_relevance.specs.Relevance.{is_among}
use Rattle.lv_relevance.proofs.only.sums_only.Given as goal

abbrev pub invariant-loop-item : goal.invariant-loop-item
invariant-loop-item l =
    list_all (is_among l.alias l.columns) (filter_map summed_column (drop l.item-index l.items)) ≡ list_all (is_among l.alias l.columns) (filter_map summed_column l.items)
