use Rattle.std.proofs.Common.{◌≡◌, drop}
use Rattle.std.specs.List.{list_all}
use Rattle.lv_schema.specs.Bound.{alias_columns, is_in_range}
use Rattle.lv_schema.specs.JoinViews.{plain_columns}
use Rattle.lv_loading.proofs.views.plain_in_range.Given as goal

abbrev pub invariant-loop-item : goal.invariant-loop-item
invariant-loop-item l = list_all (is_in_range (alias_columns l.schema.tables l.tables)) (plain_columns (drop l.item-index l.items)) ≡ list_all (is_in_range (alias_columns l.schema.tables l.tables)) (plain_columns l.items)
