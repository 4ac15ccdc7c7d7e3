use Rattle.std.proofs.Common.{◌≡◌, drop}
use Rattle.std.specs.List.{list_all}
use Rattle.lv_schema.specs.Bound.{alias_columns, is_in_range}
use Rattle.lv_loading.proofs.views.are_in_range.Given as goal

abbrev pub invariant-loop-col : goal.invariant-loop-col
invariant-loop-col l = list_all (is_in_range (alias_columns l.schema.tables l.tables)) (drop l.col-index l.cols) ≡ list_all (is_in_range (alias_columns l.schema.tables l.tables)) l.cols
