use Rattle.std.proofs.Common.{◌≡◌, drop, length, nat_lt}
use Rattle.std.specs.List.{list_all}
use Rattle.lv_loading.proofs.views.are_in_use.Given as goal

abbrev pub invariant-loop-table : goal.invariant-loop-table
invariant-loop-table l = list_all (λ t. nat_lt t (length l.schema.tables)) (drop l.table-index l.tables) ≡ list_all (λ t. nat_lt t (length l.schema.tables)) l.tables
