use Rattle.std.proofs.Common.{◌≡◌, take}
use Rattle.lv_bind.specs.Binding.{table_numbers}
use Rattle.lv_bind.proofs.creating.table_numbers.Given as goal

abbrev pub invariant-loop-table : goal.invariant-loop-table
invariant-loop-table l =
    l.out ≡ table_numbers l.schema.tables l.schema.views (take l.table-index l.refs)
