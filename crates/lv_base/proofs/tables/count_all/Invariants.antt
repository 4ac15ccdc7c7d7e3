use Rattle.std.proofs.Common.{◌≡◌, length, take}
use Rattle.std.specs.List.{sum_by}
use Rattle.lv_versions.specs.Versions.{Kept}
use Rattle.lv_base.proofs.tables.count_all.Given as goal

abbrev pub invariant-loop-table : goal.invariant-loop-table
invariant-loop-table l = l.count ≡ sum_by (λ (k : Kept). length k.versions) (take l.table-index l.tables)
