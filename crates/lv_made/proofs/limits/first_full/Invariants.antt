use Rattle.std.proofs.Common.{◌≡◌, [], filter}
use Rattle.std.specs.List.{range_with_len}
use Rattle.lv_made.specs.Limits.{is_full}
use Rattle.lv_made.proofs.limits.first_full.Given as goal

abbrev pub invariant-loop-table : goal.invariant-loop-table
invariant-loop-table l = filter (is_full l.base l.nets) (range_with_len 0 l.table) ≡ []
