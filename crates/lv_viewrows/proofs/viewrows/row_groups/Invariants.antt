use Rattle.std.proofs.Common.{◌≡◌, map}
use Rattle.lv_viewrows.specs.Kept.{one_row}
use Rattle.lv_viewrows.proofs.viewrows.row_groups.Given as goal

abbrev pub invariant-loop-row : goal.invariant-loop-row
invariant-loop-row l = l.groups ≡ map one_row l.yielded
