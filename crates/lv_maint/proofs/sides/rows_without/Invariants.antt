use Rattle.std.proofs.Common.{◌≡◌, ◌≤◌, ◌++◌, drop}
use Rattle.lv_join.specs.Ties.{seen}
use Rattle.lv_maint.specs.Terms.{without}
use Rattle.lv_maint.proofs.sides.rows_without.Given as goal

abbrev pub invariant-loop-row : goal.invariant-loop-row
invariant-loop-row l = record {
  kept : seen l.kept.items ++ without (drop l.row-index l.rows) (drop l.next l.minus) ≡ without l.rows l.minus;
  next : l.next ≤ l.row-index;
}
