use Rattle.std.proofs.Common.{◌≡◌, ◌+◌, drop}
use Rattle.lv_store.specs.Pending.{changed_rows}
use Rattle.lv_store.proofs.pending.changed_rows.Given as goal

abbrev pub invariant-loop-difference : goal.invariant-loop-difference
invariant-loop-difference l = l.rows + changed_rows (drop l.difference-index l.differences) ≡ changed_rows l.differences
