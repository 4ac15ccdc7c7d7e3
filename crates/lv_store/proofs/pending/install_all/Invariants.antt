use Rattle.std.proofs.Common.{◌≤◌}
use Rattle.lv_viewrows.specs.Kept.{ViewKept}
use Rattle.lv_store.specs.Pending.{CanTakeEach, TakesEach, changed_rows}
use Rattle.lv_store.proofs.pending.install_all.Given as goal

abbrev pub invariant-loop-difference : goal.invariant-loop-difference
invariant-loop-difference l = record {
  can : CanTakeEach l.floor l.difference-iterator.rest.items l.rows;
  room : changed_rows l.difference-iterator.rest.items ≤ l.rows.spare;
  done : (new : ViewKept) → TakesEach l.floor l.difference-iterator.rest.items l.rows new → TakesEach l.floor l.fn.differences l.initial.rows new;
}
