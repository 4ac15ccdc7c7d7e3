use Rattle.std.proofs.Common.{drop}
use Rattle.lv_viewrows.specs.Kept.{ViewKept}
use Rattle.lv_store.specs.Pending.{CanTakeEach, TakesEach}
use Rattle.lv_store.proofs.pending.install_copies.Given as goal

abbrev pub invariant-loop-difference : goal.invariant-loop-difference
invariant-loop-difference l = record {
  can : CanTakeEach 0 (drop l.difference-index l.differences) l.rows;
  done : (new : ViewKept) → TakesEach 0 (drop l.difference-index l.differences) l.rows new → TakesEach 0 l.differences l.initial.rows new;
}
