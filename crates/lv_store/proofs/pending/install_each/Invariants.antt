use Rattle.std.proofs.Common.{length}
use Rattle.lv_store.proofs.PendingRows.{TakenFrom}
use Rattle.lv_store.proofs.pending.install_each.Given as goal

abbrev pub invariant-loop-differences : goal.invariant-loop-differences
invariant-loop-differences l = TakenFrom l.fn.floor l.initial.pending l.pending l.initial.views l.views

abbrev pub decreases-loop-differences : goal.decreases-loop-differences
decreases-loop-differences l = length l.pending
