use Rattle.std.proofs.Common.{◌≤◌, length}
use Rattle.lv_txn.specs.Kept.{NoneLiveFrom}
use Rattle.lv_txn.proofs.txns.still_used.Given as goal

abbrev pub invariant-loop-used : goal.invariant-loop-used
invariant-loop-used l = (l.used ≤ length l.sessions) × NoneLiveFrom l.used l.sessions

abbrev pub decreases-loop-used : goal.decreases-loop-used
decreases-loop-used l = l.used
