use Rattle.std.proofs.Common.{◌≡◌, take}
use Rattle.lv_txn.specs.Kept.{least_of, live_kept}
use Rattle.lv_txn.proofs.txns.Txns.least.Given as goal

abbrev pub invariant-loop-transaction : goal.invariant-loop-transaction
invariant-loop-transaction l = l.least ≡ least_of (live_kept (take l.transaction-index l.transaction-items))
