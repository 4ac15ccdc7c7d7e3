use Rattle.lv_txn.proofs.Sessions.{least_step}
use Rattle.lv_txn.proofs.txns.Txns.least.Goals as goal

pub loop-transaction-preserved : goal.loop-transaction-preserved
loop-transaction-preserved c =
    least_step c.used_places-transaction-items.result.now c.loop-transaction.transaction-index c.transaction-item.result c.loop-transaction.least c.lesser-least.result c.loop-transaction-test.true c.transaction-item.is c.loop-transaction.invariant c.lesser-least.ensures
