use Rattle.std.proofs.Common.{◌∙◌}
use Rattle.lv_txn.specs.Kept.{live_kept}
use Rattle.lv_store.specs.Maintaining.{lesser}
use Rattle.lv_store.proofs.CleanedParts.{least_snapshot}
use Rattle.lv_store.proofs.store.Store.least_read.Goals as goal

pub returns : goal.returns
returns c =
    let p = c.args.self.now in
    c.lesser.ensures ∙ (λ i. lesser (c.last.ensures i) (c.least.ensures i)) ∙ least_snapshot p.base.number (live_kept p.txns)
