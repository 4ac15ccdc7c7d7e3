use Rattle.std.proofs.Common.{◌≡◌, ◌∙◌}
use Rattle.lv_schema.specs.World.{least}
use Rattle.lv_txn.specs.Kept.{live_kept}
use Rattle.lv_store.specs.Maintaining.{lesser}
use Rattle.lv_store.proofs.CleanedParts.{least_point, least_snapshot}
use Rattle.lv_store.proofs.store.Store.floor.Goals as goal

pub returns : goal.returns
returns c =
    let p = c.args.self.now in
    let first : c.lesser-last_or_point.result ≡ least p.base.number p.upkeep.kept.points =
    c.lesser-last_or_point.ensures ∙ (λ i. lesser (c.last.ensures i) (c.least_point.ensures i)) ∙ least_point p.base.number p.upkeep.kept.points in
    c.lesser.ensures ∙ (λ i. lesser (first i) (c.least.ensures i)) ∙ least_snapshot (least p.base.number p.upkeep.kept.points) (live_kept p.txns)
