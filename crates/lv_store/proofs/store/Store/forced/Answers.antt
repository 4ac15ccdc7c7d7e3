use Rattle.std.proofs.Common.{◌≡◌, ℕ, ◌<◌, List, length, sym, ◌∙◌, subst, arith}
use Rattle.std.specs.Prelude.{IfOk}
use Rattle.std.specs.List.{AllByRecursion}
use Rattle.lv_schema.specs.StepPlans.{is_inside}
use Rattle.lv_txn.specs.Kept.{live_kept}
use Rattle.lv_upkeep.specs.Kept.{forced_in}
use Rattle.lv_store.specs.Querying.{snapshot_in}
use Rattle.lv_store.proofs.OwnReads.{points_long}
use Rattle.lv_store.proofs.Steps.{each_at}
use Rattle.lv_store.proofs.Views.{views_in_use}
use Rattle.lv_store.proofs.store.Store.forced.Goals as goal

pub forced-requires-clause-views : goal.forced-requires-clause-views
forced-requires-clause-views c = λ k lt.
    let p = c.args.self.now in
    let below = subst (AllByRecursion (λ v. v < length p.schema.views)) (sym (c.as_slice.ensures ∙ c.in_ok-views.ensures)) (views_in_use p.schema.tables p.schema.views c.args.query.now.rels c.requires.bound.in_use) in
    omega (arith, each_at (λ v. v < length p.schema.views) c.as_slice.result.now k 0 lt below, points_long p c.requires.whole.world c.requires.whole.stands)

pub returns : goal.returns
returns c =
    let p = c.args.self.now in
    let steps = forced_in (is_inside (live_kept p.txns)) p.settings.combine p.upkeep.kept in
    subst (λ (views : List ℕ). IfOk c.forced.result (λ forced. forced ≡ steps views (snapshot_in p c.args.session))) (c.as_slice.ensures ∙ c.in_ok-views.ensures)
    (subst (λ n. IfOk c.forced.result (λ forced. forced ≡ steps c.as_slice.result.now n)) c.snapshot-snapshot.ensures.is c.forced.ensures)
