use Rattle.std.proofs.Common.{◌≡◌, subst, sym}
use Rattle.lv_schema.specs.Bound.{IsBoundQuery}
use Rattle.lv_engine.specs.Kept.{EngineView, Stands}
use Rattle.lv_engine.proofs.engine.Engine.stale.Goals as goal

pub stale-requires-clause-bound : goal.stale-requires-clause-bound
stale-requires-clause-bound g c = subst (λ (e : EngineView g.row.D.Denot). IsBoundQuery e.store.tables e.store.views c.args.query.now) (sym c.self.view_is) c.requires.bound

pub returns-clause-inputs : goal.returns-clause-inputs
returns-clause-inputs g c = λ w settings same is.
    let here = subst (λ (e : EngineView g.row.D.Denot). Stands w e) (sym c.self.view_is) is in
    c.stale.ensures.inputs w settings (subst (λ (e : EngineView g.row.D.Denot). settings.combine ≡ e.store.settings.combine) (sym c.self.view_is) same) here.store_stands
