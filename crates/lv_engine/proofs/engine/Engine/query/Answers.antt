use Rattle.std.proofs.Common.{◌≡◌, subst, sym}
use Rattle.lv_schema.specs.Bound.{IsBoundQuery}
use Rattle.lv_schema.specs.WholeWorld.{querying}
use Rattle.lv_engine.specs.Kept.{EngineView, Stands}
use Rattle.lv_engine.proofs.Wrapped.{if_ok, queried_stands}
use Rattle.lv_engine.proofs.engine.Engine.query.Goals as goal

pub query-requires-clause-bound : goal.query-requires-clause-bound
query-requires-clause-bound g c = subst (λ (e : EngineView g.row.D.Denot). IsBoundQuery e.store.tables e.store.views c.args.query.now) (sym c.self.view_is) c.requires.bound

pub returns-clause-done : goal.returns-clause-done
returns-clause-done g c = λ w settings same is.
    let here = subst (λ (e : EngineView g.row.D.Denot). Stands w e) (sym c.self.view_is) is in
    if_ok c.query.result (λ answer gives. queried_stands (querying settings c.args.session c.args.query.now w) answer _ c.self.inside.journal here.journal_is gives)
    (c.query.ensures.done w settings (subst (λ (e : EngineView g.row.D.Denot). settings.combine ≡ e.store.settings.combine) (sym c.self.view_is) same) here.store_stands)
