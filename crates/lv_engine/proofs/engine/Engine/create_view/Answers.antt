use Rattle.std.proofs.Common.{subst, sym}
use Rattle.lv_schema.specs.Bound.{IsBoundView}
use Rattle.lv_engine.specs.Kept.{EngineView}
use Rattle.lv_engine.proofs.engine.Engine.create_view.Goals as goal

pub create_view-requires-clause-bound : goal.create_view-requires-clause-bound
create_view-requires-clause-bound g c = subst (λ (e : EngineView g.row.D.Denot). IsBoundView e.store.tables e.store.views c.args.def) (sym c.self.view_is) c.requires.bound
