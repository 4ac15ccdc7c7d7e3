use Rattle.std.proofs.Common.{subst}
use Rattle.lv_engine.specs.Kept.{EngineView, StandsForSome}
use Rattle.lv_engine.proofs.Wrapped.{stands_for_some}
use Rattle.lv_engine.proofs.engine.Engine.known.Goals as goal

pub returns : goal.returns
returns g c = subst (λ (e : EngineView g.row.D.Denot). StandsForSome e) c.self.view_is (stands_for_some c.self.inside.store c.self.inside.journal c.self.invariant)
