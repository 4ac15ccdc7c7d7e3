use Rattle.std.proofs.Common.{◌∷◌, ◌++◌, drop}
use Rattle.lv_schema.specs.World.{World}
use Rattle.lv_stands.specs.Moves.{StepsFollow}
use Rattle.lv_store.specs.Querying.{CanCompute, InPlaceOf, IsJoined}
use Rattle.lv_store.specs.Kept.{Stands, store_of}
use Rattle.lv_store.proofs.Forcing.{IsKeptStep}
use Rattle.lv_store.proofs.store.Store.join_all.Given as goal

abbrev pub invariant-loop-step : goal.invariant-loop-step
invariant-loop-step l = record {
  can : CanCompute l.self l.before;
  place : (w : World) → Stands w (store_of l.self) → StepsFollow w (l.fn.first ∷ l.rest)
      → IsJoined w.visible l.joined l.before × IsKeptStep w l.before × InPlaceOf w (l.fn.first ∷ l.rest) (l.taken ++ l.joined ∷ drop l.step-index l.rest);
}
