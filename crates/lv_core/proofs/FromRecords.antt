-- An engine that is opened from records.
use Rattle.std.proofs.Common.{◌≡◌, ℕ, true, List, Option, None, sym, subst}
use Rattle.lv_schema.specs.declared.rec.Rec.{Rec}
use Rattle.lv_schema.specs.World.{World}
use Rattle.lv_replay.specs.Applies.{all_apply}
use Rattle.lv_replay.specs.Replayed as replay
use Rattle.lv_stands.specs.Stands.{StandsFor}
use Rattle.lv_store.specs.Kept.{kept}
use Rattle.lv_engine.specs.Kept.{EngineView, Stands, length_of}
use Rattle.lv_engine.specs.Records.{HasRecords}
use Rattle.lv_engine.proofs.OneWorld.{one_world}
use Rattle.lv_core.specs.Run.{IsOpenedBy, IsOpening, world_of}

-- it stands for one world alone
pub world_is : {D : Type 0} (e : EngineView D) (w : World) → IsOpening e → Stands w e → w ≡ world_of e
world_is e w opening stands =
    one_world w (kept (length_of e.journal) e.store) opening (subst (λ j. StandsFor w (kept j e.store)) (sym stands.journal_is) stands.store_stands)

-- where it stands for the world that records make, it is opened from them
pub opened_from : {D : Type 0} (seen : D → Option (List ℕ)) (may_leave : D → List ℕ → Type 0) (recs : List Rec) (e : EngineView D) → IsOpening e → all_apply recs ≡ true → Stands (replay.state_of recs) e → HasRecords seen may_leave recs None e.journal
    → IsOpenedBy seen may_leave recs e
opened_from seen may_leave recs e opening apply stands had = record { apply = apply; made = sym (world_is e (replay.state_of recs) opening stands); had = had }
