-- What a disk gives that is opened.
use Rattle.std.specs.Prelude.{◌≡◌, ℕ, true, List, Option, None, IfSome}
use Rattle.lv_schema.specs.declared.rec.Rec.{Rec}
use Rattle.lv_replay.specs.Applies.{all_apply}
use Rattle.lv_replay.specs.Replayed.{state_of}
use Rattle.lv_store.specs.Kept.{StoreKept, kept}
use Rattle.lv_engine.specs.Fresh.{IsFresh}
use Rattle.lv_engine.specs.Kept.{EngineView, Stands}
use Rattle.lv_engine.specs.Records.{HasRecords}
use Rattle.lv_recover.specs.Opening.{OpensAs}
use Rattle.lv_recover.specs.Reading.{EndsBehind}

-- an engine over a disk that told these bytes, if it tells any: it stands for the world that these records make, its journal
-- has them and no more, and the bytes open as them
pub record IsReopened {D : Type 0} (seen : D → Option (List ℕ)) (may_leave : D → List ℕ → Type 0) (told : Option (List ℕ)) (recs : List Rec) (e : EngineView D) : Type 0 where
  pub opens : IfSome told (λ bytes. OpensAs bytes recs)
  pub apply : all_apply recs ≡ true
  pub stands : Stands (state_of recs) e
  pub records : HasRecords seen may_leave recs None e.journal

-- the same, of a journal that ends behind these records
pub record IsMadeOf {D : Type 0} (seen : D → Option (List ℕ)) (may_leave : D → List ℕ → Type 0) (told : Option (List ℕ)) (recs : List Rec) (e : EngineView D) : Type 0 where
  pub ends : IfSome told (EndsBehind recs)
  pub apply : all_apply recs ≡ true
  pub stands : Stands (state_of recs) e
  pub records : HasRecords seen may_leave recs None e.journal

-- what is kept is fresh, however long the journal is
abbrev pub IsFreshAt : StoreKept → Type 0
IsFreshAt s = (journal : ℕ) → IsFresh (kept journal s)
