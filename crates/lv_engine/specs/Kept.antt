-- What an engine keeps, as its contracts see it, and the worlds that it stands for.
use Rattle.std.specs.Prelude.{◌≡◌, ℕ, ◌-◌, ◌^◌, min}
use Rattle.lv_schema.specs.World.{World}
use Rattle.lv_journal.specs.Standing.{journal_length}
use Rattle.lv_journal.specs.declared.writer.Writer.{Writer}
use Rattle.lv_store.specs.Kept.{StoreKept, store_of}
use Rattle.lv_store.specs.declared.store.Store.{Store}
use Rattle.lv_store.specs.Kept as store

-- what it keeps in memory, and its journal
pub record EngineView (D : Type 0) : Type 0 where
  pub store : StoreKept
  pub journal : Writer D

abbrev pub engine_of : {D : Type 0} → Store → Writer D → EngineView D
engine_of s j = record { store = store_of s; journal = j }

-- the length of a journal, or the greatest number where that is greater
abbrev pub length_of : {D : Type 0} → Writer D → ℕ
length_of journal = min (journal_length journal) (2 ^ 64 - 1)

-- an engine stands for a world: what it keeps in memory does, and its journal has the length that the world says
pub record Stands {D : Type 0} (w : World) (e : EngineView D) : Type 0 where
  pub store_stands : store.Stands w e.store
  pub journal_is : length_of e.journal ≡ w.upkeep.journal

-- a world that an engine stands for
abbrev pub StandsForSome : {D : Type 0} → EngineView D → Type 0
StandsForSome e = (w : World) × Stands w e

-- nothing but the room in the journal has changed
pub record IsSame {D : Type 0} (old new : EngineView D) : Type 0 where
  pub store_is : new.store ≡ old.store
  pub length_is : length_of new.journal ≡ length_of old.journal
