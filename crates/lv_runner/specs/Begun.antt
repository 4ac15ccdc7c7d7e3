-- A run over a disk that was handed out: what is known when it begins, and how it ends.
use Rattle.std.specs.Prelude.{◌≡◌, ◌≤◌, ◌<◌, ◌⊎◌, ℕ, Bool, IsTrue, List, [], ◌∷◌, ◌++◌, length, Option, Some, None, IfSome, Ok}
use Rattle.std.specs.Io.KnownBytes.{Keeps}
use Rattle.lv_engine.specs.Kept.{EngineView}
use Rattle.lv_journal.specs.Bytes.{magic}
use Rattle.lv_journal.specs.declared.fault.JFault.{JFault}
use Rattle.lv_journal.specs.declared.fault.JFault.TheVariants as journal
use Rattle.lv_lines.specs.Script.{script_of}
use Rattle.lv_outside.specs.Causes.{Rose}
use Rattle.lv_plain.specs.declared.program.Program.{Program}
use Rattle.lv_recover.specs.Opening.{BadAt}
use Rattle.lv_recover.specs.Reopened.{IsReopened}
use Rattle.lv_schema.specs.declared.rec.Rec.{Rec}
use Rattle.lv_store.specs.declared.settings.Settings as store
use Rattle.lv_words.specs.declared.words.Words.{Words as SaidWords}
use Rattle.lv_runner.specs.declared.status.Status.{Status}
use Rattle.lv_runner.specs.declared.status.Status.TheVariants.{Done, SinkFault, BadJournal, OpenFault, NoMemory}
use Rattle.lv_runner.specs.Written.{HasWritten, HasWrittenPart}

-- the settings of the store
abbrev pub store_settings : SaidWords → store.Settings
store_settings w = record { combine = w.combine; log_limit = w.log_limit }

-- how a run ends whose disk's journal was not opened
abbrev pub unopened_as : JFault → Status
unopened_as (journal.Bad offset) = BadJournal offset
unopened_as journal.Failed = OpenFault
unopened_as journal.NoMemory = NoMemory

-- a disk that has bytes tells them still
abbrev pub IsKeptBy : Option (List ℕ) → Option (List ℕ) → Type 0
IsKeptBy seen told = IfSome told (λ bytes. 0 < length bytes → seen ≡ Some bytes)

-- a disk over which nothing was run tells what it told; an empty one may be a new journal
abbrev pub IsUntried : Option (List ℕ) → Option (List ℕ) → Type 0
IsUntried seen told = IfSome told (λ bytes. (seen ≡ Some bytes) ⊎ ((bytes ≡ []) × (seen ≡ Some (magic ++ 0 ∷ []))))

module _ {D : Type 0} (seen : D → Option (List ℕ)) (may_leave : D → List ℕ → Type 0) (moment : D → ℕ) (left_since : D → ℕ → List ℕ → Type 0) (faults : D → ℕ) where
  -- the disk told what the path was told to hold, if that was told
  abbrev pub TellsAtLeast : Option (List ℕ) → D → Type 0
  TellsAtLeast told disk = (bytes : List ℕ) → told ≡ Some bytes → seen disk ≡ Some bytes

  -- the engine is that of the disk, which had this count of failures when it was handed out; and the bytes say the program
  pub record HasBegun (told : Option (List ℕ)) (bytes : List ℕ) (program : Program) (count : ℕ) (e : EngineView D) : Type 0 where
    pub script : script_of bytes ≡ Ok program
    pub recs : List Rec
    pub reopened : IsReopened seen may_leave told recs e
    pub counted : count ≤ faults e.journal.disk

  module _ (w : SaidWords) (told : Option (List ℕ)) (bytes : List ℕ) (count : ℕ) (written0 written1 : Option (List ℕ)) (is_flushed : Bool) (sink0 sink1 : ℕ) where
    -- how a run over an opened engine ends; the disk comes back
    abbrev pub EndsOver : Status → Option D → Type 0
    EndsOver status None = ⊥
    EndsOver Done (Some disk) = HasWritten seen may_leave moment left_since faults w told bytes written0 written1 count disk × IsTrue is_flushed
    EndsOver SinkFault (Some disk) = HasWrittenPart seen may_leave moment left_since faults w told bytes written0 written1 count disk × Rose sink0 sink1
    EndsOver NoMemory (Some disk) = HasWrittenPart seen may_leave moment left_since faults w told bytes written0 written1 count disk
    EndsOver status (Some disk) = ⊥

    -- how one over a disk that is opened first ends
    abbrev pub EndsOpened : Status → Option D → Type 0
    EndsOpened status None = ⊥
    EndsOpened Done (Some disk) = EndsOver Done (Some disk)
    EndsOpened SinkFault (Some disk) = EndsOver SinkFault (Some disk)
    EndsOpened (BadJournal offset) (Some disk) = IfSome told (λ f. BadAt f offset) × Keeps written0 written1 × IfSome told (λ f. seen disk ≡ Some f)
    EndsOpened OpenFault (Some disk) = Rose count (faults disk) × Keeps written0 written1 × IsKeptBy (seen disk) told
    EndsOpened NoMemory (Some disk) = (Keeps written0 written1 × IsUntried (seen disk) told) ⊎ HasWrittenPart seen may_leave moment left_since faults w told bytes written0 written1 count disk
    EndsOpened status (Some disk) = ⊥

  -- how a run of a program over an engine ends, whatever its disk was told to hold, and whichever bytes say the program
  abbrev pub EndsFrom : SaidWords → Program → EngineView D → Option (List ℕ) → Option (List ℕ) → Bool → ℕ → ℕ → Status → Option D → Type 0
  EndsFrom w p e written0 written1 is_flushed sink0 sink1 status back =
      (told : Option (List ℕ)) (bytes : List ℕ) (count : ℕ) → HasBegun told bytes p count e → EndsOver w told bytes count written0 written1 is_flushed sink0 sink1 status back
