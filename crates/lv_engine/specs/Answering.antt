-- What a call says of a case of the plain machine, in each world that the engine stood for.
use Rattle.std.specs.Prelude.{◌≡◌, ℕ, Bool, true, false, List, Option, Some, None, Result, Ok, Err}
use Rattle.lv_schema.specs.declared.fault.Fault.{Fault}
use Rattle.lv_schema.specs.declared.fault.Fault.TheVariants as fault
use Rattle.lv_schema.specs.declared.forced.Forced.{Forced}
use Rattle.lv_schema.specs.declared.rec.Rec.{Rec}
use Rattle.lv_schema.specs.Cases.{Case}
use Rattle.lv_schema.specs.UpkeepCases.{Marking}
use Rattle.lv_schema.specs.WholeWorld.{Done, Queried, with_upkeep, world_after}
use Rattle.lv_schema.specs.UpkeepCases.{Fetched, Installed}
use Rattle.lv_schema.specs.UpkeepCases as schema
use Rattle.lv_schema.specs.World.{Visible, World}
use Rattle.lv_journal.specs.declared.writer.Writer.{Writer}
use Rattle.lv_maint.specs.Inputs.{Input}
use Rattle.lv_store.specs.declared.answer.Answer.{Answer}
use Rattle.lv_store.specs.declared.cleaned.Cleaned.{Cleaned}
use Rattle.lv_store.specs.declared.installed.Installed.{Installed as InstallAnswer}
use Rattle.lv_store.specs.Maintaining.{IsGiven, shown_by, step_told, told}
use Rattle.lv_txn.specs.Written.{conflict_fault}
use Rattle.lv_engine.specs.declared.fault.CommitFault.{CommitFault}
use Rattle.lv_engine.specs.declared.fault.CommitFault.TheVariants as commit
use Rattle.lv_engine.specs.declared.fault.CreateFault.{CreateFault}
use Rattle.lv_engine.specs.declared.fault.CreateFault.TheVariants as create
use Rattle.lv_engine.specs.Kept.{EngineView, IsSame, Stands}
use Rattle.lv_engine.specs.Records.{Logs}

-- the case's answer, or its fault, and the world after it; any other error leaves everything as it was
abbrev pub Refuses : {A D : Type 0} → Option Fault → World → EngineView D → EngineView D → Case A → Type 0
Refuses (Some fault) w old new c = (c.answer ≡ Err fault) × Stands (world_after c w) new
Refuses None w old new c = IsSame old new

abbrev pub Meets : {A E D : Type 0} → (E → Option Fault) → World → EngineView D → EngineView D → Result A E → Case A → Type 0
Meets fault w old new (Ok a) c = (c.answer ≡ Ok a) × Stands (world_after c w) new
Meets fault w old new (Err e) c = Refuses (fault e) w old new c

-- why a record is not written, and why a commit is refused; want of memory is no fault
abbrev pub create_fault : CreateFault → Option Fault
create_fault (create.Store) = Some fault.Store
create_fault (create.Full need limit) = Some (fault.JournalFull need limit)
create_fault (create.NoMemory) = None

abbrev pub commit_fault : CommitFault → Option Fault
commit_fault (commit.Conflict c) = Some (conflict_fault c)
commit_fault (commit.TableFull table) = Some (fault.MergedFull table)
commit_fault (commit.Full need limit) = Some (fault.JournalFull need limit)
commit_fault (commit.Store) = Some fault.Store
commit_fault (commit.NoMemory) = None

-- the same of a mark
abbrev pub MarkRefuses : {D : Type 0} → Option Fault → World → EngineView D → EngineView D → Marking → Type 0
MarkRefuses (Some fault) w old new m = (m.answer ≡ Err fault) × Stands (with_upkeep m.next w) new
MarkRefuses None w old new m = IsSame old new

abbrev pub MeetsMark : {D : Type 0} → World → EngineView D → EngineView D → Result (Option ℕ) CreateFault → Marking → Type 0
MeetsMark w old new (Ok a) m = (m.answer ≡ Ok a) × Stands (with_upkeep m.next w) new
MeetsMark w old new (Err e) m = MarkRefuses (create_fault e) w old new m

-- whether the disk failed
abbrev pub is_store : Fault → Bool
is_store fault.Store = true
is_store other = false

abbrev pub shows_store : Option Fault → Bool
shows_store (Some f) = is_store f
shows_store None = false

abbrev pub fails : {A E : Type 0} → (E → Option Fault) → Result A E → Bool
fails fault (Ok a) = false
fails fault (Err e) = shows_store (fault e)

-- what becomes of the journal, by the records of the case; after want of memory it has the records that it had
abbrev pub LogsUnless : {D : Type 0} → (D → Option (List ℕ)) → (D → List ℕ → Type 0) → (D → ℕ) → (D → ℕ → List ℕ → Type 0) → Option Fault → Option Rec → Option Rec → Writer D → Writer D → Type 0
LogsUnless seen may_leave moment left_since None attempted written old new = Logs seen may_leave moment left_since None None old new
LogsUnless seen may_leave moment left_since (Some f) attempted written old new = Logs seen may_leave moment left_since attempted written old new

abbrev pub LogsCase : {A E D : Type 0} → (D → Option (List ℕ)) → (D → List ℕ → Type 0) → (D → ℕ) → (D → ℕ → List ℕ → Type 0) → (E → Option Fault) → Result A E → Option Rec → Option Rec → Writer D → Writer D → Type 0
LogsCase seen may_leave moment left_since fault (Ok a) attempted written old new = Logs seen may_leave moment left_since attempted written old new
LogsCase seen may_leave moment left_since fault (Err e) attempted written old new = LogsUnless seen may_leave moment left_since (fault e) attempted written old new

-- ---- queries, workers and clean-ups
pub record GivesQuery {D : Type 0} (done : Done Queried) (a : Answer) (new : EngineView D) : Type 0 where
  pub forced : a.forced ≡ done.answer.forced
  pub rows : a.rows ≡ done.answer.rows
  pub stands : Stands done.next new

pub record GivesFetch {D : Type 0} (s : Visible) (done : Done Fetched) (input : Option Input) (new : EngineView D) : Type 0 where
  pub input_is : IsGiven s done.answer input
  pub stands : Stands done.next new

pub record GivesClaim {D : Type 0} (done : Done Fetched) (step : Option Forced) (new : EngineView D) : Type 0 where
  pub step_is : step_told step ≡ done.answer
  pub stands : Stands done.next new

pub record GivesInstall {D : Type 0} (done : Done Installed) (a : InstallAnswer) (new : EngineView D) : Type 0 where
  pub answer_is : told a ≡ done.answer
  pub stands : Stands done.next new

pub record GivesCleaned {D : Type 0} (done : Done schema.Cleaned) (a : Cleaned) (new : EngineView D) : Type 0 where
  pub answer_is : shown_by a ≡ done.answer
  pub stands : Stands done.next new
