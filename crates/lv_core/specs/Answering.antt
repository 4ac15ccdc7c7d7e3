-- What a call says of a turn of the plain machine: what is answered, for which world the engine stands then, and what
-- becomes of its journal.
use Rattle.std.specs.Prelude.{◌≡◌, ◌<◌, ◌≤◌, ℕ, ◌==◌, Bool, true, List, [], Option, Some, None, is_some, slice_set, Result, Ok, Err}
use Rattle.lv_outside.specs.Causes.{Rose}
use Rattle.lv_schema.specs.declared.bound.Bound.{Bound}
use Rattle.lv_schema.specs.declared.fault.Fault.{Fault}
use Rattle.lv_schema.specs.declared.forced.Forced.{Forced}
use Rattle.lv_schema.specs.declared.rec.Rec.{Rec}
use Rattle.lv_schema.specs.Bound.{IsBound}
use Rattle.lv_schema.specs.UpkeepCases.{Marking, marking, outcome_of, with_record, with_steps}
use Rattle.lv_schema.specs.WholeWorld.{with_upkeep}
use Rattle.lv_schema.specs.World.{World}
use Rattle.lv_bind.specs.Allowed.{IsAllowed}
use Rattle.lv_journal.specs.declared.writer.Writer.{Writer}
use Rattle.lv_plain.specs.declared.entry.Entry.{Entry}
use Rattle.lv_plain.specs.declared.entry.Entry.TheVariants as entry
use Rattle.lv_plain.specs.declared.entry.Reply.TheVariants as reply
use Rattle.lv_plain.specs.Machine.{Given, mark_outcome}
use Rattle.lv_plain.specs.Rules.{Rules}
use Rattle.lv_plain.specs.Turns.{Turn}
use Rattle.lv_plain.specs.WrittenRecords.{answered_record}
use Rattle.lv_txn.specs.Kept.{TransactionKept, transaction_at, transaction_of}
use Rattle.lv_engine.specs.Kept.{EngineView, IsSame, Stands}
use Rattle.lv_engine.specs.Records.{Logs}
use Rattle.lv_engine.specs.Writing.{IsUntouched}
use Rattle.lv_core.specs.declared.answered.Answered.{Answered}

-- the world after a turn that forces these steps
abbrev pub turned : List Forced → Turn → World → World
turned steps t w = record { visible = t.next; upkeep = with_record t.written (with_steps steps w.upkeep) }

-- a session's transaction has become this one
abbrev pub with_transaction : {D : Type 0} → EngineView D → ℕ → Option TransactionKept → EngineView D
with_transaction e session t = record e { store = record e.store { sessions = slice_set e.store.sessions session t } }

-- no step, and the reply that tells why a statement is not done; want of memory has none
abbrev pub IsRefusal : {E : Type 0} → Option Fault → Result Answered E → Type 0
IsRefusal (Some fault) (Ok a) = (a.forced ≡ []) × (a.reply ≡ reply.Refused fault)
IsRefusal (Some fault) (Err e) = ⊥
IsRefusal None (Ok a) = ⊥
IsRefusal None (Err e) = Unit {0}

module _ {D : Type 0} (seen : D → Option (List ℕ)) (may_leave : D → List ℕ → Type 0) (moment : D → ℕ) (left_since : D → ℕ → List ℕ → Type 0) (failures : D → ℕ) where
  -- what becomes of a journal, by the record that the disk was asked to keep and the one that was written
  pub record Journals (attempted written : Option Rec) (old new : Writer D) : Type 0 where
    pub logs : Logs seen may_leave moment left_since attempted written old new
    pub later : failures old.disk ≤ failures new.disk

  -- The steps and the reply of a turn, the world after it, and the journal, for a disk that failed or did not. It failed only
  -- where its count rose.
  pub record GivesTurn (w : World) (old new : EngineView D) (steps : List Forced) (turn_if : Bool → Turn) (a : Answered) : Type 0 where
    pub fails : Bool
    pub forced : a.forced ≡ steps
    pub reply : a.reply ≡ (turn_if fails).reply
    pub stands : Stands (turned steps (turn_if fails) w) new
    pub journal : Journals (turn_if fails).attempted (turn_if fails).written old.journal new.journal
    pub cause : fails ≡ true → Rose (failures old.journal.disk) (failures new.journal.disk)

  -- want of memory leaves all but the room in the journal: this has the records that it had, the one in doubt among them, and
  -- its disk was asked to write nothing
  pub record IsUndone (old new : EngineView D) : Type 0 where
    pub same : IsSame old new
    pub logs : Logs seen may_leave moment left_since None None old.journal new.journal
    pub disk : IsUntouched seen may_leave failures old.journal.disk new.journal.disk

  abbrev pub Answers : {E : Type 0} → World → EngineView D → EngineView D → Result Answered E → List Forced → (Bool → Turn) → Type 0
  Answers w old new (Ok a) steps turn_if = GivesTurn w old new steps turn_if a
  Answers w old new (Err e) steps turn_if = IsUndone old new

  -- a mark of a view: its entry, the world after it, and the journal, for a disk that failed or did not
  abbrev pub marking_if : Rules → ℕ → World → Bool → Marking
  marking_if rules view w fails = marking (outcome_of rules.settings fails w.upkeep) view w.upkeep

  pub record GivesMark (rules : Rules) (view : ℕ) (w : World) (old new : EngineView D) (e : Entry) : Type 0 where
    pub fails : Bool
    pub entry : e ≡ entry.Marked view (mark_outcome rules fails (marking_if rules view w fails).answer)
    pub stands : Stands (with_upkeep (marking_if rules view w fails).next w) new
    pub journal : Journals (marking_if rules view w fails).attempted (answered_record rules fails (marking_if rules view w fails).answer view w.upkeep) old.journal new.journal
    pub cause : fails ≡ true → Rose (failures old.journal.disk) (failures new.journal.disk)

  abbrev pub MarksView : {E : Type 0} → Rules → ℕ → World → EngineView D → EngineView D → Result Entry E → Type 0
  MarksView rules view w old new (Ok e) = GivesMark rules view w old new e
  MarksView rules view w old new (Err x) = IsUndone old new

-- the entry of what an event gives that is no turn, and the world after it
pub record GivesEntry {D : Type 0} (given : Given) (new : EngineView D) (e : Entry) : Type 0 where
  pub entry : e ≡ given.entry
  pub stands : Stands given.next.world new

-- whether a session's transaction is kept
abbrev pub is_live : {D : Type 0} → EngineView D → ℕ → Bool
is_live e session = is_some (transaction_at e.store.sessions session)

-- what holds when the next statement of a session is read: it has not changed too much, and in the setup nobody else is
-- live
pub record IsNext {D : Type 0} (e : EngineView D) (session : ℕ) : Type 0 where
  pub known : session < 17
  pub few : (transaction_of e.store.sessions session).changes < 4294967295
  pub first : (session == 0) ≡ true → (other : ℕ) → 0 < other → transaction_at e.store.sessions other ≡ None

-- and of a statement that it is bound to
pub record IsReady {D : Type 0} (e : EngineView D) (session : ℕ) (b : Bound) : Type 0 where
  pub next : IsNext e session
  pub bound : IsBound e.store.tables e.store.views b
  pub allowed : IsAllowed (session == 0) (is_live e session) b
