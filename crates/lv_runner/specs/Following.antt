-- Events that come one after another from the begin of a program, what a core then keeps, and what is written of it.
use Rattle.std.specs.Prelude.{◌≡◌, ◌≤◌, ◌⊎◌, ℕ, Bool, IsTrue, List, [], ◌∷◌, ◌++◌, length, take, Option, Some}
use Rattle.std.specs.Io.KnownBytes.{Appends, Keeps}
use Rattle.lv_core.specs.Run.{CoreView, Gave, IsRun, IsSame, first_state, rules_of, state_of}
use Rattle.lv_lines.specs.declared.names.Names.{Names}
use Rattle.lv_lines.specs.Transcript.{entry_text, text_of}
use Rattle.lv_order.specs.Places.{places_after}
use Rattle.lv_outside.specs.Causes.{AppendsFront, Rose}
use Rattle.lv_plain.specs.declared.entry.Entry.{Entry}
use Rattle.lv_plain.specs.declared.event.Event.{Event}
use Rattle.lv_plain.specs.declared.event.Event.TheVariants.{Release as release_of}
use Rattle.lv_plain.specs.declared.program.Program.{Program}
use Rattle.lv_plain.specs.Fronts.{IsFront}
use Rattle.lv_plain.specs.Legal.{MayHappen, events_of}
use Rattle.lv_plain.specs.Machine.{State}
use Rattle.lv_schema.specs.World.{Visible}
use Rattle.lv_runner.specs.declared.status.Status.{Status}
use Rattle.lv_runner.specs.declared.status.Status.TheVariants.{Done, SinkFault, NoMemory}
use Rattle.lv_runner.specs.Output.{names_of}

-- an event of a schedule: no worker gives its claim up of itself
abbrev pub IsScheduled : Event → Type 0
IsScheduled (release_of worker) = ⊥
IsScheduled event = Unit {0}

-- each may happen when it comes, and is one of a schedule
abbrev pub MayFollow : Program → List Event → Type 0
MayFollow p events = (s : State) (before : List Event) (event : Event) (behind : List Event) → before ++ event ∷ behind ≡ events → s.places ≡ places_after p before
    → MayHappen p s event × IsScheduled event

-- the same program goes on, over the same opened engine
pub record GoesOn {D : Type 0} (old new : CoreView D) : Type 0 where
  pub program : new.program ≡ old.program
  pub settings : new.settings ≡ old.settings
  pub opened : new.opened ≡ old.opened

-- the entries are those of these events, so many statements of each session are answered
pub record HasFollowed {D : Type 0} (c : CoreView D) (events : List Event) : Type 0 where
  pub events_are : events_of (rules_of c.settings c.program) (first_state c) c.entries ≡ events
  pub places : c.places ≡ places_after c.program events

-- the first of these events have come, one after another
pub record HasCome {D : Type 0} (c : CoreView D) (events : List Event) : Type 0 where
  pub count : ℕ
  pub followed : HasFollowed c (take count events)

-- ---- names and texts

-- the names that there are now, and names that there were
abbrev pub names_now : {D : Type 0} → CoreView D → Names
names_now c = names_of c.program (state_of c).world.visible

pub record WereNames {D : Type 0} (names : Names) (c : CoreView D) : Type 0 where
  pub then_ : Visible
  pub names_are : names ≡ names_of c.program then_
  pub tables : IsFront then_.tables (state_of c).world.visible.tables
  pub views : IsFront then_.views (state_of c).world.visible.views

-- the text of all entries, under the names that there are now
abbrev pub text_now : {D : Type 0} → CoreView D → List ℕ
text_now c = text_of (names_now c) c.entries

-- ---- what one event adds

module _ {D : Type 0} (seen : D → Option (List ℕ)) (may_leave : D → List ℕ → Type 0) (moment : D → ℕ) (left_since : D → ℕ → List ℕ → Type 0) (failures : D → ℕ) where
  -- the event has come, and the text of its entry was written
  pub record HasAnswered (event : Event) (old new : CoreView D) (written0 written1 : Option (List ℕ)) : Type 0 where
    pub gave : Gave seen may_leave moment left_since failures event old new
    pub wrote : (e : Entry) → new.entries ≡ old.entries ++ e ∷ [] → Appends written0 written1 (entry_text (names_now new) e)

  -- or a front of it was
  pub record HasBrokenOff (event : Event) (old new : CoreView D) (written0 written1 : Option (List ℕ)) : Type 0 where
    pub gave : Gave seen may_leave moment left_since failures event old new
    pub wrote : (e : Entry) → new.entries ≡ old.entries ++ e ∷ [] → AppendsFront written0 written1 (entry_text (names_now new) e)

  -- where it stopped, the event has come or it has not
  abbrev pub HasStoppedAt : Event → CoreView D → CoreView D → Option (List ℕ) → Option (List ℕ) → Type 0
  HasStoppedAt event old new written0 written1 = (IsSame old new × Keeps written0 written1) ⊎ HasBrokenOff event old new written0 written1

-- ---- a run that stopped: the first of these events have come, the texts of their entries were written, and of the last
-- one perhaps a front alone
pub record HasStopped {D : Type 0} (c : CoreView D) (events : List Event) (written0 written1 : Option (List ℕ)) : Type 0 where
  pub count : ℕ
  pub followed : HasFollowed c (take count events)
  pub entries : List Entry
  pub next : List Entry
  pub one : length next ≤ 1
  pub are : c.entries ≡ entries ++ next
  pub front : ℕ
  pub wrote : Appends written0 written1 (text_of (names_now c) entries ++ take front (text_of (names_now c) next))

-- ---- how a run over a core ends, which goes on to a new one

module _ {D : Type 0} (seen : D → Option (List ℕ)) (may_leave : D → List ℕ → Type 0) (moment : D → ℕ) (left_since : D → ℕ → List ℕ → Type 0) (failures : D → ℕ) where
  abbrev pub EndsAt : CoreView D → List Event → Option (List ℕ) → Option (List ℕ) → Bool → ℕ → ℕ → Status → Type 0
  EndsAt c events written0 written1 is_flushed faults0 faults1 Done = HasFollowed c events × Appends written0 written1 (text_now c) × IsTrue is_flushed
  EndsAt c events written0 written1 is_flushed faults0 faults1 SinkFault = HasStopped c events written0 written1 × Rose faults0 faults1
  EndsAt c events written0 written1 is_flushed faults0 faults1 NoMemory = HasStopped c events written0 written1
  EndsAt c events written0 written1 is_flushed faults0 faults1 status = ⊥

  pub record HasRun (old : CoreView D) (events : List Event) (written0 written1 : Option (List ℕ)) (is_flushed : Bool) (faults0 faults1 : ℕ) (status : Status) (back : Option D) : Type 0 where
    pub new : CoreView D
    pub run : IsRun seen may_leave moment left_since failures new
    pub same : GoesOn old new
    pub disk : back ≡ Some new.engine.journal.disk
    pub ends : EndsAt new events written0 written1 is_flushed faults0 faults1 status
