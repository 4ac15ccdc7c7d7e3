-- How a run ends: what each status says of the source, the sink and the disks.
use Rattle.std.specs.Prelude.{◌≡◌, ◌<◌, ◌⊎◌, ℕ, Bool, IsTrue, List, length, Option, Some, None, IfSome, Ok}
use Rattle.std.specs.Io.KnownBytes.{Consumes, IsAtEnd, Keeps}
use Rattle.lv_core.specs.Run.{failures_shown}
use Rattle.lv_lines.specs.Script.{script_of}
use Rattle.lv_make.specs.ScriptText.{made_script}
use Rattle.lv_outside.specs.Causes.{Rose}
use Rattle.lv_outside.specs.Opening.{handed_out, turned_away}
use Rattle.lv_outside.specs.declared.disks.Openings.{Openings}
use Rattle.lv_plain.specs.declared.program.Program.{Program}
use Rattle.lv_recover.specs.Opening.{BadAt}
use Rattle.lv_words.specs.declared.words.Words.{Words as SaidWords}
use Rattle.lv_runner.specs.declared.reading.Unread.{Unread}
use Rattle.lv_runner.specs.declared.reading.Unread.TheVariants as why
use Rattle.lv_runner.specs.declared.status.Status.{Status}
use Rattle.lv_runner.specs.declared.status.Status.TheVariants.{Done, Words, Script, SourceFault, SinkFault, BadJournal, OpenFault, NoMemory}
use Rattle.lv_runner.specs.Begun.{IsKeptBy, IsUntried}
use Rattle.lv_order.specs.Once.{AnswerOnce}
use Rattle.lv_runner.specs.Output.{limit, IsBad}
use Rattle.lv_runner.specs.Written.{HasWritten, HasWrittenPart}

-- What a run sees of its source, its sink and the disks: the bytes left and the bytes written, where they tell them;
-- whether these are flushed; how often each has failed; and which openings were asked.
pub record Outside : Type 0 where
  pub left : Option (List ℕ)
  pub source_faults : ℕ
  pub written : Option (List ℕ)
  pub is_flushed : Bool
  pub sink_faults : ℕ
  pub disks_faults : ℕ
  pub openings : Openings

-- ---- the script

-- the source was read to its end, and these are its bytes
pub record HasRead (left0 left1 : Option (List ℕ)) (bytes : List ℕ) : Type 0 where
  pub consumed : Consumes left0 left1 bytes
  pub ended : IsAtEnd left1

-- a script of so many statements was made, and the source was left alone
pub record HasMade (n : ℕ) (left0 left1 : Option (List ℕ)) (bytes : List ℕ) : Type 0 where
  pub made : bytes ≡ made_script n
  pub alone : left1 ≡ left0

-- the bytes of the script: those of the source, or those that are made
abbrev pub HasInput : Option ℕ → Option (List ℕ) → Option (List ℕ) → List ℕ → Type 0
HasInput None left0 left1 bytes = HasRead left0 left1 bytes
HasInput (Some n) left0 left1 bytes = HasMade n left0 left1 bytes

-- The bytes read are refused at this line, with this kind, and the source was read to its end. Or it has more bytes than
-- a script may have: that is kind 2 at line 0.
pub record Refused (left0 left1 : Option (List ℕ)) (line kind : ℕ) : Type 0 where
  pub bytes : List ℕ
  pub consumed : Consumes left0 left1 bytes
  pub ended : IsAtEnd left1 ⊎ (limit < length bytes)
  pub refused : IsBad bytes line kind

-- there is a script without a fault: the bytes that the source tells say a program; one that is made always does
abbrev pub HasScript : Option ℕ → Option (List ℕ) → Type 0
HasScript None left = (bytes : List ℕ) × (program : Program) × (left ≡ Some bytes) × (script_of bytes ≡ Ok program)
HasScript (Some n) left = Unit {0}

-- why there is no program, by the bytes that are left and how often the source has failed; want of memory has no cause
abbrev pub WhyUnread : Option (List ℕ) → Option (List ℕ) → ℕ → ℕ → Unread → Type 0
WhyUnread left0 left1 faults0 faults1 (why.Script line kind) = Refused left0 left1 line kind
WhyUnread left0 left1 faults0 faults1 why.Source = Rose faults0 faults1
WhyUnread left0 left1 faults0 faults1 why.NoMemory = Unit {0}

-- a script that is made is never refused, and no source fails
abbrev pub WhyUnmade : Unread → Type 0
WhyUnmade (why.Script line kind) = ⊥
WhyUnmade why.Source = ⊥
WhyUnmade why.NoMemory = Unit {0}

abbrev pub WhyNone : Option ℕ → Option (List ℕ) → Option (List ℕ) → ℕ → ℕ → Unread → Type 0
WhyNone None left0 left1 faults0 faults1 unread = WhyUnread left0 left1 faults0 faults1 unread
WhyNone (Some n) left0 left1 faults0 faults1 unread = WhyUnmade unread

-- how a run without a program ends
abbrev pub unread_as : Unread → Status
unread_as (why.Script line kind) = Script line kind
unread_as why.Source = SourceFault
unread_as why.NoMemory = NoMemory

-- the bytes of the script say a program
pub record HasProgram (made : Option ℕ) (left0 left1 : Option (List ℕ)) : Type 0 where
  pub bytes : List ℕ
  pub input : HasInput made left0 left1 bytes
  pub program : Program
  pub script : script_of bytes ≡ Ok program

-- ---- the disks; a run may give one back

-- one opening was asked, with this path, and the disk that was handed out comes back
abbrev pub HandedOut : {D : Type 0} → Option (List ℕ) → Openings → Openings → Option D → Type 0
HandedOut path old new None = ⊥
HandedOut path old new (Some disk) = new ≡ handed_out old path new.count

-- one was asked, with this path, and no disk was handed out
abbrev pub TurnedAway : {D : Type 0} → Option (List ℕ) → Openings → Openings → Option D → Type 0
TurnedAway path old new None = new ≡ turned_away old path
TurnedAway path old new (Some disk) = ⊥

-- none was asked
abbrev pub NotAsked : {D : Type 0} → Openings → Openings → Option D → Type 0
NotAsked old new None = new ≡ old
NotAsked old new (Some disk) = ⊥

-- the opening failed, and the count of the disks rose; or reading the disk did, and its count rose since it was handed out
abbrev pub FailedOpening : {D : Type 0} → (D → ℕ) → ℕ → ℕ → ℕ → Option D → Type 0
FailedOpening faults faults0 faults1 count None = Rose faults0 faults1
FailedOpening faults faults0 faults1 count (Some disk) = Rose count (faults disk)

-- the disk comes back and tells what was told of its path, if that was told
abbrev pub IsLeft : {D : Type 0} → (D → Option (List ℕ)) → Option (List ℕ) → Option D → Type 0
IsLeft seen told None = ⊥
IsLeft seen told (Some disk) = IfSome told (λ bytes. seen disk ≡ Some bytes)

-- so it does where it comes back and has bytes
abbrev pub IsSpared : {D : Type 0} → (D → Option (List ℕ)) → Option (List ℕ) → Option D → Type 0
IsSpared seen told None = Unit {0}
IsSpared seen told (Some disk) = IsKeptBy (seen disk) told

-- nothing was run over the disk that comes back: it tells what was told of its path, or is a new journal where it was empty
abbrev pub IsUnbegun : {D : Type 0} → (D → Option (List ℕ)) → Option (List ℕ) → Option D → Type 0
IsUnbegun seen told None = ⊥
IsUnbegun seen told (Some disk) = IsUntried (seen disk) told

-- ---- the run

module _ {D : Type 0} (seen : D → Option (List ℕ)) (may_leave : D → List ℕ → Type 0) (moment : D → ℕ) (left_since : D → ℕ → List ℕ → Type 0) (faults : D → ℕ) (w : SaidWords) (told left0 left1 written0 written1 : Option (List ℕ)) (count : ℕ) where
  -- there was a script, and the whole output was written, or a part of it; the disk comes back
  pub record DidAll (back : Option D) : Type 0 where
    pub bytes : List ℕ
    pub input : HasInput w.make left0 left1 bytes
    pub disk : D
    pub comes_back : back ≡ Some disk
    pub wrote : HasWritten seen may_leave moment left_since faults w told bytes written0 written1 count disk

  pub record DidPart (back : Option D) : Type 0 where
    pub bytes : List ℕ
    pub input : HasInput w.make left0 left1 bytes
    pub disk : D
    pub comes_back : back ≡ Some disk
    pub wrote : HasWrittenPart seen may_leave moment left_since faults w told bytes written0 written1 count disk

module _ {D : Type 0} (seen : D → Option (List ℕ)) (may_leave : D → List ℕ → Type 0) (moment : D → ℕ) (left_since : D → ℕ → List ℕ → Type 0) (faults : D → ℕ) (w : SaidWords) (told path : Option (List ℕ)) (old new : Outside) (back : Option D) where
  abbrev pub All : Type 0
  All = DidAll seen may_leave moment left_since faults w told old.left new.left old.written new.written new.openings.count back

  abbrev pub Part : Type 0
  Part = DidPart seen may_leave moment left_since faults w told old.left new.left old.written new.written new.openings.count back

  abbrev pub Nothing : Type 0
  Nothing = Keeps old.written new.written

  abbrev pub IsNotAsked : Type 0
  IsNotAsked = NotAsked old.openings new.openings back

  abbrev pub IsHandedOut : Type 0
  IsHandedOut = HandedOut path old.openings new.openings back

  -- How a run with accepted words ends. Want of memory may come before a disk is handed out, while its journal is read,
  -- and in each event.
  abbrev pub Ends : Status → Type 0
  Ends Done = All × IsTrue new.is_flushed × IsHandedOut
  Ends Words = ⊥
  Ends (Script line kind) = (w.make ≡ None) × Refused old.left new.left line kind × Nothing × IsNotAsked
  Ends SourceFault = (w.make ≡ None) × Rose old.source_faults new.source_faults × Nothing × IsNotAsked
  Ends SinkFault = Part × Rose old.sink_faults new.sink_faults × IsHandedOut
  Ends (BadJournal offset) = IfSome told (λ bytes. BadAt bytes offset) × Nothing × IsHandedOut × IsLeft seen told back
  Ends OpenFault = FailedOpening faults old.disks_faults new.disks_faults new.openings.count back × Nothing × (IsHandedOut ⊎ TurnedAway path old.openings new.openings back) × IsSpared seen told back
  Ends NoMemory = (Nothing × IsNotAsked) ⊎ (((Nothing × IsUnbegun seen told back) ⊎ Part) × IsHandedOut)

  -- ---- where nothing goes wrong
  -- There is a script without a fault, which the source tells or which is made; neither the source, of which a script that is
  -- made takes nothing, nor the sink, the disks or the disk fails; and what the path holds is told, and nowhere bad.
  pub record IsWell : Type 0 where
    pub script : HasScript w.make old.left
    pub source : w.make ≡ None → Rose old.source_faults new.source_faults → ⊥
    pub sink : Rose old.sink_faults new.sink_faults → ⊥
    pub disks : Rose old.disks_faults new.disks_faults → ⊥
    pub disk : (d : D) → back ≡ Some d → Rose new.openings.count (faults d) → ⊥
    pub bytes : List ℕ
    pub tells : told ≡ Some bytes
    pub good : (offset : ℕ) → BadAt bytes offset → ⊥

  -- the whole output was written: each statement is answered once, and no entry shows that the disk failed
  pub record WroteWell : Type 0 where
    pub all : All
    pub once : AnswerOnce all.wrote.gives.program all.wrote.gives.entries
    pub unfailed : failures_shown all.wrote.gives.entries ≡ 0

  -- then all is answered and written, or memory is wanting
  abbrev pub Completes : Status → Type 0
  Completes status = ((status ≡ Done) × WroteWell) ⊎ (status ≡ NoMemory)
