-- What a run over a disk has written, and what its disk has then.
use Rattle.std.specs.Prelude.{◌≡◌, ◌⊎◌, ◌≤◌, ◌+◌, ◌-◌, ◌^◌, ◌||◌, min, ℕ, Bool, true, false, is_some, List, ◌++◌, length, take, Option, Ok}
use Rattle.std.specs.Io.KnownBytes.{Appends, Keeps}
use Rattle.lv_core.specs.Run.{failures_shown}
use Rattle.lv_crash.specs.Attempts.{Attempt, attempts_of}
use Rattle.lv_lines.specs.declared.names.Names.{Names}
use Rattle.lv_lines.specs.Script.{script_of}
use Rattle.lv_lines.specs.Transcript.{text_of}
use Rattle.lv_outside.specs.Causes.{AppendsFront}
use Rattle.lv_plain.specs.declared.entry.Entry.{Entry}
use Rattle.lv_plain.specs.declared.event.Event.{Event}
use Rattle.lv_plain.specs.declared.program.Program.{Program}
use Rattle.lv_plain.specs.Events.{schedule}
use Rattle.lv_plain.specs.Legal.{Legal, events_of}
use Rattle.lv_plain.specs.Programs.{all_answered}
use Rattle.lv_plain.specs.WrittenRecords.{records_of}
use Rattle.lv_schema.specs.declared.rec.Rec.{Rec}
use Rattle.lv_schema.specs.World.{World}
use Rattle.lv_words.specs.declared.words.Words.{Words}
use Rattle.lv_runner.specs.Opened.{IsOpened, LeavesRun, TellsRecords}
use Rattle.lv_runner.specs.Output.{IsOutput, begin_state, end_state, names_after, output_of, run_rules}

-- the records that entries of a program write, from an opened world on
abbrev pub records_from : Words → Program → World → List Entry → List Rec
records_from w p opened entries = records_of (run_rules w p) (begin_state w p opened) entries

-- and those that they ask the disk to keep
abbrev pub attempts_from : Words → Program → World → List Entry → List Attempt
attempts_from w p opened entries = attempts_of (run_rules w p) (begin_state w p opened) entries

-- whether the output is written once all statements are answered; else each entry's text is written right after the entry
abbrev pub is_at_end : Words → Bool
is_at_end w = w.threads || is_some w.make

-- without threads the events are the first of the schedule
abbrev pub AreFirst : Bool → Program → List Event → Type 0
AreFirst false p events = (later : List Event) × (events ++ later ≡ schedule p)
AreFirst true p events = Unit {0}

-- the whole texts of the first entries, and then a front of the text of the next one, where there is a next one
pub record IsPart (names : Names) (entries : List Entry) (written0 written1 : Option (List ℕ)) : Type 0 where
  pub whole : List Entry
  pub next : List Entry
  pub are : whole ++ next ≡ entries
  pub one : length next ≤ 1
  pub front : ℕ
  pub wrote : Appends written0 written1 (text_of names whole ++ take front (text_of names next))

-- no statement is left, and a front of the output was written
pub record IsFrontOfAll (w : Words) (p : Program) (opened : World) (entries : List Entry) (written0 written1 : Option (List ℕ)) : Type 0 where
  pub answered : all_answered p (end_state w p opened entries).places ≡ true
  pub wrote : AppendsFront written0 written1 (output_of w p opened entries)

-- what was written of entries, by whether the output is written at the end
abbrev pub HasPart : Bool → Words → Program → World → List Entry → Option (List ℕ) → Option (List ℕ) → Type 0
HasPart false w p opened entries written0 written1 = IsPart (names_after w p opened entries) entries written0 written1
HasPart true w p opened entries written0 written1 = Keeps written0 written1 ⊎ IsFrontOfAll w p opened entries written0 written1

module _ {D : Type 0} (seen : D → Option (List ℕ)) (may_leave : D → List ℕ → Type 0) (moment : D → ℕ) (left_since : D → ℕ → List ℕ → Type 0) (faults : D → ℕ) where
  -- What a disk has after entries: the records that were opened, then those of the entries, and perhaps one in doubt; so has
  -- each image that a crash may leave. A crash at any moment since the run began may have left the records that were opened
  -- and some of those that the entries asked for. No more entries show that it failed than its count rose since it was handed
  -- out, unless that stands at its last value.
  pub record HasEntries (w : Words) (p : Program) (opened : World) (recs : List Rec) (entries : List Entry) (count : ℕ) (disk : D) : Type 0 where
    pub records : TellsRecords (recs ++ records_from w p opened entries) (seen disk) (may_leave disk)
    pub left : LeavesRun moment left_since recs (attempts_from w p opened entries) disk
    pub caused : min (count + failures_shown entries) (2 ^ 64 - 1) ≤ faults disk

  -- The whole output was written: it is the one for these words and bytes over the world that was opened. The disk tells
  -- the records of its entries, and was handed out with this count of failures.
  pub record HasWritten (w : Words) (told : Option (List ℕ)) (bytes : List ℕ) (written0 written1 : Option (List ℕ)) (count : ℕ) (disk : D) : Type 0 where
    pub opened : World
    pub opens : IsOpened told opened
    pub failures : List Bool
    pub text : List ℕ
    pub gives : IsOutput w opened failures bytes text
    pub wrote : Appends written0 written1 text
    pub has : HasEntries w gives.program opened opens.recs gives.entries count disk

  -- A part of it was written. The entries are legal, and without threads their events are the first of the schedule. The
  -- disk tells the records of these entries.
  pub record HasWrittenPart (w : Words) (told : Option (List ℕ)) (bytes : List ℕ) (written0 written1 : Option (List ℕ)) (count : ℕ) (disk : D) : Type 0 where
    pub program : Program
    pub script : script_of bytes ≡ Ok program
    pub opened : World
    pub opens : IsOpened told opened
    pub entries : List Entry
    pub legal : Legal (run_rules w program) (begin_state w program opened) entries
    pub order : AreFirst w.threads program (events_of (run_rules w program) (begin_state w program opened) entries)
    pub wrote : HasPart (is_at_end w) w program opened entries written0 written1
    pub has : HasEntries w program opened opens.recs entries count disk
