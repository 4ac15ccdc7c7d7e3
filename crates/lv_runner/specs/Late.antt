-- Output that is written once all statements are answered.
use Rattle.std.specs.Prelude.{◌≡◌, ◌⊎◌, ℕ, Bool, true, IsTrue, List, Option, Some, None}
use Rattle.std.specs.Io.KnownBytes.{Appends, Keeps}
use Rattle.lv_core.specs.Run.{CoreView, IsRun}
use Rattle.lv_outside.specs.Causes.{AppendsFront, Rose}
use Rattle.lv_plain.specs.declared.event.Event.{Event}
use Rattle.lv_plain.specs.Programs.{all_answered}
use Rattle.lv_runner.specs.declared.status.Status.{Status}
use Rattle.lv_runner.specs.declared.status.Status.TheVariants.{Done, SinkFault, NoMemory}
use Rattle.lv_runner.specs.Following.{GoesOn, HasCome, HasFollowed, HasRun, names_now}
use Rattle.lv_runner.specs.Output.{output_by}

-- what is written of the entries that there are
abbrev pub output_now : {D : Type 0} → Option ℕ → CoreView D → List ℕ
output_now made c = output_by made (names_now c) c.program c.entries

-- no statement is left
abbrev pub IsAnswered : {D : Type 0} → CoreView D → Type 0
IsAnswered c = all_answered c.program c.places ≡ true

-- ---- events that come without being written

module _ {D : Type 0} (seen : D → Option (List ℕ)) (may_leave : D → List ℕ → Type 0) (moment : D → ℕ) (left_since : D → ℕ → List ℕ → Type 0) (failures : D → ℕ) where
  -- how a run over a core ends that answers these events and then writes their summary
  abbrev pub EndsSummed : Option ℕ → CoreView D → List Event → Option (List ℕ) → Option (List ℕ) → Bool → ℕ → ℕ → Status → Type 0
  EndsSummed made c events written0 written1 is_flushed faults0 faults1 Done = HasFollowed c events × Appends written0 written1 (output_now made c) × IsTrue is_flushed
  EndsSummed made c events written0 written1 is_flushed faults0 faults1 SinkFault = HasFollowed c events × AppendsFront written0 written1 (output_now made c) × Rose faults0 faults1
  EndsSummed made c events written0 written1 is_flushed faults0 faults1 NoMemory = (HasCome c events × Keeps written0 written1) ⊎ (HasFollowed c events × AppendsFront written0 written1 (output_now made c))
  EndsSummed made c events written0 written1 is_flushed faults0 faults1 status = ⊥

  pub record HasSummed (made : Option ℕ) (old : CoreView D) (events : List Event) (written0 written1 : Option (List ℕ)) (is_flushed : Bool) (faults0 faults1 : ℕ) (status : Status) (back : Option D) : Type 0 where
    pub new : CoreView D
    pub run : IsRun seen may_leave moment left_since failures new
    pub same : GoesOn old new
    pub disk : back ≡ Some new.engine.journal.disk
    pub ends : EndsSummed made new events written0 written1 is_flushed faults0 faults1 status

  -- how a run ends that writes each entry as it comes, or their summary where so many statements were made
  abbrev pub HasRunBy : Option ℕ → CoreView D → List Event → Option (List ℕ) → Option (List ℕ) → Bool → ℕ → ℕ → Status → Option D → Type 0
  HasRunBy None old events written0 written1 is_flushed faults0 faults1 status back = HasRun seen may_leave moment left_since failures old events written0 written1 is_flushed faults0 faults1 status back
  HasRunBy (Some n) old events written0 written1 is_flushed faults0 faults1 status back = HasSummed (Some n) old events written0 written1 is_flushed faults0 faults1 status back

  -- ---- threads
  -- how a run in threads ends, over the core that came back
  abbrev pub EndsThreaded : CoreView D → Option (List ℕ) → Option (List ℕ) → Bool → ℕ → ℕ → Status → Type 0
  EndsThreaded c written0 written1 is_flushed faults0 faults1 Done = IsAnswered c × Appends written0 written1 (output_now None c) × IsTrue is_flushed
  EndsThreaded c written0 written1 is_flushed faults0 faults1 SinkFault = IsAnswered c × AppendsFront written0 written1 (output_now None c) × Rose faults0 faults1
  EndsThreaded c written0 written1 is_flushed faults0 faults1 NoMemory = Keeps written0 written1 ⊎ (IsAnswered c × AppendsFront written0 written1 (output_now None c))
  EndsThreaded c written0 written1 is_flushed faults0 faults1 status = ⊥

  pub record HasThreaded (old : CoreView D) (written0 written1 : Option (List ℕ)) (is_flushed : Bool) (faults0 faults1 : ℕ) (status : Status) (back : Option D) : Type 0 where
    pub new : CoreView D
    pub run : IsRun seen may_leave moment left_since failures new
    pub same : GoesOn old new
    pub disk : back ≡ Some new.engine.journal.disk
    pub ends : EndsThreaded new written0 written1 is_flushed faults0 faults1 status
