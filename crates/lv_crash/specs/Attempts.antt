-- The records that a run asks the disk to keep, and what a crash may leave of them.
use Rattle.std.specs.Prelude.{◌≡◌, ◌⊎◌, Bool, false, List, [], ◌∷◌, ◌++◌, map, filter, Option, Some, None, is_some}
use Rattle.lv_schema.specs.declared.rec.Rec.{Rec}
use Rattle.lv_plain.specs.declared.entry.Entry.{Entry}
use Rattle.lv_plain.specs.declared.event.Event.{Event}
use Rattle.lv_plain.specs.Legal.{after_entry, event_of}
use Rattle.lv_plain.specs.Machine.{State}
use Rattle.lv_plain.specs.Rules.{Rules}
use Rattle.lv_plain.specs.WrittenRecords.{entry_record, written_by}

-- a record that the disk was asked to keep, and whether that was answered as done
pub record Attempt : Type 0 where
  pub rec : Rec
  pub kept : Bool

-- a record that was asked for is kept where it was written too
abbrev pub as_attempt : Option Rec → Option Rec → List Attempt
as_attempt None written = []
as_attempt (Some rec) written = record { rec = rec; kept = is_some written } ∷ []

module _ (rules : Rules) where
  -- the record that an event asks the disk to keep: the one that it writes where the disk does not fail
  abbrev pub asked_by : Option Event → State → Option Rec
  asked_by None s = None
  asked_by (Some event) s = written_by rules false event s

  -- what entries ask the disk to keep, in their order
  abbrev pub attempts_of : State → List Entry → List Attempt
  attempts_of s [] = []
  attempts_of s (e ∷ es) = as_attempt (asked_by (event_of s e) s) (entry_record rules s e) ++ attempts_of (after_entry rules s e) es

-- the records of the attempts that were answered as done
abbrev pub kept_of : List Attempt → List Rec
kept_of attempts = map (λ a. a.rec) (filter (λ a. a.kept) attempts)

-- the crash came behind some attempts: those that were kept of them are left
pub record StopsBehind (attempts : List Attempt) (recs : List Rec) : Type 0 where
  pub before : List Attempt
  pub behind : List Attempt
  pub are : attempts ≡ before ++ behind
  pub left : recs ≡ kept_of before

-- the crash came behind some attempts, and the last of them is left too, whether or not it was answered as done
pub record StopsAt (attempts : List Attempt) (recs : List Rec) : Type 0 where
  pub before : List Attempt
  pub last : Attempt
  pub behind : List Attempt
  pub are : attempts ≡ before ++ last ∷ behind
  pub left : recs ≡ kept_of before ++ last.rec ∷ []

-- what a crash may leave of these attempts: the records of the first ones, but for those that were not kept; only the last
-- one may be left although it was not kept
abbrev pub MayStay : List Attempt → List Rec → Type 0
MayStay attempts recs = StopsBehind attempts recs ⊎ StopsAt attempts recs
