-- The world over which a program is run, by what a disk tells.
use Rattle.std.specs.Prelude.{◌≡◌, ◌≤◌, ℕ, true, List, ◌++◌, map, Option, IfSome, option_map}
use Rattle.lv_crash.specs.Attempts.{Attempt, MayStay}
use Rattle.lv_journal.specs.Standing.{RecordsIn}
use Rattle.lv_record.specs.Spelling.{spelling}
use Rattle.lv_recover.specs.Opening.{OpensAs}
use Rattle.lv_replay.specs.Applies.{all_apply}
use Rattle.lv_replay.specs.Replayed.{state_of}
use Rattle.lv_schema.specs.declared.rec.Rec.{Rec}
use Rattle.lv_schema.specs.World.{World}

-- The opened world is the one that records make which apply one after another: those of the journal, where it is told what
-- the journal holds.
pub record IsOpened (told : Option (List ℕ)) (opened : World) : Type 0 where
  pub recs : List Rec
  pub opens : IfSome told (λ bytes. OpensAs bytes recs)
  pub apply : all_apply recs ≡ true
  pub is : opened ≡ state_of recs

-- The journal on a disk has these records, and perhaps behind them one that is in doubt: where the disk tells its bytes, and in
-- each image that a crash may leave at this moment.
pub record TellsRecords (recs : List Rec) (told : Option (List ℕ)) (may_leave : List ℕ → Type 0) : Type 0 where
  pub doubt : Option Rec
  pub has : IfSome told (RecordsIn (map spelling recs) (option_map spelling doubt))
  pub images : (bytes : List ℕ) → may_leave bytes → RecordsIn (map spelling recs) (option_map spelling doubt) bytes

-- bytes that open as these records and, behind them, some that a crash may leave of these attempts
pub record OpensWith (recs : List Rec) (attempts : List Attempt) (bytes : List ℕ) : Type 0 where
  pub more : List Rec
  pub stay : MayStay attempts more
  pub opens : OpensAs bytes (recs ++ more)

-- What a crash at any moment since a run began may have left on its disk: a journal that opens as the records that the run
-- began with and, behind them, those of the first of its attempts, but for those that were not kept, the last one perhaps
-- excepted.
pub record LeavesRun {D : Type 0} (moment : D → ℕ) (left_since : D → ℕ → List ℕ → Type 0) (recs : List Rec) (attempts : List Attempt) (disk : D) : Type 0 where
  pub began : ℕ
  pub later : began ≤ moment disk
  pub each : (bytes : List ℕ) → left_since disk began bytes → OpensWith recs attempts bytes
