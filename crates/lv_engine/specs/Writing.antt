-- What becomes of a record that is written.
use Rattle.std.specs.Prelude.{◌≡◌, ℕ, List, Option, Some, None, Result, Ok, Err}
use Rattle.lv_schema.specs.declared.rec.Rec.{Rec}
use Rattle.lv_schema.specs.Cases.{Outcome, good, failed, full}
use Rattle.lv_outside.specs.Images.{NoMore}
use Rattle.lv_journal.specs.declared.writer.Writer.{Writer}
use Rattle.lv_engine.specs.declared.fault.CreateFault.{CreateFault}
use Rattle.lv_engine.specs.declared.fault.CreateFault.TheVariants.{Store, Full, NoMemory}
use Rattle.lv_engine.specs.Records.{Logs}

-- the outcome that an answer tells; want of memory tells none
abbrev pub TellsOutcome : Result (Unit {0}) CreateFault → Outcome → Type 0
TellsOutcome (Ok a) out = out ≡ good
TellsOutcome (Err Store) out = out ≡ failed
TellsOutcome (Err (Full need limit)) out = out ≡ full need limit
TellsOutcome (Err NoMemory) out = Unit {0}

-- and what the journal has then
abbrev pub LogsWrite : {D : Type 0} → (D → Option (List ℕ)) → (D → List ℕ → Type 0) → (D → ℕ) → (D → ℕ → List ℕ → Type 0) → Result (Unit {0}) CreateFault → Rec → Writer D → Writer D → Type 0
LogsWrite seen may_leave moment left_since (Ok a) rec old new = Logs seen may_leave moment left_since (Some rec) (Some rec) old new
LogsWrite seen may_leave moment left_since (Err Store) rec old new = Logs seen may_leave moment left_since (Some rec) None old new
LogsWrite seen may_leave moment left_since (Err (Full need limit)) rec old new = Logs seen may_leave moment left_since None None old new
LogsWrite seen may_leave moment left_since (Err NoMemory) rec old new = Logs seen may_leave moment left_since None None old new

-- the disk was asked to write nothing: it tells what it told, a crash leaves nothing more, and it has failed as often
pub record IsUntouched {D : Type 0} (seen : D → Option (List ℕ)) (may_leave : D → List ℕ → Type 0) (failures : D → ℕ) (old new : D) : Type 0 where
  pub tells : seen new ≡ seen old
  pub images : NoMore (may_leave old) (may_leave new)
  pub count : failures new ≡ failures old
