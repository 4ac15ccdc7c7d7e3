-- A change outside a transaction whose record is written.
use Rattle.std.specs.Prelude.{◌≡◌, ◌+◌, ℕ, Bool, false, List, Option, Some, Result, Ok, Err}
use Rattle.lv_schema.specs.declared.action.Action.{Action}
use Rattle.lv_schema.specs.declared.fault.Fault.{Fault}
use Rattle.lv_schema.specs.declared.rec.Rec.{Rec}
use Rattle.lv_schema.specs.Cases.{Case, Outcome, if_written}
use Rattle.lv_schema.specs.Cases as cases
use Rattle.lv_schema.specs.WholeWorld.{world_after}
use Rattle.lv_schema.specs.World.{Visible, World, transaction}
use Rattle.lv_store.specs.Answering.{effect_fault}
use Rattle.lv_store.specs.Committing.{next_record}
use Rattle.lv_engine.specs.declared.fault.AloneFault.{AloneFault}
use Rattle.lv_engine.specs.declared.fault.AloneFault.TheVariants as alone
use Rattle.lv_engine.specs.declared.fault.CreateFault.{CreateFault}
use Rattle.lv_engine.specs.Answering.{LogsUnless, Refuses, create_fault, shows_store}
use Rattle.lv_engine.specs.Kept.{EngineView, Stands}
use Rattle.lv_engine.specs.Records.{Logs}

-- why a change outside a transaction is refused; want of memory is no fault
abbrev pub alone_fault : AloneFault → Option Fault
alone_fault (alone.Change fault) = effect_fault fault
alone_fault (alone.Record fault) = create_fault fault

-- whether the disk failed
abbrev pub blames_disk : AloneFault → Bool
blames_disk (alone.Change fault) = false
blames_disk (alone.Record fault) = shows_store (create_fault fault)

abbrev pub alone_fails : {A : Type 0} → Result A AloneFault → Bool
alone_fails (Ok a) = false
alone_fails (Err e) = blames_disk e

-- what becomes of the record of a change with these actions, where statements would see this before its commit
module _ {D : Type 0} (seen : D → Option (List ℕ)) (may_leave : D → List ℕ → Type 0) (moment : D → ℕ) (left_since : D → ℕ → List ℕ → Type 0) (session count : ℕ) (actions : List Action) (made : Visible) (w : World) (old new : EngineView D) where
  abbrev pub alone_case : (Rec → Outcome) → Case (ℕ × Option ℕ)
  alone_case out = if_written (out (next_record old.store actions)) (next_record old.store actions) (count, Some (old.store.base.number + 1)) (cases.with_commit session (transaction session made) made) w.visible

  abbrev pub WritesAlone : Result ℕ CreateFault → (Rec → Outcome) → Type 0
  WritesAlone (Ok number) out =
      ((alone_case out).answer ≡ Ok (count, Some number)) × Stands (world_after (alone_case out) w) new × Logs seen may_leave moment left_since (alone_case out).attempted (alone_case out).written old.journal new.journal
  WritesAlone (Err e) out = Refuses (create_fault e) w old new (alone_case out) × LogsUnless seen may_leave moment left_since (create_fault e) (alone_case out).attempted (alone_case out).written old.journal new.journal
