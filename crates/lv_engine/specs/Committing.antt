-- A commit whose record is written.
use Rattle.std.specs.Prelude.{◌≡◌, ◌+◌, ℕ, List, Option, Some, Result, Ok, Err}
use Rattle.lv_schema.specs.declared.action.Action.{Action}
use Rattle.lv_schema.specs.declared.rec.Rec.{Rec}
use Rattle.lv_schema.specs.Cases.{Case, Outcome, if_written}
use Rattle.lv_schema.specs.Cases as cases
use Rattle.lv_schema.specs.World.{World, transaction}
use Rattle.lv_store.specs.Committing.{next_record}
use Rattle.lv_engine.specs.declared.fault.CreateFault.{CreateFault}
use Rattle.lv_engine.specs.Answering.{LogsUnless, Refuses, create_fault}
use Rattle.lv_engine.specs.Kept.{EngineView, Stands}
use Rattle.lv_engine.specs.Records.{Logs}
use Rattle.lv_schema.specs.WholeWorld.{world_after}

-- what becomes of the record of a commit of these actions
module _ {D : Type 0} (seen : D → Option (List ℕ)) (may_leave : D → List ℕ → Type 0) (moment : D → ℕ) (left_since : D → ℕ → List ℕ → Type 0) (session : ℕ) (actions : List Action) (w : World) (old new : EngineView D) where
  abbrev pub case_of : (Rec → Outcome) → Case (Option ℕ)
  case_of out = if_written (out (next_record old.store actions)) (next_record old.store actions) (Some (old.store.base.number + 1)) (cases.with_commit session (transaction session w.visible) w.visible) w.visible

  abbrev pub WritesCommit : Result ℕ CreateFault → (Rec → Outcome) → Type 0
  WritesCommit (Ok number) out =
      ((case_of out).answer ≡ Ok (Some number)) × Stands (world_after (case_of out) w) new × Logs seen may_leave moment left_since (case_of out).attempted (case_of out).written old.journal new.journal
  WritesCommit (Err e) out = Refuses (create_fault e) w old new (case_of out) × LogsUnless seen may_leave moment left_since (create_fault e) (case_of out).attempted (case_of out).written old.journal new.journal
