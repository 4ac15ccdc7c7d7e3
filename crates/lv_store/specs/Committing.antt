-- What a commit is about to do, and what becomes of it.
use Rattle.std.specs.Prelude.{◌≡◌, ℕ, suc, ◌+◌, ◌^◌, ◌<◌, ◌≤◌, List, length, slice_set, Option, Some, None, Result, Ok, Err}
use Rattle.lv_schema.specs.declared.action.Action.{Action}
use Rattle.lv_schema.specs.declared.fault.Fault.{Fault}
use Rattle.lv_schema.specs.declared.fault.Fault.TheVariants.{MergedFull}
use Rattle.lv_schema.specs.declared.rec.Rec.{Rec}
use Rattle.lv_schema.specs.declared.rec.Rec.TheVariants.{Commit}
use Rattle.lv_schema.specs.Cases.{Case, Outcome, answered, closed, if_written, refused}
use Rattle.lv_schema.specs.Cases as cases
use Rattle.lv_schema.specs.World.{World, transaction}
use Rattle.lv_base.specs.Bases.{IsReady}
use Rattle.lv_base.specs.declared.ready.Ready.{Ready}
use Rattle.lv_stands.specs.Kept.{BaseKept}
use Rattle.lv_stands.specs.Moves.{refusal_in, with_tasks}
use Rattle.lv_txn.specs.Kept.{TransactionKept}
use Rattle.lv_txn.specs.Written.{conflict_fault}
use Rattle.lv_store.specs.declared.committing.Next.{Next}
use Rattle.lv_store.specs.declared.committing.Next.TheVariants as next
use Rattle.lv_store.specs.declared.committing.Prepared.{Prepared}
use Rattle.lv_store.specs.declared.committing.Prepared.TheVariants as prepared
use Rattle.lv_store.specs.declared.fault.PrepareFault.{PrepareFault}
use Rattle.lv_store.specs.declared.fault.PrepareFault.TheVariants as fault
use Rattle.lv_store.specs.declared.store.Store.{Store}
use Rattle.lv_store.specs.Answering.{with_visible}
use Rattle.lv_store.specs.Kept.{StoreKept, Stands, kept}

-- all that a commit needs is there, and nothing refuses it
pub record MayCommit (e : StoreKept) (k : TransactionKept) (p : Store) (r : Ready) : Type 0 where
  pub free : refusal_in (kept 0 e) k ≡ None
  pub actions_are : r.actions ≡ k.actions
  pub ready : IsReady p.base r.actions r.nets
  pub room : length e.views ≤ p.upkeep.task_spare
  pub number : p.base.number + 1 < 2 ^ 64
  pub entries : length p.base.deltas.entries + length r.actions < 2 ^ 64

-- why a transaction is refused, or that it may commit
abbrev pub IsNext : StoreKept → TransactionKept → Store → Next → Type 0
IsNext e k p (next.Conflict c) = refusal_in (kept 0 e) k ≡ Some (conflict_fault c)
IsNext e k p (next.TableFull table) = refusal_in (kept 0 e) k ≡ Some (MergedFull table)
IsNext e k p (next.Ready r) = MayCommit e k p r

-- what is kept after a commit of these actions, with this base
abbrev pub with_commit : ℕ → List Action → BaseKept → StoreKept → StoreKept
with_commit session actions base e = record e {
  base = base;
  upkeep = record e.upkeep { tasks = with_tasks (suc e.base.number) actions e.views e.upkeep.tasks };
  sessions = slice_set e.sessions session None;
}

-- why a commit is refused before its record is written; want of memory is no fault
abbrev pub prepare_fault : PrepareFault → Option Fault
prepare_fault (fault.Conflict c) = Some (conflict_fault c)
prepare_fault (fault.TableFull table) = Some (MergedFull table)
prepare_fault (fault.NoMemory) = None

-- the record of a commit of these actions
abbrev pub next_record : StoreKept → List Action → Rec
next_record e actions = Commit (e.base.number + 1) actions

-- what is told of a commit before its record is written: a transaction without an action, and one that is refused, is over;
-- else the commit is what becomes of its record
module _ (session : ℕ) (w : World) (outcome : Rec → Outcome) (old new : StoreKept) where
  abbrev pub EndsRefused : Option Fault → Case (Option ℕ) → Type 0
  EndsRefused None c = new ≡ old
  EndsRefused (Some fault) c = (c ≡ refused fault (closed session w.visible)) × Stands (with_visible (closed session w.visible) w) new

  abbrev pub Prepares : Result Prepared PrepareFault → Case (Option ℕ) → Type 0
  Prepares (Ok prepared.Nothing) c = (c ≡ answered None (closed session w.visible)) × Stands (with_visible (closed session w.visible) w) new
  Prepares (Ok (prepared.Ready r)) c =
      c ≡ if_written (outcome (next_record new r.actions)) (next_record new r.actions) (Some (new.base.number + 1)) (cases.with_commit session (transaction session w.visible) w.visible) w.visible
  Prepares (Err e) c = EndsRefused (prepare_fault e) c
