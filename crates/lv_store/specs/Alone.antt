-- A change outside a transaction, and its commit: told by the transaction that BEGIN and the change would have opened.
use Rattle.std.specs.Prelude.{◌≡◌, ℕ, ◌+◌, ◌<◌, List, [], slice_set, Option, Some, None, Result, Ok, Err}
use Rattle.lv_schema.specs.declared.action.Action.{Action}
use Rattle.lv_schema.specs.declared.change.Change.{Change}
use Rattle.lv_schema.specs.declared.fault.Fault.{Fault}
use Rattle.lv_schema.specs.declared.rec.Rec.{Rec}
use Rattle.lv_schema.specs.Bound.{IsBoundChange}
use Rattle.lv_schema.specs.Cases.{Case, Outcome, answered, began, changed, if_written, refused, with_commit}
use Rattle.lv_schema.specs.Effects.{effect_of}
use Rattle.lv_schema.specs.World.{Visible, World, opened, transaction}
use Rattle.lv_effect.specs.declared.fault.EffectFault.{EffectFault}
use Rattle.lv_base.specs.declared.ready.Ready.{Ready}
use Rattle.lv_stands.specs.Moves.{with_puts}
use Rattle.lv_txn.specs.Kept.{TransactionKept}
use Rattle.lv_store.specs.declared.committing.Prepared.{Prepared}
use Rattle.lv_store.specs.declared.committing.Prepared.TheVariants as prepared
use Rattle.lv_store.specs.declared.store.Store.{Store}
use Rattle.lv_store.specs.Answering.{effect_fault}
use Rattle.lv_store.specs.Committing.{MayCommit, next_record}
use Rattle.lv_store.specs.Kept.{IsStore, StoreKept, Stands, store_of}

-- the transaction that would have been opened, whose change has these actions
abbrev pub alone_kept : StoreKept → List Action → TransactionKept
alone_kept e actions = record { snapshot = e.base.number; puts = with_puts e.tables actions []; actions = actions; changes = 1 }

-- what would be kept then, if a session had opened it
abbrev pub with_alone : ℕ → List Action → Store → Store
with_alone session actions p = record p { txns = slice_set p.txns session (Some (alone_kept (store_of p) actions)) }

-- what statements would see then
abbrev pub made_alone : ℕ → Change → Visible → Visible
made_alone session change s = (changed session change (began session s).next).next

-- the actions of a change over the last commit, and its number of rows
pub record IsEffectAlone (e : StoreKept) (change : Change) (count : ℕ) (actions : List Action) : Type 0 where
  pub bound : IsBoundChange e.tables change
  pub effect : (w : World) → Stands w e → effect_of w.visible.tables change (opened w.visible).own ≡ Ok (record { count = count; actions = actions })

-- all that the commit needs is there, and nothing refuses it, whichever session would have opened the transaction
pub record MayCommitAlone (session : ℕ) (p : Store) (r : Ready) : Type 0 where
  pub inside : session < 17
  pub whole : IsStore (with_alone session r.actions p)
  pub may : MayCommit (store_of (with_alone session r.actions p)) (alone_kept (store_of p) r.actions) (with_alone session r.actions p) r

-- what is told of a change outside a transaction before its record is written: it is refused, or has no action, or is what
-- becomes of its record
module _ (made : Visible) (w : World) (outcome : Rec → Outcome) (session : ℕ) (e : StoreKept) where
  abbrev pub IsPrepared : ℕ → Prepared → Case (ℕ × Option ℕ) → Type 0
  IsPrepared count prepared.Nothing c = c ≡ answered (count, None) w.visible
  IsPrepared count (prepared.Ready r) c =
      c ≡ if_written (outcome (next_record e r.actions)) (next_record e r.actions) (count, Some (e.base.number + 1)) (with_commit session (transaction session made) made) w.visible

  abbrev pub IsRefused : Option Fault → Case (ℕ × Option ℕ) → Type 0
  IsRefused None c = Unit {0}
  IsRefused (Some fault) c = c ≡ refused fault w.visible

  abbrev pub PreparesAlone : Result (ℕ × Prepared) EffectFault → Case (ℕ × Option ℕ) → Type 0
  PreparesAlone (Ok done) c = IsPrepared done.0 done.1 c
  PreparesAlone (Err fault) c = IsRefused (effect_fault fault) c
