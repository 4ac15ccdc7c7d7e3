-- What becomes of a change outside a transaction by its record.
use Rattle.std.proofs.Common.{◌≡◌, ℕ, ◌+◌, ◌<◌, Bool, false, List, length, Option, Some, None, Result, Ok, Err, refl, sym, ap, ◌∙◌, subst, arith}
use Rattle.std.proofs.lemmas.List.{length-set}
use Rattle.lv_schema.specs.declared.action.Action.{Action}
use Rattle.lv_schema.specs.declared.change.Change.{Change}
use Rattle.lv_schema.specs.declared.fault.Fault.{Fault}
use Rattle.lv_schema.specs.declared.rec.Rec.{Rec}
use Rattle.lv_schema.specs.Cases.{Case, Outcome, answered, good}
use Rattle.lv_schema.specs.Cases as cases
use Rattle.lv_schema.specs.UpkeepCases.{need, outcome_of}
use Rattle.lv_schema.specs.WholeWorld.{world_after}
use Rattle.lv_schema.specs.World.{Settings, Visible, World, transaction}
use Rattle.lv_journal.specs.declared.writer.Writer.{Writer}
use Rattle.lv_effect.specs.declared.fault.EffectFault.{EffectFault}
use Rattle.lv_base.specs.declared.ready.Ready.{Ready}
use Rattle.lv_stands.specs.Stands.{TransactionStands}
use Rattle.lv_stands.proofs.Statements as stands
use Rattle.lv_stands.proofs.Whole.{lengths_are}
use Rattle.lv_store.specs.declared.store.Store.{Store}
use Rattle.lv_store.specs.Alone.{IsRefused, MayCommitAlone, alone_kept, with_alone}
use Rattle.lv_store.specs.Answering.{effect_fault, wrote}
use Rattle.lv_store.specs.Committing.{next_record}
use Rattle.lv_store.specs.Kept as store
use Rattle.lv_store.specs.Kept.{kept, store_of}
use Rattle.lv_store.proofs.Standing.{set_there}
use Rattle.lv_txn.specs.Kept.{transaction_at}
use Rattle.lv_engine.specs.declared.fault.AloneFault.{AloneFault}
use Rattle.lv_engine.specs.declared.fault.AloneFault.TheVariants as alone
use Rattle.lv_engine.specs.declared.fault.CreateFault.{CreateFault}
use Rattle.lv_engine.specs.Alone.{WritesAlone, alone_case, alone_fails, alone_fault}
use Rattle.lv_engine.specs.Answering.{LogsCase, LogsUnless, Meets, Refuses, create_fault, fails, shows_store}
use Rattle.lv_engine.specs.Kept.{EngineView, IsSame, Stands, length_of}
use Rattle.lv_engine.specs.Records.{Logs}
use Rattle.lv_engine.specs.Writing.{LogsWrite, TellsOutcome}
use Rattle.lv_engine.proofs.Logged.{unchanged_logs}
use Rattle.lv_engine.proofs.Writes.{done, logs_done, logs_refused, refuses, same_stands}

-- the transaction that would be open has the actions
pub alone_actions : (p : Store) (session : ℕ) (r : Ready) (may : MayCommitAlone session p r) → r.actions ≡ (transaction session may.whole.world.visible).actions
alone_actions p session r may = here.actions_are
  where
    long : length p.txns ≡ 17
    long = sym (length-set p.txns session (Some (alone_kept (store_of p) r.actions))) ∙ (lengths_are may.whole.world (kept may.whole.world.upkeep.journal (store_of (with_alone session r.actions p))) may.whole.stands).1

    here : TransactionStands may.whole.world.visible (transaction session may.whole.world.visible) (alone_kept (store_of p) r.actions)
    here = stands.transaction_of may.whole.world.visible (with_alone session r.actions p).txns session (alone_kept (store_of p) r.actions) may.whole.stands.sessions_stand
        (set_there None (Some (alone_kept (store_of p) r.actions)) p.txns session (omega (arith, may.inside, long)))

-- ---- its record
module _ {D : Type 0} (seen : D → Option (List ℕ)) (may_leave : D → List ℕ → Type 0) (moment : D → ℕ) (left_since : D → ℕ → List ℕ → Type 0) (session count : ℕ) (actions : List Action) (made : Visible) (w : World) (old new : EngineView D) (settings : Settings) where
  abbrev rec_now : Rec
  rec_now = next_record old.store actions

  abbrev both_now : ℕ × Option ℕ
  both_now = (count, Some (old.store.base.number + 1))

  abbrev with_it : Visible
  with_it = cases.with_commit session (transaction session made) made

  pub alone_not_written : (r : Result ℕ CreateFault) (e : CreateFault) → r ≡ Err e → TellsOutcome (Err e) (outcome_of settings (shows_store (create_fault e)) w.upkeep rec_now) → IsSame old new → Stands w old → LogsWrite seen may_leave moment left_since (Err e) rec_now old.journal new.journal
      → WritesAlone seen may_leave moment left_since session count actions made w old new r (outcome_of settings (fails create_fault r) w.upkeep)
  alone_not_written r e same tells unchanged is logs =
      subst (λ (x : Result ℕ CreateFault). WritesAlone seen may_leave moment left_since session count actions made w old new x (outcome_of settings (fails create_fault x) w.upkeep)) (sym same) (
        refuses w old new rec_now both_now with_it e (outcome_of settings (shows_store (create_fault e)) w.upkeep rec_now) tells unchanged is,
        logs_refused w old new rec_now both_now with_it seen may_leave moment left_since old.journal new.journal e (outcome_of settings (shows_store (create_fault e)) w.upkeep rec_now) tells logs,
      )

  pub alone_done : (number : ℕ) → number ≡ old.store.base.number + 1 → outcome_of settings false w.upkeep rec_now ≡ good → store.Stands (wrote rec_now with_it w) new.store → length_of new.journal ≡ need w.upkeep rec_now
      → LogsWrite seen may_leave moment left_since (Ok tt) rec_now old.journal new.journal → WritesAlone seen may_leave moment left_since session count actions made w old new (Ok number) (outcome_of settings false w.upkeep)
  alone_done number is out stands longer logs =
      let d = done w old new rec_now both_now with_it (outcome_of settings false w.upkeep rec_now) out stands longer in
      (d.0 ∙ ap (λ (n : ℕ). Ok (count, Some n)) (sym is), d.1, logs_done w old new rec_now both_now with_it seen may_leave moment left_since old.journal new.journal (outcome_of settings false w.upkeep rec_now) out logs)

-- ---- the whole change
-- its answer by that of its record
abbrev pub by_record : ℕ → Result ℕ CreateFault → Result (ℕ × Option ℕ) AloneFault
by_record count (Ok number) = Ok (count, Some number)
by_record count (Err e) = Err (alone.Record e)

module _ {D : Type 0} (seen : D → Option (List ℕ)) (may_leave : D → List ℕ → Type 0) (moment : D → ℕ) (left_since : D → ℕ → List ℕ → Type 0) where
  -- what it tells of a world, by whether the disk failed: its case, and what the journal has then
  pub record TellsChange (w : World) (old new : EngineView D) (case_if : Bool → Case (ℕ × Option ℕ)) (r : Result (ℕ × Option ℕ) AloneFault) : Type 0 where
    pub case : Meets alone_fault w old new r (case_if (alone_fails r))
    pub log : LogsCase seen may_leave moment left_since alone_fault r (case_if (alone_fails r)).attempted (case_if (alone_fails r)).written old.journal new.journal

  -- the same of each world that the engine stood for
  abbrev pub TellsAll : EngineView D → EngineView D → Change → Result (ℕ × Option ℕ) AloneFault → Type 0
  TellsAll old new change r = (session : ℕ) (w : World) (settings : Settings) → session < 17 → transaction_at old.store.sessions session ≡ None → settings.limit ≡ old.store.settings.log_limit → Stands w old
      → TellsChange w old new (λ fails. cases.alone (outcome_of settings fails w.upkeep) session change w.visible) r

  module _ (w : World) (old new : EngineView D) (case_if : Bool → Case (ℕ × Option ℕ)) where
    pub tells_recorded : (session count : ℕ) (actions : List Action) (made : Visible) (out : Bool → Rec → Outcome) → ((fails : Bool) → case_if fails ≡ alone_case seen may_leave moment left_since session count actions made w old new (out fails))
        → (r : Result ℕ CreateFault) → WritesAlone seen may_leave moment left_since session count actions made w old new r (out (fails create_fault r)) → TellsChange w old new case_if (by_record count r)
    tells_recorded session count actions made out told (Ok number) h = record {
      case = subst (λ (x : Case (ℕ × Option ℕ)). (x.answer ≡ Ok (count, Some number)) × Stands (world_after x w) new) (sym (told false)) (h.0, h.1);
      log = subst (λ (x : Case (ℕ × Option ℕ)). Logs seen may_leave moment left_since x.attempted x.written old.journal new.journal) (sym (told false)) h.2;
    }
    tells_recorded session count actions made out told (Err e) h = record {
      case = subst (λ (x : Case (ℕ × Option ℕ)). Refuses (create_fault e) w old new x) (sym (told (shows_store (create_fault e)))) h.0;
      log = subst (λ (x : Case (ℕ × Option ℕ)). LogsUnless seen may_leave moment left_since (create_fault e) x.attempted x.written old.journal new.journal) (sym (told (shows_store (create_fault e)))) h.1;
    }

    -- where it is refused before its record, or has no action
    module _ (is : Stands w old) (store_is : new.store ≡ old.store) (journal_is : new.journal ≡ old.journal) where
      same : IsSame old new
      same = record { store_is = store_is; length_is = ap (λ (j : Writer D). length_of j) journal_is }

      quiet : Logs seen may_leave moment left_since None None old.journal new.journal
      quiet = unchanged_logs seen may_leave moment left_since old.journal new.journal journal_is

      refused_both : (made : Visible) (out : Rec → Outcome) (session : ℕ) (k : store.StoreKept) (fault : Option Fault) (c : Case (ℕ × Option ℕ)) → IsRefused made w out session k fault c
          → Refuses fault w old new c × LogsUnless seen may_leave moment left_since fault c.attempted c.written old.journal new.journal
      refused_both made out session k None c told = (same, quiet)
      refused_both made out session k (Some f) c told =
          subst (λ (x : Case (ℕ × Option ℕ)). ((x.answer ≡ Err f) × Stands (world_after x w) new) × Logs seen may_leave moment left_since x.attempted x.written old.journal new.journal) (sym told) ((refl, same_stands w old new same is), quiet)

      pub tells_refused : (made : Visible) (out : Rec → Outcome) (session : ℕ) (k : store.StoreKept) (e : EffectFault) → IsRefused made w out session k (effect_fault e) (case_if false) → TellsChange w old new case_if (Err (alone.Change e))
      tells_refused made out session k e told =
          let both = refused_both made out session k (effect_fault e) (case_if false) told in
          record { case = both.0; log = both.1 }

      pub tells_done : (count : ℕ) → case_if false ≡ answered (count, None) w.visible → TellsChange w old new case_if (Ok (count, None))
      tells_done count told = record {
        case = subst (λ (x : Case (ℕ × Option ℕ)). (x.answer ≡ Ok (count, None)) × Stands (world_after x w) new) (sym told) (refl, same_stands w old new same is);
        log = subst (λ (x : Case (ℕ × Option ℕ)). Logs seen may_leave moment left_since x.attempted x.written old.journal new.journal) (sym told) quiet;
      }
