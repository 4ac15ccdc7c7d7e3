-- What becomes of a mark by its record.
use Rattle.std.proofs.Common.{◌≡◌, ℕ, Bool, true, false, List, Option, Some, None, Result, Ok, Err, refl, sym, ap, ◌∙◌, subst, arith}
use Rattle.std.specs.Prelude.{◌==◌, slice_index}
use Rattle.std.proofs.lemmas.Bool.Decides.{nat_tests}
use Rattle.lv_schema.specs.declared.fault.Fault.{Fault}
use Rattle.lv_schema.specs.declared.fault.Fault.TheVariants as fault
use Rattle.lv_schema.specs.declared.rec.Rec.{Rec}
use Rattle.lv_schema.specs.Cases.{Outcome, good}
use Rattle.lv_schema.specs.UpkeepCases.{Marking, mark_record, marked_by, marking, need, outcome_of}
use Rattle.lv_schema.specs.WholeWorld.{with_upkeep}
use Rattle.lv_schema.specs.World.{Settings, Upkeep, World, point}
use Rattle.lv_journal.specs.declared.writer.Writer.{Writer}
use Rattle.lv_replay.specs.Runs.{mark_written}
use Rattle.lv_store.specs.Answering.{wrote}
use Rattle.lv_store.specs.Kept as store
use Rattle.lv_engine.specs.declared.fault.CreateFault.{CreateFault}
use Rattle.lv_engine.specs.declared.fault.CreateFault.TheVariants.{Store, Full, NoMemory}
use Rattle.lv_engine.specs.Answering.{LogsCase, LogsUnless, MarkRefuses, MeetsMark, create_fault, fails, shows_store}
use Rattle.lv_engine.specs.Kept.{EngineView, IsSame, Stands, length_of}
use Rattle.lv_engine.specs.Records.{Logs}
use Rattle.lv_engine.specs.Writing.{LogsWrite, TellsOutcome}
use Rattle.lv_engine.proofs.Writes.{same_stands}

-- two numbers that are the same, or are not
pub same_test : (m n : ℕ) → m ≡ n → (m == n) ≡ true
same_test m n e = grind (arith, nat_tests, e)

pub apart_test : (m n : ℕ) → (m ≡ n → ⊥) → (m == n) ≡ false
apart_test m n ne = by (m == n) refl
  where
    by : (b : Bool) → (m == n) ≡ b → b ≡ false
    by false e = refl
    by true e = absurd (ne (grind (arith, nat_tests)))

module _ {D : Type 0} (w : World) (old new : EngineView D) (v : ℕ) (is : Stands w old) where
  abbrev u : Upkeep
  u = w.upkeep

  abbrev rec : Rec
  rec = mark_record v w.upkeep

  -- whether it was marked already is told from what is kept
  pub test_is : (b : Bool) → (slice_index old.store.upkeep.marks v == slice_index old.store.upkeep.points v) ≡ b → (slice_index w.upkeep.marks v == point w.upkeep v) ≡ b
  test_is b e = (λ i. slice_index (sym is.store_stands.upkeep_stands.marks_are i) v == slice_index (sym is.store_stands.upkeep_stands.points_are i) v) ∙ e

  pub point_is : slice_index old.store.upkeep.points v ≡ point w.upkeep v
  point_is = ap (λ (ps : List ℕ). slice_index ps v) is.store_stands.upkeep_stands.points_are

  -- it was
  pub marked_already : (outcome : Rec → Outcome) → (slice_index w.upkeep.marks v == point w.upkeep v) ≡ true → marking outcome v w.upkeep ≡ record { answer = Ok None; next = w.upkeep; attempted = None }
  marked_already outcome test = rw test refl

  pub already_done : (outcome : Rec → Outcome) → (slice_index w.upkeep.marks v == point w.upkeep v) ≡ true → ((marking outcome v w.upkeep).answer ≡ Ok None) × Stands (with_upkeep (marking outcome v w.upkeep).next w) old
  already_done outcome test = subst (λ (m : Marking). (m.answer ≡ Ok None) × Stands (with_upkeep m.next w) old) (sym (marked_already outcome test)) (refl, is)

  -- it was not
  module _ (test : (slice_index w.upkeep.marks v == point w.upkeep v) ≡ false) where
    pub marking_is : (outcome : Rec → Outcome) → marking outcome v w.upkeep ≡ marked_by (outcome rec) v w.upkeep
    marking_is outcome = rw test refl

    abbrev IsRefused : Option Fault → Outcome → Type 0
    IsRefused f out = MarkRefuses f w old new (marked_by out v w.upkeep)

    refuses : (e : CreateFault) (out : Outcome) → TellsOutcome (Err e) out → IsSame old new → MarkRefuses (create_fault e) w old new (marked_by out v w.upkeep)
    refuses Store out tells same = subst (IsRefused (Some fault.Store)) (sym tells) (refl, same_stands w old new same is)
    refuses (Full needed limit) out tells same = subst (IsRefused (Some (fault.JournalFull needed limit))) (sym tells) (refl, same_stands w old new same is)
    refuses NoMemory out tells same = same

    pub mark_refused : (r : Result (Option ℕ) CreateFault) (e : CreateFault) → r ≡ Err e → (settings : Settings) → TellsOutcome (Err e) (outcome_of settings (shows_store (create_fault e)) w.upkeep rec) → IsSame old new
        → MeetsMark w old new r (marking (outcome_of settings (fails create_fault r) w.upkeep) v w.upkeep)
    mark_refused r e same settings tells unchanged =
        subst (λ (x : Result (Option ℕ) CreateFault). MeetsMark w old new x (marking (outcome_of settings (fails create_fault x) w.upkeep) v w.upkeep)) (sym same)
        (subst (λ (m : Marking). MarkRefuses (create_fault e) w old new m) (sym (marking_is (outcome_of settings (shows_store (create_fault e)) w.upkeep))) (refuses e _ tells unchanged))

    pub mark_done : (outcome : Rec → Outcome) → outcome rec ≡ good → store.Stands (wrote rec w.visible w) new.store → length_of new.journal ≡ need w.upkeep rec
        → ((marking outcome v w.upkeep).answer ≡ Ok (Some (point w.upkeep v))) × Stands (with_upkeep (marking outcome v w.upkeep).next w) new
    mark_done outcome out stands longer =
        subst (λ (m : Marking). (m.answer ≡ Ok (Some (point w.upkeep v))) × Stands (with_upkeep m.next w) new) (sym (marking_is outcome ∙ ap (λ (o : Outcome). marked_by o v w.upkeep) out))
        (refl, record { store_stands = stands; journal_is = longer })

    module _ (seen : D → Option (List ℕ)) (may_leave : D → List ℕ → Type 0) (moment : D → ℕ) (left_since : D → ℕ → List ℕ → Type 0) (j k : Writer D) where
      abbrev IsLogged : Option Fault → Outcome → Type 0
      IsLogged f out = LogsUnless seen may_leave moment left_since f (marked_by out v w.upkeep).attempted (mark_written (marked_by out v w.upkeep)) j k

      logs_refused : (e : CreateFault) (out : Outcome) → TellsOutcome (Err e) out → LogsWrite seen may_leave moment left_since (Err e) rec j k → IsLogged (create_fault e) out
      logs_refused Store out tells logs = subst (IsLogged (Some fault.Store)) (sym tells) logs
      logs_refused (Full needed limit) out tells logs = subst (IsLogged (Some (fault.JournalFull needed limit))) (sym tells) logs
      logs_refused NoMemory out tells logs = logs

      pub mark_logged : (r : Result (Option ℕ) CreateFault) (e : CreateFault) → r ≡ Err e → (settings : Settings) → TellsOutcome (Err e) (outcome_of settings (shows_store (create_fault e)) w.upkeep rec) → LogsWrite seen may_leave moment left_since (Err e) rec j k
          → let m = marking (outcome_of settings (fails create_fault r) w.upkeep) v w.upkeep in LogsCase seen may_leave moment left_since create_fault r m.attempted (mark_written m) j k
      mark_logged r e same settings tells logs =
          subst (λ (x : Result (Option ℕ) CreateFault). let m = marking (outcome_of settings (fails create_fault x) w.upkeep) v w.upkeep in LogsCase seen may_leave moment left_since create_fault x m.attempted (mark_written m) j k) (sym same)
          (subst (λ (m : Marking). LogsUnless seen may_leave moment left_since (create_fault e) m.attempted (mark_written m) j k) (sym (marking_is (outcome_of settings (shows_store (create_fault e)) w.upkeep))) (logs_refused e _ tells logs))

      pub mark_logs : (outcome : Rec → Outcome) → outcome rec ≡ good → LogsWrite seen may_leave moment left_since (Ok tt) rec j k → Logs seen may_leave moment left_since (marking outcome v w.upkeep).attempted (mark_written (marking outcome v w.upkeep)) j k
      mark_logs outcome out logs =
          subst (λ (m : Marking). Logs seen may_leave moment left_since m.attempted (mark_written m) j k) (sym (marking_is outcome ∙ ap (λ (o : Outcome). marked_by o v w.upkeep) out)) logs
