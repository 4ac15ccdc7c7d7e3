-- What becomes of a call by its record.
use Rattle.std.proofs.Common.{◌≡◌, ℕ, ◌+◌, Bool, false, List, Option, Some, Result, Ok, Err, refl, sym, ap, ◌∙◌, subst}
use Rattle.std.specs.Prelude.{IsErrAnd}
use Rattle.lv_schema.specs.declared.fault.Fault.{Fault}
use Rattle.lv_schema.specs.declared.fault.Fault.TheVariants as fault
use Rattle.lv_schema.specs.declared.action.Action.{Action}
use Rattle.lv_schema.specs.declared.rec.Rec.{Rec}
use Rattle.lv_schema.specs.declared.rec.Rec.TheVariants.{View}
use Rattle.lv_schema.specs.declared.view.ViewDef.{ViewDef}
use Rattle.lv_schema.specs.Cases.{Case, Outcome, good, if_written}
use Rattle.lv_schema.specs.Cases as cases
use Rattle.lv_schema.specs.Records.{view_record}
use Rattle.lv_schema.specs.UpkeepCases.{need, outcome_of}
use Rattle.lv_schema.specs.WholeWorld.{world_after}
use Rattle.lv_schema.specs.World.{Settings, Upkeep, Visible, World, transaction}
use Rattle.lv_journal.specs.declared.writer.Writer.{Writer}
use Rattle.lv_store.specs.Answering.{wrote}
use Rattle.lv_store.specs.declared.store.Store.{Store as Memory}
use Rattle.lv_store.specs.Committing.{next_record}
use Rattle.lv_store.specs.Kept as store
use Rattle.lv_store.specs.Kept.{store_of}
use Rattle.lv_engine.specs.declared.fault.CreateFault.{CreateFault}
use Rattle.lv_engine.specs.declared.fault.CreateFault.TheVariants.{Store, Full, NoMemory}
use Rattle.lv_engine.specs.Answering.{LogsCase, LogsUnless, Meets, Refuses, create_fault, fails, shows_store}
use Rattle.lv_engine.specs.Committing.{WritesCommit}
use Rattle.lv_engine.specs.Kept.{EngineView, IsSame, Stands, length_of}
use Rattle.lv_engine.specs.Records.{Logs}
use Rattle.lv_engine.specs.Writing.{LogsWrite, TellsOutcome}
use Rattle.lv_engine.proofs.Logged.{unchanged_logs}

-- what stood stands, where nothing but the room in the journal has changed
pub same_stands : {D : Type 0} (w : World) (old new : EngineView D) → IsSame old new → Stands w old → Stands w new
same_stands w old new same is = record { store_stands = subst (store.Stands w) (sym same.store_is) is.store_stands; journal_is = same.length_is ∙ is.journal_is }

-- a call whose record this is
module _ {A D : Type 0} (w : World) (old new : EngineView D) (rec : Rec) (a : A) (next : Visible) where
  abbrev case_of : Outcome → Case A
  case_of out = if_written out rec a next w.visible

  abbrev IsRefused : Option Fault → Outcome → Type 0
  IsRefused f out = Refuses f w old new (case_of out)

  -- it is refused
  pub refuses : (e : CreateFault) (out : Outcome) → TellsOutcome (Err e) out → IsSame old new → Stands w old → Refuses (create_fault e) w old new (case_of out)
  refuses Store out tells same is = subst (IsRefused (Some fault.Store)) (sym tells) (refl, same_stands w old new same is)
  refuses (Full needed limit) out tells same is = subst (IsRefused (Some (fault.JournalFull needed limit))) (sym tells) (refl, same_stands w old new same is)
  refuses NoMemory out tells same is = same

  -- it is done
  pub done : (out : Outcome) → out ≡ good → store.Stands (wrote rec next w) new.store → length_of new.journal ≡ need w.upkeep rec → ((case_of out).answer ≡ Ok a) × Stands (world_after (case_of out) w) new
  done out is stands longer =
      subst (λ (o : Outcome). ((case_of o).answer ≡ Ok a) × Stands (world_after (case_of o) w) new) (sym is) (refl, record { store_stands = stands; journal_is = longer })

  -- the same of a result that is known to be the refusal
  pub refused_at : (r : Result A CreateFault) (e : CreateFault) → r ≡ Err e → (out : Bool → Outcome) → TellsOutcome (Err e) (out (shows_store (create_fault e))) → IsSame old new → Stands w old
      → Meets create_fault w old new r (case_of (out (fails create_fault r)))
  refused_at r e same out tells unchanged is =
      subst (λ (x : Result A CreateFault). Meets create_fault w old new x (case_of (out (fails create_fault x)))) (sym same) (refuses e (out (shows_store (create_fault e))) tells unchanged is)

  -- what the journal has then
  module _ (seen : D → Option (List ℕ)) (may_leave : D → List ℕ → Type 0) (moment : D → ℕ) (left_since : D → ℕ → List ℕ → Type 0) (j k : Writer D) where
    abbrev IsLogged : Option Fault → Outcome → Type 0
    IsLogged f out = LogsUnless seen may_leave moment left_since f (case_of out).attempted (case_of out).written j k

    pub logs_refused : (e : CreateFault) (out : Outcome) → TellsOutcome (Err e) out → LogsWrite seen may_leave moment left_since (Err e) rec j k → LogsUnless seen may_leave moment left_since (create_fault e) (case_of out).attempted (case_of out).written j k
    logs_refused Store out tells logs = subst (IsLogged (Some fault.Store)) (sym tells) logs
    logs_refused (Full needed limit) out tells logs = subst (IsLogged (Some (fault.JournalFull needed limit))) (sym tells) logs
    logs_refused NoMemory out tells logs = logs

    pub logged_at : (r : Result A CreateFault) (e : CreateFault) → r ≡ Err e → (out : Bool → Outcome) → TellsOutcome (Err e) (out (shows_store (create_fault e))) → LogsWrite seen may_leave moment left_since (Err e) rec j k
        → LogsCase seen may_leave moment left_since create_fault r (case_of (out (fails create_fault r))).attempted (case_of (out (fails create_fault r))).written j k
    logged_at r e same out tells logs =
        subst (λ (x : Result A CreateFault). LogsCase seen may_leave moment left_since create_fault x (case_of (out (fails create_fault x))).attempted (case_of (out (fails create_fault x))).written j k) (sym same)
        (logs_refused e (out (shows_store (create_fault e))) tells logs)

    pub logs_done : (out : Outcome) → out ≡ good → LogsWrite seen may_leave moment left_since (Ok tt) rec j k → Logs seen may_leave moment left_since (case_of out).attempted (case_of out).written j k
    logs_done out is logs = subst (λ (o : Outcome). Logs seen may_leave moment left_since (case_of o).attempted (case_of o).written j k) (sym is) logs

-- what is told of one record is told of the same one
pub tells_at : (e : CreateFault) (settings : Settings) (u : Upkeep) (rec other : Rec) → rec ≡ other → TellsOutcome (Err e) (outcome_of settings (shows_store (create_fault e)) u rec)
    → TellsOutcome (Err e) (outcome_of settings (shows_store (create_fault e)) u other)
tells_at e settings u rec other same tells = subst (λ (r : Rec). TellsOutcome (Err e) (outcome_of settings (shows_store (create_fault e)) u r)) same tells

pub logs_at : {D : Type 0} (seen : D → Option (List ℕ)) (may_leave : D → List ℕ → Type 0) (moment : D → ℕ) (left_since : D → ℕ → List ℕ → Type 0) (e : CreateFault) (j k : Writer D) (rec other : Rec) → rec ≡ other → LogsWrite seen may_leave moment left_since (Err e) rec j k → LogsWrite seen may_leave moment left_since (Err e) other j k
logs_at seen may_leave moment left_since e j k rec other same logs = subst (λ (r : Rec). LogsWrite seen may_leave moment left_since (Err e) r j k) same logs

-- what the exit of a `?` returns
pub err_is : {A E : Type 0} (r : Result A E) (e : E) → IsErrAnd r (λ y. y ≡ e) → r ≡ Err e
err_is (Ok a) e h = absurd h
err_is (Err y) e h = ap Err h

-- a call for which memory was wanting, of which nothing but room is left
pub memory_wanted : {A D : Type 0} (w : World) (old new : EngineView D) (r : Result A CreateFault) → r ≡ Err NoMemory → (c : Bool → Case A) → IsSame old new → Meets create_fault w old new r (c (fails create_fault r))
memory_wanted w old new r is c same = subst (λ (x : Result _ CreateFault). Meets create_fault w old new x (c (fails create_fault x))) (sym is) same

pub memory_logs : {A D : Type 0} (seen : D → Option (List ℕ)) (may_leave : D → List ℕ → Type 0) (moment : D → ℕ) (left_since : D → ℕ → List ℕ → Type 0) (j k : Writer D) → k ≡ j → (r : Result A CreateFault) → r ≡ Err NoMemory → (c : Bool → Case A)
    → LogsCase seen may_leave moment left_since create_fault r (c (fails create_fault r)).attempted (c (fails create_fault r)).written j k
memory_logs seen may_leave moment left_since j k same r is c =
    subst (λ (x : Result _ CreateFault). LogsCase seen may_leave moment left_since create_fault x (c (fails create_fault x)).attempted (c (fails create_fault x)).written j k) (sym is) (unchanged_logs seen may_leave moment left_since j k same)

-- the record of a view that is made at the last commit
pub view_rec : (w : World) (def ready : ViewDef) (s : Memory) → ready ≡ record def { created = (store_of s).base.number } → store.Stands w (store_of s) → View (record ready { no = 0 }) ≡ view_record def w.visible
view_rec w def ready s is stands = ap (λ (d : ViewDef). View (record d { no = 0 })) is ∙ ap (λ (n : ℕ). View (record def { no = 0; created = n })) stands.base_stands.number_is

-- ---- a commit's record
module _ {D : Type 0} (seen : D → Option (List ℕ)) (may_leave : D → List ℕ → Type 0) (moment : D → ℕ) (left_since : D → ℕ → List ℕ → Type 0) (session : ℕ) (actions : List Action) (w : World) (old new : EngineView D) (settings : Settings) where
  abbrev commit_rec : Rec
  commit_rec = next_record old.store actions

  abbrev number_now : Option ℕ
  number_now = Some (old.store.base.number + 1)

  abbrev with_it : Visible
  with_it = cases.with_commit session (transaction session w.visible) w.visible

  pub commit_refused : (r : Result ℕ CreateFault) (e : CreateFault) → r ≡ Err e → TellsOutcome (Err e) (outcome_of settings (shows_store (create_fault e)) w.upkeep commit_rec) → IsSame old new → Stands w old → LogsWrite seen may_leave moment left_since (Err e) commit_rec old.journal new.journal
      → WritesCommit seen may_leave moment left_since session actions w old new r (outcome_of settings (fails create_fault r) w.upkeep)
  commit_refused r e same tells unchanged is logs =
      subst (λ (x : Result ℕ CreateFault). WritesCommit seen may_leave moment left_since session actions w old new x (outcome_of settings (fails create_fault x) w.upkeep)) (sym same) (
        refuses w old new commit_rec number_now with_it e (outcome_of settings (shows_store (create_fault e)) w.upkeep commit_rec) tells unchanged is,
        logs_refused w old new commit_rec number_now with_it seen may_leave moment left_since old.journal new.journal e (outcome_of settings (shows_store (create_fault e)) w.upkeep commit_rec) tells logs,
      )

  pub commit_done : (number : ℕ) → number ≡ old.store.base.number + 1 → outcome_of settings false w.upkeep commit_rec ≡ good → store.Stands (wrote commit_rec with_it w) new.store → length_of new.journal ≡ need w.upkeep commit_rec
      → LogsWrite seen may_leave moment left_since (Ok tt) commit_rec old.journal new.journal → WritesCommit seen may_leave moment left_since session actions w old new (Ok number) (outcome_of settings false w.upkeep)
  commit_done number is out stands longer logs =
      let d = done w old new commit_rec number_now with_it (outcome_of settings false w.upkeep commit_rec) out stands longer in
      (d.0 ∙ ap (λ (n : ℕ). Ok (Some n)) (sym is), d.1, logs_done w old new commit_rec number_now with_it seen may_leave moment left_since old.journal new.journal (outcome_of settings false w.upkeep commit_rec) out logs)
