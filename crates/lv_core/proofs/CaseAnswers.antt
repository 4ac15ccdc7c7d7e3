-- What the engine's calls answer is what the plain machine's turn answers.
use Rattle.std.proofs.Common.{◌≡◌, ℕ, ◌≤◌, Bool, true, false, List, [], Option, Some, None, refl, sym, ap, ◌∙◌, subst, arith}
use Rattle.std.specs.Prelude.{if◌then◌else◌, OnErr, Result, Ok, Err, slice_index_or}
use Rattle.std.specs.List.{list_all}
use Rattle.lv_outside.specs.Causes.{Rose}
use Rattle.lv_schema.specs.declared.bound.Bound.TheVariants as bound
use Rattle.lv_schema.specs.declared.change.Change.{Change}
use Rattle.lv_schema.specs.declared.fault.Fault.{Fault}
use Rattle.lv_schema.specs.declared.forced.Forced.{Forced}
use Rattle.lv_schema.specs.declared.open.Open.{Open}
use Rattle.lv_schema.specs.declared.query.Query.{Query}
use Rattle.lv_schema.specs.declared.rec.Rec.{Rec}
use Rattle.lv_schema.specs.Cases.{Case, Outcome, alone, began, changed, changed_by, queried, rolled_back}
use Rattle.lv_schema.specs.Keys.{write_none}
use Rattle.lv_schema.specs.Tasks.{AreFresh}
use Rattle.lv_schema.specs.Effects.{Effect, effect_of}
use Rattle.lv_schema.specs.UpkeepCases.{forced_by, views_of}
use Rattle.lv_schema.specs.WholeWorld.{querying, world_after}
use Rattle.lv_schema.specs.World.{Settings, Visible, World, transaction, view_at}
use Rattle.lv_journal.specs.declared.writer.Writer.{Writer}
use Rattle.lv_plain.specs.declared.entry.Reply.{Reply}
use Rattle.lv_plain.specs.declared.entry.Reply.TheVariants as reply
use Rattle.lv_plain.specs.Turns.{Turn, bound_turn, is_open, reply_or, shown, turn_by}
use Rattle.lv_plain.proofs.Outside.{begun_reads, queried_outside}
use Rattle.lv_store.specs.declared.answer.Answer.{Answer}
use Rattle.lv_store.specs.Answering.{IsCostBetween, ReadsNoTable, ReadsViews}
use Rattle.lv_store.specs.Inputs.{AreCosts}
use Rattle.lv_engine.specs.declared.fault.AloneFault.{AloneFault}
use Rattle.lv_engine.specs.declared.fault.AloneFault.TheVariants as alone_fault
use Rattle.lv_engine.specs.Alone.{blames_disk, alone_fault as told_fault}
use Rattle.lv_engine.specs.declared.fault.CommitFault.{CommitFault}
use Rattle.lv_engine.specs.declared.fault.CommitFault.TheVariants as commit
use Rattle.lv_engine.specs.declared.fault.CreateFault.{CreateFault}
use Rattle.lv_engine.specs.declared.fault.CreateFault.TheVariants as create
use Rattle.lv_engine.proofs.Logged.{unchanged_logs}
use Rattle.lv_engine.specs.Answering.{GivesQuery, LogsUnless, Refuses, commit_fault, create_fault, shows_store}
use Rattle.lv_engine.specs.Kept.{EngineView, Stands, length_of}
use Rattle.lv_engine.specs.Writing.{IsUntouched}
use Rattle.lv_core.specs.declared.answered.Answered.{Answered}
use Rattle.lv_core.specs.Answering.{Answers, GivesTurn, IsRefusal, IsUndone, Journals}

-- ---- which errors blame the disk
pub create_store : (e : CreateFault) → shows_store (create_fault e) ≡ true → e ≡ create.Store
create_store (create.Store) is = refl
create_store (create.Full need limit) is = absurd cc
create_store (create.NoMemory) is = absurd cc

pub commit_store : (e : CommitFault) → shows_store (commit_fault e) ≡ true → e ≡ commit.Store
commit_store (commit.Conflict c) is = absurd cc
commit_store (commit.TableFull table) is = absurd cc
commit_store (commit.Full need limit) is = absurd cc
commit_store (commit.Store) is = refl
commit_store (commit.NoMemory) is = absurd cc

-- and which are want of memory
pub create_other : {A : Type 0} (e : CreateFault) → create_fault e ≡ None → ◌≡◌ {A = Result A CreateFault} (Err e) (Err create.Store) → ⊥
create_other (create.Store) none is = cc
create_other (create.Full need limit) none is = cc
create_other (create.NoMemory) none is = cc

pub commit_other : {A : Type 0} (e : CommitFault) → commit_fault e ≡ None → ◌≡◌ {A = Result A CommitFault} (Err e) (Err commit.Store) → ⊥
commit_other (commit.Conflict c) none is = cc
commit_other (commit.TableFull table) none is = cc
commit_other (commit.Full need limit) none is = cc
commit_other (commit.Store) none is = cc
commit_other (commit.NoMemory) none is = cc

pub alone_store : (e : AloneFault) → blames_disk e ≡ true → e ≡ alone_fault.Record create.Store
alone_store (alone_fault.Change f) is = absurd cc
alone_store (alone_fault.Record f) is = ap alone_fault.Record (create_store f is)

pub alone_other : {A : Type 0} (e : AloneFault) → told_fault e ≡ None → ◌≡◌ {A = Result A AloneFault} (Err e) (Err (alone_fault.Record create.Store)) → ⊥
alone_other (alone_fault.Change f) none is = cc
alone_other (alone_fault.Record create.Store) none is = cc
alone_other (alone_fault.Record (create.Full need limit)) none is = cc
alone_other (alone_fault.Record create.NoMemory) none is = cc

pub errs : {A E : Type 0} (a b : E) → a ≡ b → ◌≡◌ {A = Result A E} (Err a) (Err b)
errs a b is = λ i. Err (is i)

-- ---- what a change does
pub unwritten : (session : ℕ) (change : Change) (s : Visible) → (changed session change s).written ≡ None
unwritten session change s = by (effect_of s.tables change (transaction session s).own)
  where
    by : (e : Result Effect Fault) → (changed_by e session (transaction session s) s).written ≡ None
    by (Err fault) = refl
    by (Ok effect) = refl

pub unattempted : (session : ℕ) (change : Change) (s : Visible) → (changed session change s).attempted ≡ None
unattempted session change s = by (effect_of s.tables change (transaction session s).own)
  where
    by : (e : Result Effect Fault) → (changed_by e session (transaction session s) s).attempted ≡ None
    by (Err fault) = refl
    by (Ok effect) = refl

pub open_turn : (outcome : Rec → Outcome) (tasks : List (ℕ × ℕ)) (session : ℕ) (change : Change) (s : Visible) → is_open session s ≡ true
    → turn_by reply.Changed (changed session change s) ≡ bound_turn outcome tasks session (bound.Change change) s
open_turn outcome tasks session change s e = ap (λ b. if b then turn_by reply.Changed (changed session change s) else turn_by (λ done. reply.Alone done.0 done.1) (alone outcome session change s)) (sym e)

pub alone_turn : (outcome : Rec → Outcome) (tasks : List (ℕ × ℕ)) (session : ℕ) (change : Change) (s : Visible) → is_open session s ≡ false
    → turn_by (λ done. reply.Alone done.0 done.1) (alone outcome session change s) ≡ bound_turn outcome tasks session (bound.Change change) s
alone_turn outcome tasks session change s e = ap (λ b. if b then turn_by reply.Changed (changed session change s) else turn_by (λ done. reply.Alone done.0 done.1) (alone outcome session change s)) (sym e)

-- what a query reads outside a transaction it reads once one is opened
pub reads_none : (session : ℕ) (query : Query) (w : World) → slice_index_or w.visible.sessions session None ≡ None → ReadsNoTable session query w → ReadsNoTable session query (world_after (began session w.visible) w)
reads_none session query w free h =
    let same = sym (begun_reads session w.visible free) in
    record {
      views = h.views;
      fresh = subst (λ (o : Open). AreFresh w (views_of query) o.snapshot) same h.fresh;
      unwritten = subst (λ (o : Open). list_all (λ v. write_none o.actions (view_at w.visible.views v).tables) (views_of query) ≡ true) same h.unwritten;
    }

pub reads_views : (session : ℕ) (query : Query) (w : World) → slice_index_or w.visible.sessions session None ≡ None → ReadsViews session query w → ReadsViews session query (world_after (began session w.visible) w)
reads_views session query w free h = record {
  views = h.views;
  unwritten = subst (λ (o : Open). list_all (λ v. write_none o.actions (view_at w.visible.views v).tables) (views_of query) ≡ true) (sym (begun_reads session w.visible free)) h.unwritten;
}

-- and it forces the same steps, which cost the same
pub same_costs : (settings : Settings) (session : ℕ) (query : Query) (w : World) (n : ℕ) → slice_index_or w.visible.sessions session None ≡ None → AreCosts (IsCostBetween w.visible) (forced_by settings session query w) n
    → AreCosts (IsCostBetween (began session w.visible).next) (forced_by settings session query (world_after (began session w.visible) w)) n
same_costs settings session query w n free costs =
    subst (λ (steps : List Forced). AreCosts (IsCostBetween w.visible) steps n) (sym (ap (λ q. q.forced) (queried_outside settings session query w free).0)) costs

abbrev pub queried_turn : ℕ → Query → World → Turn
queried_turn session query w = shown (reply.Rows (queried session query w.visible)) w.visible

no_less : (a b : ℕ) → b ≡ a → a ≤ b
no_less a b e = omega (arith, e)

module _ {D : Type 0} (seen : D → Option (List ℕ)) (may_leave : D → List ℕ → Type 0) (moment : D → ℕ) (left_since : D → ℕ → List ℕ → Type 0) (failures : D → ℕ) where
  abbrev Recorded : Option Rec → Option Rec → Writer D → Writer D → Type 0
  Recorded attempted written old new = Journals seen may_leave moment left_since failures attempted written old new

  abbrev Gives : World → EngineView D → EngineView D → List Forced → (Bool → Turn) → Answered → Type 0
  Gives w old new steps turn_if a = GivesTurn seen may_leave moment left_since failures w old new steps turn_if a

  abbrev Ans : {E : Type 0} → World → EngineView D → EngineView D → Result Answered E → List Forced → (Bool → Turn) → Type 0
  Ans w old new r steps turn_if = Answers seen may_leave moment left_since failures w old new r steps turn_if

  abbrev Undone : EngineView D → EngineView D → Type 0
  Undone old new = IsUndone seen may_leave moment left_since failures old new

  abbrev Caused : Bool → EngineView D → EngineView D → Type 0
  Caused fails old new = fails ≡ true → Rose (failures old.journal.disk) (failures new.journal.disk)

  -- ---- journals
  pub journals_same : (old new : Writer D) → new ≡ old → Recorded None None old new
  journals_same old new same = record {
    logs = unchanged_logs seen may_leave moment left_since old new same;
    later = no_less (failures old.disk) (failures new.disk) (ap (λ (j : Writer D). failures j.disk) same);
  }

  pub journals_between : (attempted written : Option Rec) (a old new b : Writer D) → a ≡ old → new ≡ b → Recorded attempted written old new → Recorded attempted written a b
  journals_between attempted written a old new b first second h =
      subst (λ (j : Writer D). Recorded attempted written a j) second (subst (λ (j : Writer D). Recorded attempted written j new) (sym first) h)

  abbrev pub Untouched : Writer D → Writer D → Type 0
  Untouched old new = IsUntouched seen may_leave failures old.disk new.disk

  pub untouched_same : (old new : Writer D) → new ≡ old → Untouched old new
  untouched_same old new same = subst (λ (j : Writer D). Untouched old j) (sym same) (record { tells = refl; images = λ bytes left. left; count = refl })

  pub undone_same : (old new : EngineView D) → new ≡ old → Undone old new
  undone_same old new same = record {
    same = record { store_is = ap (λ (e : EngineView D). e.store) same; length_is = ap (λ (e : EngineView D). length_of e.journal) same };
    logs = unchanged_logs seen may_leave moment left_since old.journal new.journal (ap (λ (e : EngineView D). e.journal) same);
    disk = untouched_same old.journal new.journal (ap (λ (e : EngineView D). e.journal) same);
  }

  pub refused_quiet : {A : Type 0} (fault : Option Fault) (c : Case A) (old new : Writer D) → new ≡ old → c.attempted ≡ None → c.written ≡ None → LogsUnless seen may_leave moment left_since fault c.attempted c.written old new
  refused_quiet None c old new same attempted written = (journals_same old new same).logs
  refused_quiet (Some f) c old new same attempted written =
      subst (λ (o : Option Rec). LogsUnless seen may_leave moment left_since (Some f) o c.written old new) (sym attempted) (subst (λ (o : Option Rec). LogsUnless seen may_leave moment left_since (Some f) None o old new) (sym written) (journals_same old new same).logs)

  -- ---- a case that is answered, and one that is refused
  module _ {A : Type 0} (make : A → Reply) (case_if : Bool → Case A) (w : World) (old new : EngineView D) where
    abbrev turns : Bool → Turn
    turns fails = turn_by make (case_if fails)

    pub gives : (fails : Bool) (a : Answered) (x : A) → a.forced ≡ [] → a.reply ≡ make x → ((case_if fails).answer ≡ Ok x) × Stands (world_after (case_if fails) w) new
        → Recorded (case_if fails).attempted (case_if fails).written old.journal new.journal → Caused fails old new → Gives w old new [] turns a
    gives fails a x none is h journal cause = record { fails = fails; forced = none; reply = is ∙ sym (ap (reply_or make) h.0); stands = h.1; journal = journal; cause = cause }

    pub refuses : (fails : Bool) (a : Answered) (f : Fault) → a.forced ≡ [] → a.reply ≡ reply.Refused f → ((case_if fails).answer ≡ Err f) × Stands (world_after (case_if fails) w) new
        → Recorded (case_if fails).attempted (case_if fails).written old.journal new.journal → Caused fails old new → Gives w old new [] turns a
    refuses fails a f none is h journal cause = record { fails = fails; forced = none; reply = is ∙ sym (ap (reply_or make) h.0); stands = h.1; journal = journal; cause = cause }

    pub answers_refused : {E : Type 0} (fails : Bool) (r : Result Answered E) (fault : Option Fault) → IsRefusal fault r → Refuses fault w old new (case_if fails)
        → LogsUnless seen may_leave moment left_since fault (case_if fails).attempted (case_if fails).written old.journal new.journal → failures old.journal.disk ≤ failures new.journal.disk → Caused fails old new → (fault ≡ None → Untouched old.journal new.journal)
        → Ans w old new r [] turns
    answers_refused fails (Ok a) (Some f) is h logs later cause untouched = refuses fails a f is.0 is.1 h (record { logs = logs; later = later }) cause
    answers_refused fails (Err e) (Some f) is h logs later cause untouched = absurd is
    answers_refused fails (Ok a) None is h logs later cause untouched = absurd is
    answers_refused fails (Err e) None is h logs later cause untouched = record { same = h; logs = logs; disk = untouched refl }

  -- of a case in which nothing is written
  pub gives_quiet : {A : Type 0} (make : A → Reply) (c : Case A) (w : World) (old new : EngineView D) (a : Answered) (x : A) → a.forced ≡ [] → a.reply ≡ make x → c.attempted ≡ None → c.written ≡ None → new.journal ≡ old.journal
      → (c.answer ≡ Ok x) × Stands (world_after c w) new → Gives w old new [] (λ _. turn_by make c) a
  gives_quiet make c w old new a x none is attempted written same h =
      gives make (λ _. c) w old new false a x none is h
      (subst (λ (o : Option Rec). Recorded o c.written old.journal new.journal) (sym attempted) (subst (λ (o : Option Rec). Recorded None o old.journal new.journal) (sym written) (journals_same old.journal new.journal same))) (λ fails. absurd cc)

  pub gives_shown : (w : World) (e : EngineView D) (r : Reply) (a : Answered) → a.forced ≡ [] → a.reply ≡ r → Stands w e → Gives w e e [] (λ _. shown r w.visible) a
  gives_shown w e r a none is stands = record { fails = false; forced = none; reply = is; stands = stands; journal = journals_same e.journal e.journal refl; cause = λ fails. absurd cc }

  pub answers_turn : {E : Type 0} (w : World) (old new : EngineView D) (r : Result Answered E) (steps : List Forced) (t u : Bool → Turn) → ((fails : Bool) → t fails ≡ u fails) → Ans w old new r steps t → Ans w old new r steps u
  answers_turn w old new r steps t u same h = subst (λ (x : Bool → Turn). Ans w old new r steps x) (λ i fails. same fails i) h

  -- ---- queries
  pub gives_query : (settings : Settings) (session : ℕ) (query : Query) (w : World) (old new : EngineView D) (answer : Answer) (a : Answered) → a.forced ≡ answer.forced → a.reply ≡ reply.Rows answer.rows → new.journal ≡ old.journal
      → GivesQuery (querying settings session query w) answer new → Gives w old new (forced_by settings session query w) (λ _. queried_turn session query w) a
  gives_query settings session query w old new answer a forced_is reply_is same h = record {
    fails = false;
    forced = forced_is ∙ h.forced;
    reply = reply_is ∙ ap (λ rows. reply.Rows rows) h.rows;
    stands = h.stands;
    journal = journals_same old.journal new.journal same;
    cause = λ fails. absurd cc;
  }

  -- between a BEGIN and a ROLLBACK
  module _ (settings : Settings) (session : ℕ) (query : Query) (w : World) (free : slice_index_or w.visible.sessions session None ≡ None) where
    abbrev opening : World
    opening = world_after (began session w.visible) w

    abbrev after : World
    after = (querying settings session query opening).next

    query_gives : (old before mid new : EngineView D) (a : Answered) → before.journal ≡ old.journal → new.journal ≡ mid.journal
        → Gives opening before mid (forced_by settings session query opening) (λ _. queried_turn session query opening) a
        → Stands (world_after (rolled_back session after.visible) after) new → Gives w old new (forced_by settings session query w) (λ _. queried_turn session query w) a
    query_gives old before mid new a first second h stands =
        let outside = queried_outside settings session query w free in
        record {
          fails = false;
          forced = h.forced ∙ ap (λ q. q.forced) outside.0;
          reply = h.reply ∙ ap (λ q. reply.Rows q.rows) outside.0;
          stands = subst (λ (v : World). Stands v new) outside.1 stands;
          journal = journals_between None None old.journal before.journal mid.journal new.journal (sym first) (sym second) h.journal;
          cause = λ fails. absurd cc;
        }

    pub answers_outside : {E : Type 0} (old before mid new : EngineView D) (r : Result Answered E) → before.journal ≡ old.journal → new.journal ≡ mid.journal
        → Ans opening before mid r (forced_by settings session query opening) (λ _. queried_turn session query opening)
        → (Stands after mid → Stands (world_after (rolled_back session after.visible) after) new) → OnErr r (mid ≡ before) → (mid ≡ before → new ≡ old)
        → Ans w old new r (forced_by settings session query w) (λ _. queried_turn session query w)
    answers_outside old before mid new (Ok a) first second h ends kept again = query_gives old before mid new a first second h (ends h.stands)
    answers_outside old before mid new (Err e) first second h ends kept again = undone_same old new (again kept)
