-- Legal entries name what is in use.
use Rattle.std.proofs.Common.{◌≡◌, ℕ, zero, suc, ◌+◌, ◌<◌, ◌≤◌, Bool, true, false, cond, List, [], ◌∷◌, length, map, Option, Some, None, refl, ap, subst, arith}
use Rattle.std.specs.Prelude.{◌==◌, ◌&&◌, nat_lt, if◌then◌else◌, Result, Ok, Err, slice_index, slice_index_or}
use Rattle.std.specs.List.{AllByRecursion, filter_map, flat_map, range_with_len, list_all}
use Rattle.std.specs.Ordering.{nat_cmp}
use Rattle.std.specs.declared.cmp.Ordering.{Ordering}
use Rattle.std.specs.declared.cmp.Ordering.TheVariants.{Less, Equal, Greater}
use Rattle.std.specs.FinMap.Entries.{by_order}
use Rattle.std.specs.Str.{bytes_eq}
use Rattle.std.proofs.lemmas.Bool.Decides.{nat_tests}
use Rattle.std.proofs.lemmas.List.{get_or_past, length-map}
use Rattle.std.proofs.lemmas.List.Quantifiers.{position-Some}
use Rattle.lv_schema.specs.declared.bound.Bound.{Bound}
use Rattle.lv_schema.specs.declared.bound.Bound.TheVariants as bound
use Rattle.lv_schema.specs.declared.fault.Fault.{Fault}
use Rattle.lv_schema.specs.declared.fault.Fault.TheVariants as fault
use Rattle.lv_schema.specs.declared.forced.Forced.{Forced}
use Rattle.lv_schema.specs.declared.pending.Pending.{Pending}
use Rattle.lv_schema.specs.declared.query.Rel.{Rel}
use Rattle.lv_schema.specs.declared.query.Rel.TheVariants as rel
use Rattle.lv_schema.specs.declared.rec.Rec.{Rec}
use Rattle.lv_schema.specs.declared.table.TableDef.{TableDef}
use Rattle.lv_schema.specs.declared.view.ViewDef.{ViewDef}
use Rattle.lv_schema.specs.Bound.{IsBound, rel_in_use}
use Rattle.lv_schema.specs.Cases.{Outcome, good, failed, full, alone, changed, committed, table_made, view_made, with_table, with_view}
use Rattle.lv_schema.specs.Catalog.{view_named}
use Rattle.lv_schema.specs.Once.{once, put_once}
use Rattle.lv_schema.specs.Policies.{chosen, unclaimed}
use Rattle.lv_schema.specs.Records.{table_record, view_record}
use Rattle.lv_schema.specs.SoundWorld.{IsSound}
use Rattle.lv_schema.specs.Steady.{IsStep, IsSteady}
use Rattle.lv_schema.specs.StepPlans.{forced_from, planned, view_point}
use Rattle.lv_schema.specs.Tasks.{pending_now, pending_tasks}
use Rattle.lv_schema.specs.UpkeepCases.{claim_of, chosen_view, fetch_among, fetch_by, fetched_step, fetching, Installed, installed, moved, install_by, installing, marking, marked_by, mark_record, no_pending, outcome_of, view_number, views_of, with_claim, with_steps}
use Rattle.lv_schema.specs.World.{Upkeep, Visible, World, last, point, transaction, Settings}
use Rattle.lv_schema.proofs.Apart.{all_append, all_flat_map, all_map, all_true, all_weaker}
use Rattle.lv_schema.proofs.Candidates.{IsCandidate, chosen_is}
use Rattle.lv_schema.proofs.PlannedSteps.{planned_is}
use Rattle.lv_schema.proofs.ServedQueries.{forced_are_steps}
use Rattle.lv_plain.specs.declared.entry.Entry.{Entry}
use Rattle.lv_plain.specs.declared.entry.Entry.TheVariants as entry
use Rattle.lv_plain.specs.declared.entry.MarkOutcome.{MarkOutcome}
use Rattle.lv_plain.specs.declared.entry.MarkOutcome.TheVariants as mark
use Rattle.lv_plain.specs.declared.entry.Reply.{Reply}
use Rattle.lv_plain.specs.declared.entry.Reply.TheVariants as reply
use Rattle.lv_plain.specs.declared.program.Program.{Program}
use Rattle.lv_plain.specs.declared.program.Script.{Script}
use Rattle.lv_plain.specs.declared.event.Event.{Event}
use Rattle.lv_plain.specs.declared.event.Event.TheVariants.{Turn as turn_of, Fetch as fetch_of, Install as install_of, Release as release_of, Mark as mark_of, Clean as clean_up}
use Rattle.lv_plain.specs.Legal.{Legal, MayCome, MayComeBy, MayHappen, after, after_by, after_entry, event_of, shows_failure}
use Rattle.lv_plain.specs.Limits.{IsWithinLimits}
use Rattle.lv_plain.specs.Machine.{State, fetch_entry, give, install_entry, mark_by, mark_outcome, steps_of}
use Rattle.lv_plain.specs.Named.{Counts, in_use, nothing_in_use, AreNamed, IsNamedEntry, IsNamedFault, IsNamedOutcome, IsNamedReply, NamesNoTable}
use Rattle.lv_plain.specs.Programs.{Places, has_more, lines_of, may_turn, next_line, no_script, session_count}
use Rattle.lv_plain.specs.Rules.{Rules}
use Rattle.lv_plain.specs.Turns.{IsBinding, bound_line, bound_turn, is_open, read_turn, reply_or, turn_by}
use Rattle.lv_plain.proofs.Fronts.{after_grows, entry_grows, front_length, grows_on}
use Rattle.lv_plain.proofs.NamedFaults.{IsNamedAnswer, alone_named, changed_named, committed_named, written_named}
use Rattle.lv_plain.proofs.SoundTurns.{each_line}
use Rattle.lv_plain.proofs.SteadyTurns.{given_steady}

-- ---- where more is in use
record IsMore (m n : Counts) : Type 0 where
  pub sessions : m.sessions ≤ n.sessions
  pub tables : m.tables ≤ n.tables
  pub views : m.views ≤ n.views

fault_more : (m n : Counts) (f : Fault) → IsMore m n → IsNamedFault m f → IsNamedFault n f
fault_more m n (fault.Syntax byte) more h = tt
fault_more m n (fault.Unknown name) more h = tt
fault_more m n (fault.Ambiguous name) more h = tt
fault_more m n (fault.InUse name) more h = tt
fault_more m n (fault.Kinds byte) more h = tt
fault_more m n (fault.Limit which most) more h = tt
fault_more m n (fault.Profile rule) more h = tt
fault_more m n fault.NotSetup more h = tt
fault_more m n fault.InTransaction more h = tt
fault_more m n fault.NoTransaction more h = tt
fault_more m n (fault.KeyAssigned name) more h = tt
fault_more m n (fault.Range number) more h = tt
fault_more m n (fault.Duplicate table key) more h = omega (arith, h, more.tables)
fault_more m n (fault.TableFull table) more h = omega (arith, h, more.tables)
fault_more m n (fault.Conflict table key commit) more h = omega (arith, h, more.tables)
fault_more m n (fault.MergedFull table) more h = omega (arith, h, more.tables)
fault_more m n fault.Store more h = tt
fault_more m n (fault.JournalFull need limit) more h = tt

reply_more : (m n : Counts) (r : Reply) → IsMore m n → IsNamedReply m r → IsNamedReply n r
reply_more m n reply.Made more h = tt
reply_more m n (reply.Changed count) more h = tt
reply_more m n (reply.Alone count number) more h = tt
reply_more m n (reply.Began snapshot) more h = tt
reply_more m n (reply.Committed number) more h = tt
reply_more m n reply.RolledBack more h = tt
reply_more m n (reply.Rows rows) more h = tt
reply_more m n (reply.Tasks tasks) more h = all_weaker (λ (task : ℕ × ℕ). task.0 < m.views) (λ task. task.0 < n.views) (λ task lt. omega (arith, lt, more.views)) tasks h
reply_more m n (reply.Refused f) more h = fault_more m n f more h

outcome_more : (m n : Counts) (o : MarkOutcome) → IsMore m n → IsNamedOutcome m o → IsNamedOutcome n o
outcome_more m n (mark.Upto upto) more h = tt
outcome_more m n mark.Already more h = tt
outcome_more m n (mark.Refused f) more h = fault_more m n f more h

entry_more : (m n : Counts) (e : Entry) → IsMore m n → IsNamedEntry m e → IsNamedEntry n e
entry_more m n (entry.Session session place forced r) more h = (
  omega (arith, h.0, more.sessions),
  all_weaker (λ (f : Forced). f.view < m.views) (λ f. f.view < n.views) (λ f lt. omega (arith, lt, more.views)) forced h.1,
  reply_more m n r more h.2,
)
entry_more m n (entry.Fetched worker view lo hi) more h = omega (arith, h, more.views)
entry_more m n (entry.Idle worker) more h = tt
entry_more m n (entry.Busy worker) more h = tt
entry_more m n (entry.Installed worker view lo hi) more h = omega (arith, h, more.views)
entry_more m n (entry.Moved worker view lo hi at) more h = omega (arith, h, more.views)
entry_more m n (entry.Empty worker) more h = tt
entry_more m n (entry.Released worker) more h = tt
entry_more m n (entry.Marked view o) more h = (omega (arith, h.0, more.views), outcome_more m n o more h.1)
entry_more m n (entry.MarkUnknown name) more h = tt
entry_more m n (entry.Cleaned floor versions deltas) more h = tt

-- ---- the reply to a statement
reply_named : {A : Type 0} (n : Counts) (reply : A → Reply) (answer : Result A Fault) → ((a : A) → IsNamedReply n (reply a)) → IsNamedAnswer n answer → IsNamedReply n (reply_or reply answer)
reply_named n reply (Ok a) h is = h a
reply_named n reply (Err f) h is = is

turn_named : (n : Counts) (outcome : Rec → Outcome) (tasks : List (ℕ × ℕ)) (session : ℕ) (statement : Bound) (s : Visible) → length s.tables ≤ n.tables → IsSound s → IsBound s.tables s.views statement
    → AllByRecursion (λ (task : ℕ × ℕ). task.0 < n.views) tasks → IsNamedReply n (bound_turn outcome tasks session statement s).reply
turn_named n outcome tasks session (bound.Table def) s le sound is named =
    reply_named n (λ _. reply.Made) (table_made outcome def s).answer (λ a. tt) (written_named {A = Unit {0}} n (outcome (table_record def)) (table_record def) tt (with_table def s) s)
turn_named n outcome tasks session (bound.View def) s le sound is named =
    reply_named n (λ _. reply.Made) (view_made outcome def s).answer (λ a. tt) (written_named {A = Unit {0}} n (outcome (view_record def s)) (view_record def s) tt (with_view def s) s)
turn_named n outcome tasks session (bound.Change change) s le sound is named = by (is_open session s)
  where
    by : (b : Bool) → IsNamedReply n (if b then turn_by reply.Changed (changed session change s) else turn_by (λ done. reply.Alone done.0 done.1) (alone outcome session change s)).reply
    by true = reply_named n reply.Changed (changed session change s).answer (λ count. tt) (changed_named n session change s le is)
    by false = reply_named n (λ done. reply.Alone done.0 done.1) (alone outcome session change s).answer (λ done. tt) (alone_named n outcome session change s le sound is)
turn_named n outcome tasks session (bound.Query query) s le sound is named = tt
turn_named n outcome tasks session (bound.Begin) s le sound is named = tt
turn_named n outcome tasks session (bound.Commit) s le sound is named =
    reply_named n reply.Committed (committed outcome session s).answer (λ number. tt) (committed_named n outcome session s le sound)
turn_named n outcome tasks session (bound.Rollback) s le sound is named = tt
turn_named n outcome tasks session (bound.Tasks) s le sound is named = named

-- ---- pending tasks and forced steps
all_below : (P : ℕ → Type 0) (a k : ℕ) → ((v : ℕ) → v < a + k → P v) → AllByRecursion P (range_with_len a k)
all_below P a zero h = tt
all_below P a (suc k) h = (h a (omega arith), all_below P (a + 1) k (λ v lt. h v (omega (arith, lt))))

tasks_named : (w : World) → AllByRecursion (λ (task : ℕ × ℕ). task.0 < length w.visible.views) (pending_tasks w)
tasks_named w =
    all_flat_map (λ v. map (λ k. (v, k)) (pending_now w v)) (λ (task : ℕ × ℕ). task.0 < length w.visible.views) (range_with_len 0 (length w.visible.views))
    (all_below (λ v. AllByRecursion (λ (task : ℕ × ℕ). task.0 < length w.visible.views) (map (λ k. (v, k)) (pending_now w v))) 0 (length w.visible.views)
    (λ v lt. all_map (λ k. (v, k)) (λ (task : ℕ × ℕ). task.0 < length w.visible.views) (pending_now w v) (all_true (λ k. v < length w.visible.views) (λ k. omega (arith, lt)) (pending_now w v))))

all_put : (P : ℕ → Type 0) (x : ℕ) (ys : List ℕ) → P x → AllByRecursion P ys → AllByRecursion P (put_once nat_cmp x ys)
all_put P x [] a b = (a, tt)
all_put P x (y ∷ ys) a b = by (nat_cmp x y) (all_put P x ys a b.1)
  where
    by : (r : Ordering) → AllByRecursion P (put_once nat_cmp x ys) → AllByRecursion P (by_order r (x ∷ y ∷ ys) (y ∷ ys) (y ∷ put_once nat_cmp x ys))
    by Less rest = (a, b)
    by Equal rest = b
    by Greater rest = (b.0, rest)

all_once : (P : ℕ → Type 0) (xs : List ℕ) → AllByRecursion P xs → AllByRecursion P (once nat_cmp xs)
all_once P [] a = tt
all_once P (x ∷ xs) a = all_put P x (once nat_cmp xs) a.0 (all_once P xs a.1)

is_below : (v n : ℕ) → nat_lt v n ≡ true → v < n
is_below v n h = grind (arith, nat_tests)

both_hold : (a b : Bool) → (a && b) ≡ true → (a ≡ true) × (b ≡ true)
both_hold true b h = (refl, h)
both_hold false b h = absurd (cc)

views_named : (tables : List TableDef) (views : List ViewDef) (rels : List Rel) → list_all (rel_in_use tables views) rels ≡ true → AllByRecursion (λ v. v < length views) (filter_map view_number rels)
views_named tables views [] h = tt
views_named tables views (rel.Table t ∷ rels) h = views_named tables views rels (both_hold (nat_lt t (length tables)) (list_all (rel_in_use tables views) rels) h).1
views_named tables views (rel.View v ∷ rels) h =
    let parts = both_hold (nat_lt v (length views)) (list_all (rel_in_use tables views) rels) h in
    (is_below v (length views) parts.0, views_named tables views rels parts.1)

forced_named : (settings : Settings) (w : World) (m : ℕ) (views : List ℕ) → IsSteady w → AllByRecursion (λ v. v < length w.visible.views) views
    → AllByRecursion (λ (f : Forced). f.view < length w.visible.views) (flat_map (λ v. forced_from settings w.visible (view_point w v) m) views)
forced_named settings w m [] steady a = tt
forced_named settings w m (v ∷ views) steady a =
    let at = steady.views v a.0 in
    let steps = forced_from settings w.visible (view_point w v) m in
    all_append (λ (f : Forced). f.view < length w.visible.views) steps (flat_map (λ u. forced_from settings w.visible (view_point w u) m) views)
    (all_weaker (IsStep w.visible) (λ f. f.view < length w.visible.views) (λ f is. is.in_use) steps (forced_are_steps w.visible v a.0 settings m (point w.upkeep v) (omega (arith, at.created, at.marked))))
    (forced_named settings w m views steady a.1)

-- ---- a session that has a statement is there
pub is_there : (p : Program) (s : ℕ) → 0 < length (lines_of p s) → s < session_count p
is_there p zero some = omega arith
is_there p (suc i) some = by (nat_lt i (length p.sessions)) refl
  where
    by : (t : Bool) → nat_lt i (length p.sessions) ≡ t → suc i < session_count p
    by true is = grind arith
    by false is =
        let none : length (lines_of p (suc i)) ≡ 0 = ap (λ (script : Script). length script.lines) (get_or_past p.sessions i no_script (grind arith)) in
        absurd (omega (arith, none, some))

turn_there : (p : Program) (places : Places) (session : ℕ) → may_turn p places session ≡ true → session < session_count p
turn_there p places session may = by (has_more p places session) refl may
  where
    by : (b : Bool) → has_more p places session ≡ b → may_turn p places session ≡ true → session < session_count p
    by true more may = is_there p session (let lt = is_below (slice_index places session) (length (lines_of p session)) more in omega (arith, lt))
    by false more may = absurd (cc)

module _ (rules : Rules) (binds : IsBinding rules.reading) (names : NamesNoTable rules.reading) (limits : IsWithinLimits rules.program) where
  -- ---- a turn
  steps_named : (fails : Bool) (session : ℕ) (r : Result Bound Fault) (w : World) → IsSteady w → ((b : Bound) → r ≡ Ok b → IsBound w.visible.tables w.visible.views b)
      → AllByRecursion (λ (f : Forced). f.view < length w.visible.views) (steps_of rules.settings session r w)
  steps_named fails session (Err f) w steady is = tt
  steps_named fails session (Ok (bound.Table def)) w steady is = tt
  steps_named fails session (Ok (bound.View def)) w steady is = tt
  steps_named fails session (Ok (bound.Change change)) w steady is = tt
  steps_named fails session (Ok (bound.Query query)) w steady is =
      forced_named rules.settings w (transaction session w.visible).snapshot (views_of query) steady
      (all_once (λ v. v < length w.visible.views) (filter_map view_number query.rels) (views_named w.visible.tables w.visible.views query.rels (is (bound.Query query) refl).in_use))
  steps_named fails session (Ok (bound.Begin)) w steady is = tt
  steps_named fails session (Ok (bound.Commit)) w steady is = tt
  steps_named fails session (Ok (bound.Rollback)) w steady is = tt
  steps_named fails session (Ok (bound.Tasks)) w steady is = tt

  answer_named : (outcome : Rec → Outcome) (session : ℕ) (r : Result Bound Fault) (w : World) → IsSteady w → ((b : Bound) → r ≡ Ok b → IsBound w.visible.tables w.visible.views b)
      → ((f : Fault) → r ≡ Err f → IsNamedFault nothing_in_use f) → IsNamedReply (in_use rules.program w.visible) (read_turn outcome (pending_tasks w) session r w.visible).reply
  answer_named outcome session (Ok b) w steady is none = turn_named (in_use rules.program w.visible) outcome (pending_tasks w) session b w.visible (omega arith) steady.sound (is b refl) (tasks_named w)
  answer_named outcome session (Err f) w steady is none = fault_more nothing_in_use (in_use rules.program w.visible) f (record { sessions = omega arith; tables = omega arith; views = omega arith }) (none f refl)

  turn_entry_named : (fails : Bool) (session : ℕ) (s : State) → IsSteady s.world → may_turn rules.program s.places session ≡ true → IsNamedEntry (in_use rules.program s.world.visible) (give rules fails (turn_of session) s).entry
  turn_entry_named fails session s steady may =
      let line = next_line rules.program s.places session in
      let r = bound_line rules.reading session line s.world.visible in
      let is : (b : Bound) → r ≡ Ok b → IsBound s.world.visible.tables s.world.visible.views b
      = λ b e. binds s.world.visible.tables s.world.visible.views (session == 0) (is_open session s.world.visible) line b steady.sound.schema (each_line rules.program s.places session limits) e in
      let none : (f : Fault) → r ≡ Err f → IsNamedFault nothing_in_use f
      = λ f e. names s.world.visible.tables s.world.visible.views (session == 0) (is_open session s.world.visible) line f e in (
        turn_there rules.program s.places session may,
        steps_named fails session r s.world steady is,
        answer_named (outcome_of rules.settings fails s.world.upkeep) session r s.world steady is none,
      )

  -- ---- what maintenance does
  fetch_named : (worker : ℕ) (w : World) → IsSteady w → IsNamedEntry (in_use rules.program w.visible) (fetch_entry rules false worker (fetching rules.settings worker w).0)
  fetch_named worker w steady = by (claim_of w.upkeep worker)
    where
      step : IsCandidate w (slice_index_or (unclaimed w) (chosen rules.settings.policy (unclaimed w)) no_pending) → (x : Option Forced) → planned rules.settings (chosen_view rules.settings.policy w) w (last w.visible) ≡ x
          → IsNamedEntry (in_use rules.program w.visible) (fetch_entry rules false worker (fetched_step x worker w.upkeep).0)
      step is None e = tt
      step is (Some f) e =
          let at = planned_is rules.settings w.visible (chosen_view rules.settings.policy w) (last w.visible) (point w.upkeep (chosen_view rules.settings.policy w)) f e in
          omega (arith, at.view, is.in_use)

      among : (ps : List Pending) → unclaimed w ≡ ps → IsNamedEntry (in_use rules.program w.visible) (fetch_entry rules false worker (fetch_among ps rules.settings worker w).0)
      among [] e = tt
      among (q ∷ ps) e = step (chosen_is rules.settings.policy w (omega (arith, ap (λ (l : List Pending). length l) e))) (planned rules.settings (chosen_view rules.settings.policy w) w (last w.visible)) refl

      by : (x : Option Forced) → IsNamedEntry (in_use rules.program w.visible) (fetch_entry rules false worker (fetch_by x rules.settings worker w).0)
      by None = among (unclaimed w) refl
      by (Some f) = tt

  install_named : (worker : ℕ) (w : World) → IsSteady w → IsNamedEntry (in_use rules.program w.visible) (install_entry rules false worker (installing worker w.upkeep).0)
  install_named worker w steady = by (claim_of w.upkeep worker) refl
    where
      by : (x : Option Forced) → claim_of w.upkeep worker ≡ x → IsNamedEntry (in_use rules.program w.visible) (install_entry rules false worker (install_by x worker w.upkeep).0)
      by None e = tt
      by (Some f) e = test (point w.upkeep f.view == f.lo)
        where
          test : (t : Bool) → IsNamedEntry (in_use rules.program w.visible)
              (install_entry rules false worker (cond {A = Installed × Upkeep} t (installed f, with_claim worker None (with_steps (f ∷ []) w.upkeep)) (moved f (point w.upkeep f.view), with_claim worker None w.upkeep)).0)
          test true = (steady.claims worker f e).step.in_use
          test false = (steady.claims worker f e).step.in_use

  mark_named : (fails : Bool) (name : List ℕ) (s : State) → IsNamedEntry (in_use rules.program s.world.visible) (mark_by rules fails (view_named s.world.visible.views name) name s).entry
  mark_named fails name s = by (view_named s.world.visible.views name) refl
    where
      outcome : (out : Outcome) (v : ℕ) → IsNamedOutcome (in_use rules.program s.world.visible) (mark_outcome rules fails (marked_by out v s.world.upkeep).answer)
      outcome good v = tt
      outcome failed v = tt
      outcome (full need limit) v = tt

      marked : (v : ℕ) → IsNamedOutcome (in_use rules.program s.world.visible) (mark_outcome rules fails (marking (outcome_of rules.settings fails s.world.upkeep) v s.world.upkeep).answer)
      marked v = test (slice_index s.world.upkeep.marks v == point s.world.upkeep v)
        where
          test : (t : Bool) → IsNamedOutcome (in_use rules.program s.world.visible)
              (mark_outcome rules fails (if t then record { answer = Ok None; next = s.world.upkeep; attempted = None } else marked_by (outcome_of rules.settings fails s.world.upkeep (mark_record v s.world.upkeep)) v s.world.upkeep).answer)
          test true = tt
          test false = outcome (outcome_of rules.settings fails s.world.upkeep (mark_record v s.world.upkeep)) v

      by : (x : Option ℕ) → view_named s.world.visible.views name ≡ x → IsNamedEntry (in_use rules.program s.world.visible) (mark_by rules fails x name s).entry
      by None e = tt
      by (Some v) e =
          let found = position-Some (bytes_eq name) (map (λ (d : ViewDef). d.name) s.world.visible.views) v [] e in
          (omega (arith, found.0, length-map s.world.visible.views (λ (d : ViewDef). d.name)), marked v)

  -- ---- any event, and any legal entries
  given_named : (fails : Bool) (event : Event) (s : State) → IsSteady s.world → MayHappen rules.program s event → IsNamedEntry (in_use rules.program s.world.visible) (give rules fails event s).entry
  given_named fails (turn_of session) s steady may = turn_entry_named fails session s steady may
  given_named fails (fetch_of worker) s steady may = fetch_named worker s.world steady
  given_named fails (install_of worker) s steady may = install_named worker s.world steady
  given_named fails (release_of worker) s steady may = tt
  given_named fails (mark_of name) s steady may = mark_named fails name s
  given_named fails clean_up s steady may = tt

  entry_named : (s : State) (e : Entry) → IsSteady s.world → MayCome rules s e → IsNamedEntry (in_use rules.program s.world.visible) e
  entry_named s e steady may = by (event_of s e) may
    where
      by : (x : Option Event) → MayComeBy rules x s e → IsNamedEntry (in_use rules.program s.world.visible) e
      by None h = absurd h
      by (Some event) h = subst (IsNamedEntry (in_use rules.program s.world.visible)) h.1 (given_named (shows_failure e) event s steady h.0)

  entry_steady : (s : State) (e : Entry) → IsSteady s.world → IsSteady (after_entry rules s e).world
  entry_steady s e steady = by (event_of s e)
    where
      by : (x : Option Event) → IsSteady (after_by rules x s e).world
      by None = steady
      by (Some event) = given_steady rules (shows_failure e) event s binds limits steady

  pub entries_named : (s : State) (es : List Entry) → IsSteady s.world → Legal rules s es → AreNamed (in_use rules.program (after rules s es).world.visible) es
  entries_named s [] steady legal = tt
  entries_named s (e ∷ es) steady legal =
      let next = after_entry rules s e in
      let end = (after rules next es).world.visible in
      let more = grows_on s.world.visible next.world.visible end (entry_grows rules s e) (after_grows rules next es) in (
        entry_more (in_use rules.program s.world.visible) (in_use rules.program end) e (record { sessions = omega arith; tables = front_length s.world.visible.tables end.tables more.0; views = front_length s.world.visible.views end.views more.1 }) (entry_named s e steady legal.0),
        entries_named next es (entry_steady s e steady) legal.1,
      )
