-- What an event gives may come, and leads to the state that it gives: where the disk fails, the entry shows it.
use Rattle.std.proofs.Common.{◌≡◌, ℕ, ◌<◌, Bool, true, false, cond, List, [], ◌∷◌, map, length, get_or, Option, Some, None, refl, sym, ap, ◌∙◌, subst}
use Rattle.std.specs.Prelude.{◌⊎◌, ◌==◌, ◌+◌, nat_lt, if◌then◌else◌, option_map, slice_get, slice_index, slice_set, Result, Ok, Err}
use Rattle.std.specs.List.{cons_option, filter_map}
use Rattle.std.specs.Str.{bytes_eq}
use Rattle.std.proofs.lemmas.List.{length-map}
use Rattle.std.proofs.Math.ListN.{get_or-map}
use Rattle.std.proofs.lemmas.List.Quantifiers.{position-Some}
use Rattle.std.proofs.lemmas.Slice.Eq.{bytes_eq-Decides}
use Rattle.std.proofs.lemmas.Bool.{lt-ltb}
use mathlib.Core.Logic.{inl, inr}
use Rattle.lv_values.specs.declared.value.Value.{Value}
use Rattle.lv_schema.specs.declared.bound.Bound.{Bound}
use Rattle.lv_schema.specs.declared.bound.Bound.TheVariants as bound
use Rattle.lv_schema.specs.declared.change.Change.{Change}
use Rattle.lv_schema.specs.declared.change.Change.TheVariants.{Insert, Update, Delete}
use Rattle.lv_schema.specs.declared.fault.Fault.{Fault}
use Rattle.lv_schema.specs.declared.fault.Fault.TheVariants as fault
use Rattle.lv_schema.specs.declared.open.Open.{Open}
use Rattle.lv_schema.specs.declared.rec.Rec.{Rec}
use Rattle.lv_schema.specs.declared.table.TableDef.{TableDef}
use Rattle.lv_schema.specs.declared.view.ViewDef.{ViewDef}
use Rattle.lv_schema.specs.Cases.{Case, Outcome, good, failed, full, alone, alone_committed, answered, began, changed, changed_by, closed, committed, committed_unless, if_written, table_made, view_made, with_commit, with_count, with_table, with_view}
use Rattle.lv_schema.specs.Catalog.{view_named}
use Rattle.lv_schema.specs.Commits.{conflict_of, merged_full, last_writer}
use Rattle.lv_schema.specs.Databases.{rows_of}
use Rattle.lv_schema.specs.Effects.{change_count, change_actions, change_fault, changed_table, first_fault, first_taken, first_wide, fault_where, matching, ok_unless, option_fault}
use Rattle.lv_schema.specs.Records.{commit_record, table_record, view_record}
use Rattle.lv_schema.specs.Tasks.{pending_tasks}
use Rattle.lv_schema.specs.UpkeepCases.{Fetched, busy, idle, fetched, Installed, empty, installed, moved, fetching, installing, Marking, mark_record, marked_by, marking, need, outcome_of, with_record, with_steps}
use Rattle.lv_schema.specs.World.{Upkeep, Visible, Settings, last, no_view, point, table_at, transaction, view_at}
use Rattle.lv_plain.specs.declared.entry.Entry.TheVariants as entry
use Rattle.lv_plain.specs.declared.entry.Reply.{Reply}
use Rattle.lv_plain.specs.declared.entry.Reply.TheVariants as reply
use Rattle.lv_plain.specs.declared.event.Event.{Event}
use Rattle.lv_plain.specs.declared.event.Event.TheVariants.{Turn as turn_of, Fetch as fetch_of, Install as install_of, Release as release_of, Mark as mark_of, Clean as clean_up}
use Rattle.lv_plain.specs.GivenEntries.{BlamesNoDisk}
use Rattle.lv_plain.specs.Legal.{is_store, reply_fails, mark_fails, shows_failure, event_of, MayHappen, MayCome, MayComeBy, after_by, after_entry}
use Rattle.lv_plain.specs.Machine.{Given, State, fetch_entry, give, install_entry, mark_by, mark_outcome, steps_of, with_upkeep}
use Rattle.lv_plain.specs.Programs.{next_line}
use Rattle.lv_plain.specs.Rules.{Rules}
use Rattle.lv_plain.specs.Turns.{Turn, bound_line, bound_turn, is_open, read_turn, reply_or, turn_by}
use Rattle.lv_plain.specs.WrittenRecords.{answered_record, marked_record, written_by}

-- ---- faults that do not blame the disk
abbrev IsFree : Option Fault → Type 0
IsFree None = Unit {0}
IsFree (Some f) = is_store f ≡ false

abbrev AnswersFree : {A : Type 0} → Result A Fault → Type 0
AnswersFree (Ok a) = Unit {0}
AnswersFree (Err f) = is_store f ≡ false

first_free : (a b : Option Fault) → IsFree a → IsFree b → IsFree (first_fault a b)
first_free None b ha hb = hb
first_free (Some f) b ha hb = ha

made_free : {A : Type 0} (make : A → Fault) (o : Option A) → ((a : A) → is_store (make a) ≡ false) → IsFree (option_fault make o)
made_free make None h = tt
made_free make (Some a) h = h a

mapped_free : {A : Type 0} (make : A → Fault) (o : Option A) → ((a : A) → is_store (make a) ≡ false) → IsFree (option_map make o)
mapped_free make None h = tt
mapped_free make (Some a) h = h a

where_free : (b : Bool) (f : Fault) → is_store f ≡ false → IsFree (fault_where b f)
where_free true f h = h
where_free false f h = tt

found_free : {X : Type 0} (f : X → Option Fault) → ((x : X) → IsFree (f x)) → (xs : List X) → IsFree (slice_get (filter_map f xs) 0)
found_free f h [] = tt
found_free f h (x ∷ xs) = by (f x) (h x) (found_free f h xs)
  where
    by : (o : Option Fault) → IsFree o → IsFree (slice_get (filter_map f xs) 0) → IsFree (slice_get (cons_option o (filter_map f xs)) 0)
    by None is rest = rest
    by (Some found) is rest = is

change_free : (def : TableDef) (change : Change) (rows : List (List Value)) → IsFree (change_fault def change rows)
change_free def (Insert table new) rows =
    first_free (option_fault (fault.Duplicate table) (first_taken def.key rows new)) (fault_where (nat_lt 65535 (length rows + length new)) (fault.TableFull table))
    (made_free (fault.Duplicate table) (first_taken def.key rows new) (λ key. refl)) (where_free (nat_lt 65535 (length rows + length new)) (fault.TableFull table) refl)
change_free def (Update table sets c) rows = made_free fault.Range (first_wide sets (matching c rows)) (λ number. refl)
change_free def (Delete table c) rows = tt

abbrev refusal : Visible → Open → Option Fault
refusal s o = first_fault (conflict_of s o) (merged_full s o)

refusal_free : (s : Visible) (o : Open) → IsFree (refusal s o)
refusal_free s o =
    first_free (conflict_of s o) (merged_full s o)
    (found_free (λ at. option_map (fault.Conflict at.0 at.1) (last_writer s o.snapshot at)) (λ at. mapped_free (fault.Conflict at.0 at.1) (last_writer s o.snapshot at) (λ commit. refl)) _)
    (mapped_free fault.MergedFull _ (λ t. refl))

-- ---- the cases, where the disk does not fail
module _ (settings : Settings) (u : Upkeep) where
  abbrev outcome : Rec → Outcome
  outcome = outcome_of settings false u

  written_free : {A : Type 0} (rec : Rec) (a : A) (next s : Visible) → AnswersFree (if_written (outcome rec) rec a next s).answer
  written_free rec a next s = by (nat_lt settings.limit (need u rec))
    where
      by : (b : Bool) → AnswersFree (if_written (if b then full (need u rec) settings.limit else good) rec a next s).answer
      by true = refl
      by false = tt

  changed_free : (session : ℕ) (change : Change) (s : Visible) → AnswersFree (changed session change s).answer
  changed_free session change s = by (change_fault (table_at s.tables (changed_table change)) change (rows_of o.own (changed_table change))) (change_free (table_at s.tables (changed_table change)) change (rows_of o.own (changed_table change)))
    where
      o : Open
      o = transaction session s

      rows : List (List Value)
      rows = rows_of o.own (changed_table change)

      by : (f : Option Fault) → IsFree f → AnswersFree (changed_by (ok_unless f (record { count = change_count change rows; actions = change_actions change rows })) session o s).answer
      by None is = tt
      by (Some f) is = is

  committed_free : (session : ℕ) (s : Visible) → AnswersFree (committed outcome session s).answer
  committed_free session s = by (length o.actions == 0)
    where
      o : Open
      o = transaction session s

      unless : (f : Option Fault) → IsFree f → AnswersFree (committed_unless f outcome session o s).answer
      unless None is = written_free (commit_record o s) (Some (last s + 1)) (with_commit session o s) s
      unless (Some f) is = is

      by : (b : Bool) → AnswersFree (cond {A = Case (Option ℕ)} b (answered None (closed session s)) (committed_unless (refusal s o) outcome session o s)).answer
      by true = tt
      by false = unless (refusal s o) (refusal_free s o)

  alone_free : (session : ℕ) (change : Change) (s begun : Visible) → (answer : Result ℕ Fault) → AnswersFree answer → AnswersFree (alone_committed answer outcome session begun s).answer
  alone_free session change s begun (Err f) is = is
  alone_free session change s begun (Ok count) is = by (committed outcome session begun).answer (committed_free session begun)
    where
      by : (answer : Result (Option ℕ) Fault) → AnswersFree answer → AnswersFree (with_count count answer (committed outcome session begun) s).answer
      by (Ok number) is = tt
      by (Err f) is = is

  reply_free : {A : Type 0} (make : A → Reply) (answer : Result A Fault) → ((a : A) → reply_fails (make a) ≡ false) → AnswersFree answer → reply_fails (reply_or make answer) ≡ false
  reply_free make (Ok a) h is = h a
  reply_free make (Err f) h is = is

  pub bound_free : (tasks : List (ℕ × ℕ)) (session : ℕ) (statement : Bound) (s : Visible) → reply_fails (bound_turn outcome tasks session statement s).reply ≡ false
  bound_free tasks session (bound.Table def) s = reply_free {A = Unit {0}} (λ _. reply.Made) (table_made outcome def s).answer (λ _. refl) (written_free {A = Unit {0}} (table_record def) tt (with_table def s) s)
  bound_free tasks session (bound.View def) s = reply_free {A = Unit {0}} (λ _. reply.Made) (view_made outcome def s).answer (λ _. refl) (written_free {A = Unit {0}} (view_record def s) tt (with_view def s) s)
  bound_free tasks session (bound.Change change) s = by (is_open session s)
    where
      by : (b : Bool) → reply_fails (if b then turn_by reply.Changed (changed session change s) else turn_by (λ done. reply.Alone done.0 done.1) (alone outcome session change s)).reply ≡ false
      by true = reply_free reply.Changed (changed session change s).answer (λ _. refl) (changed_free session change s)
      by false = reply_free (λ done. reply.Alone done.0 done.1) (alone outcome session change s).answer (λ _. refl)
          (alone_free session change s (changed session change (began session s).next).next (changed session change (began session s).next).answer (changed_free session change (began session s).next))
  bound_free tasks session (bound.Query query) s = refl
  bound_free tasks session (bound.Begin) s = refl
  bound_free tasks session (bound.Commit) s = reply_free reply.Committed (committed outcome session s).answer (λ _. refl) (committed_free session s)
  bound_free tasks session (bound.Rollback) s = refl
  bound_free tasks session (bound.Tasks) s = refl

  read_free : (tasks : List (ℕ × ℕ)) (session : ℕ) (line : Result Bound Fault) (s : Visible) → AnswersFree line → reply_fails (read_turn outcome tasks session line s).reply ≡ false
  read_free tasks session (Ok b) s is = bound_free tasks session b s
  read_free tasks session (Err f) s is = is

-- ---- the cases, where the disk fails: the failure shows, or all is as without it
abbrev BlamesDisk : {A : Type 0} → Result A Fault → Type 0
BlamesDisk (Ok a) = ⊥
BlamesDisk (Err f) = is_store f ≡ true

abbrev IsTold : {A : Type 0} → Case A → Case A → Type 0
IsTold failing c = BlamesDisk failing.answer ⊎ (failing ≡ c)

abbrev IsToldTurn : Turn → Turn → Type 0
IsToldTurn failing t = (reply_fails failing.reply ≡ true) ⊎ (failing ≡ t)

reply_blames : {A : Type 0} (make : A → Reply) (answer : Result A Fault) → BlamesDisk answer → reply_fails (reply_or make answer) ≡ true
reply_blames make (Ok a) h = absurd h
reply_blames make (Err f) h = h

turn_told : {A : Type 0} (make : A → Reply) (failing c : Case A) → IsTold failing c → IsToldTurn (turn_by make failing) (turn_by make c)
turn_told make failing c (inl h) = inl (reply_blames make failing.answer h)
turn_told make failing c (inr e) = inr (ap (λ d. turn_by make d) e)

count_blames : (count : ℕ) (answer : Result (Option ℕ) Fault) (commit : Case (Option ℕ)) (s : Visible) → BlamesDisk answer → BlamesDisk (with_count count answer commit s).answer
count_blames count (Ok number) commit s h = absurd h
count_blames count (Err f) commit s h = h

counted_told : (count : ℕ) (failing c : Case (Option ℕ)) (s : Visible) → IsTold failing c → IsTold (with_count count failing.answer failing s) (with_count count c.answer c s)
counted_told count failing c s (inl h) = inl (count_blames count failing.answer failing s h)
counted_told count failing c s (inr e) = inr (ap (λ (d : Case (Option ℕ)). with_count count d.answer d s) e)

module _ (settings : Settings) (u : Upkeep) where
  abbrev outcome_if : Bool → Rec → Outcome
  outcome_if fails = outcome_of settings fails u

  written_told : {A : Type 0} (rec : Rec) (a : A) (next s : Visible) → IsTold (if_written (outcome_if true rec) rec a next s) (if_written (outcome_if false rec) rec a next s)
  written_told {A} rec a next s = by (nat_lt settings.limit (need u rec))
    where
      by : (b : Bool) → IsTold {A = A} (if_written (if b then full (need u rec) settings.limit else failed) rec a next s) (if_written (if b then full (need u rec) settings.limit else good) rec a next s)
      by true = inr refl
      by false = inl refl

  committed_told : (session : ℕ) (s : Visible) → IsTold (committed (outcome_if true) session s) (committed (outcome_if false) session s)
  committed_told session s = by (length o.actions == 0)
    where
      o : Open
      o = transaction session s

      unless : (f : Option Fault) → IsTold (committed_unless f (outcome_if true) session o s) (committed_unless f (outcome_if false) session o s)
      unless None = written_told (commit_record o s) (Some (last s + 1)) (with_commit session o s) s
      unless (Some f) = inr refl

      by : (b : Bool) → IsTold (cond {A = Case (Option ℕ)} b (answered None (closed session s)) (committed_unless (refusal s o) (outcome_if true) session o s))
          (cond {A = Case (Option ℕ)} b (answered None (closed session s)) (committed_unless (refusal s o) (outcome_if false) session o s))
      by true = inr refl
      by false = unless (refusal s o)

  alone_told : (session : ℕ) (s begun : Visible) (answer : Result ℕ Fault) → IsTold (alone_committed answer (outcome_if true) session begun s) (alone_committed answer (outcome_if false) session begun s)
  alone_told session s begun (Err f) = inr refl
  alone_told session s begun (Ok count) = counted_told count (committed (outcome_if true) session begun) (committed (outcome_if false) session begun) s (committed_told session begun)

  bound_told : (tasks : List (ℕ × ℕ)) (session : ℕ) (statement : Bound) (s : Visible) → IsToldTurn (bound_turn (outcome_if true) tasks session statement s) (bound_turn (outcome_if false) tasks session statement s)
  bound_told tasks session (bound.Table def) s =
      turn_told {A = Unit {0}} (λ _. reply.Made) (table_made (outcome_if true) def s) (table_made (outcome_if false) def s) (written_told {A = Unit {0}} (table_record def) tt (with_table def s) s)
  bound_told tasks session (bound.View def) s =
      turn_told {A = Unit {0}} (λ _. reply.Made) (view_made (outcome_if true) def s) (view_made (outcome_if false) def s) (written_told {A = Unit {0}} (view_record def s) tt (with_view def s) s)
  bound_told tasks session (bound.Change change) s = by (is_open session s)
    where
      first : Case ℕ
      first = changed session change (began session s).next

      by : (b : Bool) → IsToldTurn (if b then turn_by reply.Changed (changed session change s) else turn_by (λ done. reply.Alone done.0 done.1) (alone (outcome_if true) session change s))
          (if b then turn_by reply.Changed (changed session change s) else turn_by (λ done. reply.Alone done.0 done.1) (alone (outcome_if false) session change s))
      by true = inr refl
      by false = turn_told (λ done. reply.Alone done.0 done.1) (alone (outcome_if true) session change s) (alone (outcome_if false) session change s) (alone_told session s first.next first.answer)
  bound_told tasks session (bound.Query query) s = inr refl
  bound_told tasks session (bound.Begin) s = inr refl
  bound_told tasks session (bound.Commit) s = turn_told reply.Committed (committed (outcome_if true) session s) (committed (outcome_if false) session s) (committed_told session s)
  bound_told tasks session (bound.Rollback) s = inr refl
  bound_told tasks session (bound.Tasks) s = inr refl

  read_told : (tasks : List (ℕ × ℕ)) (session : ℕ) (line : Result Bound Fault) (s : Visible) → IsToldTurn (read_turn (outcome_if true) tasks session line s) (read_turn (outcome_if false) tasks session line s)
  read_told tasks session (Ok b) s = bound_told tasks session b s
  read_told tasks session (Err f) s = inr refl

-- ---- a view that a name stands for
named_view : (views : List ViewDef) (name : List ℕ) (v : ℕ) → view_named views name ≡ Some v → (v < length views) × ((view_at views v).name ≡ name)
named_view views name v e =
    let found = position-Some (bytes_eq name) (map (λ (w : ViewDef). w.name) views) v [] e in
    let same : name ≡ get_or (map (λ (w : ViewDef). w.name) views) v [] = (bytes_eq-Decides name (get_or (map (λ (w : ViewDef). w.name) views) v [])).0 found.1 in
    (subst (λ n. v < n) (length-map views (λ (w : ViewDef). w.name)) found.0, sym (same ∙ get_or-map (λ (w : ViewDef). w.name) views v no_view))

-- ---- the event of the entry that an event gives
module _ (rules : Rules) (fails : Bool) where
  pub its_event : (event : Event) (s : State) → event_of s (give rules fails event s).entry ≡ Some event
  its_event (turn_of session) s = refl
  its_event (fetch_of worker) s = by (fetching rules.settings worker s.world).0
    where
      by : (f : Fetched) → event_of s (fetch_entry rules fails worker f) ≡ Some (fetch_of worker)
      by busy = refl
      by idle = refl
      by (fetched f) = refl
  its_event (install_of worker) s = by (installing worker s.world.upkeep).0
    where
      by : (i : Installed) → event_of s (install_entry rules fails worker i) ≡ Some (install_of worker)
      by empty = refl
      by (installed f) = refl
      by (moved f at) = refl
  its_event (release_of worker) s = refl
  its_event (mark_of name) s = by (view_named s.world.visible.views name) refl
    where
      by : (v : Option ℕ) → view_named s.world.visible.views name ≡ v → event_of s (mark_by rules fails v name s).entry ≡ Some (mark_of name)
      by None e = refl
      by (Some v) e =
          let is = named_view s.world.visible.views name v e in
          rw (lt-ltb v (length s.world.visible.views) is.0) (ap (λ n. Some (mark_of n)) is.1)
  its_event clean_up s = refl

-- ---- a mark
module _ (rules : Rules) (v : ℕ) (s : State) where
  abbrev mark_given : Bool → Marking → Given
  mark_given fails m = record { entry = entry.Marked v (mark_outcome rules fails m.answer); next = with_upkeep s m.next }

  abbrev marking_if : Bool → Marking
  marking_if fails = marking (outcome_of rules.settings fails s.world.upkeep) v s.world.upkeep

  pub mark_free : mark_fails (mark_outcome rules false (marking_if false).answer) ≡ false
  mark_free = by (slice_index s.world.upkeep.marks v == point s.world.upkeep v)
    where
      u : Upkeep
      u = s.world.upkeep

      kept : (b : Bool) → mark_fails (mark_outcome rules false (marked_by (if b then full (need u (mark_record v u)) rules.settings.limit else good) v u).answer) ≡ false
      kept true = refl
      kept false = refl

      by : (b : Bool) → mark_fails (mark_outcome rules false (if b then record { answer = Ok None; next = u; attempted = None } else marked_by (outcome_of rules.settings false u (mark_record v u)) v u).answer) ≡ false
      by true = refl
      by false = kept (nat_lt rules.settings.limit (need u (mark_record v u)))

  mark_told : (mark_fails (mark_outcome rules true (marking_if true).answer) ≡ true) ⊎ (marking_if true ≡ marking_if false)
  mark_told = by (slice_index s.world.upkeep.marks v == point s.world.upkeep v)
    where
      u : Upkeep
      u = s.world.upkeep

      kept_if : Bool → Bool → Marking
      kept_if b fails = marked_by (if b then full (need u (mark_record v u)) rules.settings.limit else if fails then failed else good) v u

      kept : (b : Bool) → (mark_fails (mark_outcome rules true (kept_if b true).answer) ≡ true) ⊎ (kept_if b true ≡ kept_if b false)
      kept true = inr refl
      kept false = inl refl

      marked_if : Bool → Bool → Marking
      marked_if b fails = if b then record { answer = Ok None; next = u; attempted = None } else marked_by (outcome_of rules.settings fails u (mark_record v u)) v u

      by : (b : Bool) → (mark_fails (mark_outcome rules true (marked_if b true).answer) ≡ true) ⊎ (marked_if b true ≡ marked_if b false)
      by true = inr refl
      by false = kept (nat_lt rules.settings.limit (need u (mark_record v u)))

-- ---- where the disk fails, the entry shows it, or all is as without a failure
module _ (rules : Rules) where
  abbrev IsToldEvent : Event → State → Type 0
  IsToldEvent event s = (shows_failure (give rules true event s).entry ≡ true)
      ⊎ ((give rules true event s ≡ give rules false event s) × (written_by rules true event s ≡ written_by rules false event s))

  pub told : (event : Event) (s : State) → IsToldEvent event s
  told (turn_of session) s = by (turn_if true) (turn_if false) (read_told rules.settings s.world.upkeep (pending_tasks s.world) session line s.world.visible)
    where
      line : Result Bound Fault
      line = bound_line rules.reading session (next_line rules.program s.places session) s.world.visible

      turn_if : Bool → Turn
      turn_if fails = read_turn (outcome_of rules.settings fails s.world.upkeep) (pending_tasks s.world) session line s.world.visible

      given_if : Turn → Given
      given_if t =
          let place = slice_index s.places session in
          let steps = steps_of rules.settings session line s.world in
          record {
            entry = entry.Session session (place + 1) steps t.reply;
            next = record { world = record { visible = t.next; upkeep = with_record t.written (with_steps steps s.world.upkeep) }; places = slice_set s.places session (place + 1) };
          }

      by : (failing t : Turn) → IsToldTurn failing t → (reply_fails failing.reply ≡ true) ⊎ ((given_if failing ≡ given_if t) × (failing.written ≡ t.written))
      by failing t (inl h) = inl h
      by failing t (inr e) = inr (ap (λ t. given_if t) e, ap (λ (t : Turn). t.written) e)
  told (fetch_of worker) s = inr (refl, refl)
  told (install_of worker) s = inr (refl, refl)
  told (release_of worker) s = inr (refl, refl)
  told (mark_of name) s = by (view_named s.world.visible.views name)
    where
      marked : (v : ℕ) (failing m : Marking) → (mark_fails (mark_outcome rules true failing.answer) ≡ true) ⊎ (failing ≡ m)
          → (mark_fails (mark_outcome rules true failing.answer) ≡ true)
          ⊎ ((mark_given rules v s true failing ≡ mark_given rules v s false m) × (answered_record rules true failing.answer v s.world.upkeep ≡ answered_record rules false m.answer v s.world.upkeep))
      marked v failing m (inl h) = inl h
      marked v failing m (inr e) = inr (ap (mark_given rules v s true) e, ap (λ (m : Marking). answered_record rules true m.answer v s.world.upkeep) e)

      by : (v : Option ℕ) → (shows_failure (mark_by rules true v name s).entry ≡ true)
          ⊎ ((mark_by rules true v name s ≡ mark_by rules false v name s) × (marked_record rules true v s ≡ marked_record rules false v s))
      by None = inr (refl, refl)
      by (Some v) = marked v (marking_if rules v s true) (marking_if rules v s false) (mark_told rules v s)
  told clean_up s = inr (refl, refl)

-- ---- what an event gives
module _ (rules : Rules) (free : BlamesNoDisk rules.reading) where
  line_free : (session : ℕ) (s : State) → (r : Result Bound Fault) → bound_line rules.reading session (next_line rules.program s.places session) s.world.visible ≡ r → AnswersFree r
  line_free session s (Ok b) e = tt
  line_free session s (Err f) e = free s.world.visible.tables s.world.visible.views (session == 0) (is_open session s.world.visible) (next_line rules.program s.places session) f e

  -- no entry shows a failure where the disk does not fail
  pub shown : (event : Event) (s : State) → shows_failure (give rules false event s).entry ≡ false
  shown (turn_of session) s =
      read_free rules.settings s.world.upkeep (pending_tasks s.world) session (bound_line rules.reading session (next_line rules.program s.places session) s.world.visible) s.world.visible
      (line_free session s (bound_line rules.reading session (next_line rules.program s.places session) s.world.visible) refl)
  shown (fetch_of worker) s = by (fetching rules.settings worker s.world).0
    where
      by : (f : Fetched) → shows_failure (fetch_entry rules false worker f) ≡ false
      by busy = refl
      by idle = refl
      by (fetched f) = refl
  shown (install_of worker) s = by (installing worker s.world.upkeep).0
    where
      by : (i : Installed) → shows_failure (install_entry rules false worker i) ≡ false
      by empty = refl
      by (installed f) = refl
      by (moved f at) = refl
  shown (release_of worker) s = refl
  shown (mark_of name) s = by (view_named s.world.visible.views name)
    where
      by : (v : Option ℕ) → shows_failure (mark_by rules false v name s).entry ≡ false
      by None = refl
      by (Some v) = mark_free rules v s
  shown clean_up s = refl

  -- the outcome that an entry shows gives the same
  same_shown : (fails : Bool) (event : Event) (s : State) → give rules (shows_failure (give rules fails event s).entry) event s ≡ give rules fails event s
  same_shown false event s = ap (λ b. give rules b event s) (shown event s)
  same_shown true event s = by (told rules event s)
    where
      by : IsToldEvent rules event s → give rules (shows_failure (give rules true event s).entry) event s ≡ give rules true event s
      by (inl shows) = ap (λ b. give rules b event s) shows
      by (inr same) = ap (λ b. give rules b event s) (ap (λ (g : Given). shows_failure g.entry) same.0 ∙ shown event s) ∙ sym same.0

  came : (event : Event) (s : State) (o : Option Event) (given : Given) → o ≡ Some event → MayHappen rules.program s event → give rules (shows_failure given.entry) event s ≡ given
      → MayComeBy rules o s given.entry × (after_by rules o s given.entry ≡ given.next)
  came event s o given is may same =
      subst (λ o. MayComeBy rules o s given.entry × (after_by rules o s given.entry ≡ given.next)) (sym is)
      ((may, ap (λ (g : Given). g.entry) same), ap (λ (g : Given). g.next) same)

  pub given_comes : (fails : Bool) (event : Event) (s : State) → MayHappen rules.program s event
      → MayCome rules s (give rules fails event s).entry × (after_entry rules s (give rules fails event s).entry ≡ (give rules fails event s).next)
  given_comes fails event s may =
      came event s (event_of s (give rules fails event s).entry) (give rules fails event s) (its_event rules fails event s) may (same_shown fails event s)
