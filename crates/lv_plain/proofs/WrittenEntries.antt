-- The record of an entry is the one that its event writes, and an event whose entry shows a failure writes none.
use Rattle.std.proofs.Common.{◌≡◌, ℕ, ◌+◌, Bool, true, false, cond, List, [], ◌∷◌, ◌++◌, length, Option, Some, None, refl, sym, ap, ◌∙◌}
use Rattle.std.specs.Prelude.{◌⊎◌, ◌==◌, nat_lt, if◌then◌else◌, slice_index, Result, Ok, Err}
use Rattle.std.specs.List.{cons_option}
use mathlib.Core.Logic.{inl, inr}
use Rattle.lv_schema.specs.declared.bound.Bound.{Bound}
use Rattle.lv_schema.specs.declared.bound.Bound.TheVariants as bound
use Rattle.lv_schema.specs.declared.change.Change.{Change}
use Rattle.lv_schema.specs.declared.fault.Fault.{Fault}
use Rattle.lv_schema.specs.declared.open.Open.{Open}
use Rattle.lv_schema.specs.declared.rec.Rec.{Rec}
use Rattle.lv_schema.specs.Cases.{Case, Outcome, failed, full, alone, alone_committed, answered, began, changed, changed_by, closed, committed, committed_unless, if_written, with_commit, with_count, with_table, with_view}
use Rattle.lv_schema.specs.Catalog.{view_named}
use Rattle.lv_schema.specs.Commits.{conflict_of, merged_full}
use Rattle.lv_schema.specs.Effects.{Effect, effect_of, first_fault}
use Rattle.lv_schema.specs.Records.{commit_record, table_record, view_record}
use Rattle.lv_schema.specs.Tasks.{pending_tasks}
use Rattle.lv_schema.specs.UpkeepCases.{mark_record, marked_by, need, outcome_of}
use Rattle.lv_schema.specs.World.{Upkeep, Visible, Settings, last, point, transaction}
use Rattle.lv_plain.specs.declared.entry.Entry.{Entry}
use Rattle.lv_plain.specs.declared.entry.Reply.TheVariants as reply
use Rattle.lv_plain.specs.declared.event.Event.{Event}
use Rattle.lv_plain.specs.declared.event.Event.TheVariants.{Turn as turn_of, Fetch as fetch_of, Install as install_of, Release as release_of, Mark as mark_of, Clean as clean_up}
use Rattle.lv_plain.specs.Legal.{after, after_entry, reply_fails, shows_failure}
use Rattle.lv_plain.specs.Machine.{State, give, mark_by}
use Rattle.lv_plain.specs.Programs.{next_line}
use Rattle.lv_plain.specs.Rules.{Rules}
use Rattle.lv_plain.specs.Turns.{bound_line, bound_turn, is_open, read_turn, turn_by}
use Rattle.lv_plain.specs.WrittenRecords.{answered_record, entry_record, marked_record, record_by, records_of, written_by}
use Rattle.lv_plain.proofs.GivenEntries.{bound_free, its_event, mark_free, told}

differ : false ≡ true → ⊥
differ e = cc

-- ---- where the disk fails, no statement writes a record
module _ (settings : Settings) (u : Upkeep) where
  abbrev failing : Rec → Outcome
  failing = outcome_of settings true u

  written_none : {A : Type 0} (rec : Rec) (a : A) (next s : Visible) → (if_written (failing rec) rec a next s).written ≡ None
  written_none rec a next s = by (nat_lt settings.limit (need u rec))
    where
      by : (b : Bool) → (if_written (if b then full (need u rec) settings.limit else failed) rec a next s).written ≡ None
      by true = refl
      by false = refl

  committed_none : (session : ℕ) (s : Visible) → (committed failing session s).written ≡ None
  committed_none session s = by (length o.actions == 0)
    where
      o : Open
      o = transaction session s

      unless : (f : Option Fault) → (committed_unless f failing session o s).written ≡ None
      unless None = written_none (commit_record o s) (Some (last s + 1)) (with_commit session o s) s
      unless (Some f) = refl

      by : (b : Bool) → (cond {A = Case (Option ℕ)} b (answered None (closed session s)) (committed_unless (first_fault (conflict_of s o) (merged_full s o)) failing session o s)).written ≡ None
      by true = refl
      by false = unless (first_fault (conflict_of s o) (merged_full s o))

  alone_none : (session : ℕ) (s begun : Visible) (answer : Result ℕ Fault) → (alone_committed answer failing session begun s).written ≡ None
  alone_none session s begun (Err f) = refl
  alone_none session s begun (Ok count) = by (committed failing session begun).answer
    where
      by : (answer : Result (Option ℕ) Fault) → (with_count count answer (committed failing session begun) s).written ≡ None
      by (Ok number) = committed_none session begun
      by (Err f) = refl

  changed_none : (session : ℕ) (change : Change) (s : Visible) → (changed session change s).written ≡ None
  changed_none session change s = by (effect_of s.tables change (transaction session s).own)
    where
      by : (r : Result Effect Fault) → (changed_by r session (transaction session s) s).written ≡ None
      by (Ok effect) = refl
      by (Err f) = refl

  bound_none : (tasks : List (ℕ × ℕ)) (session : ℕ) (statement : Bound) (s : Visible) → (bound_turn failing tasks session statement s).written ≡ None
  bound_none tasks session (bound.Table def) s = written_none {A = Unit {0}} (table_record def) tt (with_table def s) s
  bound_none tasks session (bound.View def) s = written_none {A = Unit {0}} (view_record def s) tt (with_view def s) s
  bound_none tasks session (bound.Change change) s = by (is_open session s)
    where
      first : Case ℕ
      first = changed session change (began session s).next

      by : (b : Bool) → (if b then turn_by reply.Changed (changed session change s) else turn_by (λ done. reply.Alone done.0 done.1) (alone failing session change s)).written ≡ None
      by true = changed_none session change s
      by false = alone_none session s first.next first.answer
  bound_none tasks session (bound.Query query) s = refl
  bound_none tasks session (bound.Begin) s = refl
  bound_none tasks session (bound.Commit) s = committed_none session s
  bound_none tasks session (bound.Rollback) s = refl
  bound_none tasks session (bound.Tasks) s = refl

  read_none : (tasks : List (ℕ × ℕ)) (session : ℕ) (line : Result Bound Fault) (s : Visible) → (read_turn failing tasks session line s).written ≡ None
  read_none tasks session (Ok b) s = bound_none tasks session b s
  read_none tasks session (Err f) s = refl

module _ (rules : Rules) where
  -- ---- events
  failing_none : (event : Event) (s : State) → written_by rules true event s ≡ None
  failing_none (turn_of session) s = read_none rules.settings s.world.upkeep (pending_tasks s.world) session (bound_line rules.reading session (next_line rules.program s.places session) s.world.visible) s.world.visible
  failing_none (fetch_of worker) s = refl
  failing_none (install_of worker) s = refl
  failing_none (release_of worker) s = refl
  failing_none (mark_of name) s = by (view_named s.world.visible.views name)
    where
      u : Upkeep
      u = s.world.upkeep

      kept : (b : Bool) (v : ℕ) → answered_record rules true (marked_by (if b then full (need u (mark_record v u)) rules.settings.limit else failed) v u).answer v u ≡ None
      kept true v = refl
      kept false v = refl

      marked : (b : Bool) (v : ℕ) → answered_record rules true (if b then record { answer = Ok None; next = u; attempted = None } else marked_by (outcome_of rules.settings true u (mark_record v u)) v u).answer v u ≡ None
      marked true v = refl
      marked false v = kept (nat_lt rules.settings.limit (need u (mark_record v u))) v

      by : (v : Option ℕ) → marked_record rules true v s ≡ None
      by None = refl
      by (Some v) = marked (slice_index u.marks v == point u v) v
  failing_none clean_up s = refl

  -- an event whose entry shows a failure writes no record
  pub failed_none : (fails : Bool) (event : Event) (s : State) → shows_failure (give rules fails event s).entry ≡ true → written_by rules fails event s ≡ None
  failed_none true event s shows = failing_none event s
  failed_none false (turn_of session) s shows = by (bound_line rules.reading session (next_line rules.program s.places session) s.world.visible) shows
    where
      by : (line : Result Bound Fault) → reply_fails (read_turn (outcome_of rules.settings false s.world.upkeep) (pending_tasks s.world) session line s.world.visible).reply ≡ true
          → (read_turn (outcome_of rules.settings false s.world.upkeep) (pending_tasks s.world) session line s.world.visible).written ≡ None
      by (Ok b) shows = let free = bound_free rules.settings s.world.upkeep (pending_tasks s.world) session b s.world.visible in absurd (differ (sym free ∙ shows))
      by (Err f) shows = refl
  failed_none false (fetch_of worker) s shows = refl
  failed_none false (install_of worker) s shows = refl
  failed_none false (release_of worker) s shows = refl
  failed_none false (mark_of name) s shows = by (view_named s.world.visible.views name) shows
    where
      by : (v : Option ℕ) → shows_failure (mark_by rules false v name s).entry ≡ true → marked_record rules false v s ≡ None
      by None shows = refl
      by (Some v) shows = absurd (differ (sym (mark_free rules v s) ∙ shows))
  failed_none false clean_up s shows = refl

  -- the failure that an entry shows gives the same record
  record_shown : (fails : Bool) (event : Event) (s : State) → written_by rules (shows_failure (give rules fails event s).entry) event s ≡ written_by rules fails event s
  record_shown false event s = by (shows_failure (give rules false event s).entry) refl
    where
      by : (b : Bool) → shows_failure (give rules false event s).entry ≡ b → written_by rules b event s ≡ written_by rules false event s
      by true shows = failing_none event s ∙ sym (failed_none false event s shows)
      by false shows = refl
  record_shown true event s = by (told rules event s)
    where
      either : (b : Bool) → written_by rules true event s ≡ written_by rules false event s → written_by rules b event s ≡ written_by rules true event s
      either true same = refl
      either false same = sym same

      by : (shows_failure (give rules true event s).entry ≡ true) ⊎ ((give rules true event s ≡ give rules false event s) × (written_by rules true event s ≡ written_by rules false event s))
          → written_by rules (shows_failure (give rules true event s).entry) event s ≡ written_by rules true event s
      by (inl shows) = ap (λ b. written_by rules b event s) shows
      by (inr same) = either (shows_failure (give rules true event s).entry) same.1

  -- the record of the entry that an event gives
  pub given_record : (fails : Bool) (event : Event) (s : State) → entry_record rules s (give rules fails event s).entry ≡ written_by rules fails event s
  given_record fails event s = ap (λ o. record_by rules o s (give rules fails event s).entry) (its_event rules fails event s) ∙ record_shown fails event s

  -- ---- lists of entries
  option-append : (o : Option Rec) (xs ys : List Rec) → cons_option o (xs ++ ys) ≡ cons_option o xs ++ ys
  option-append None xs ys = refl
  option-append (Some rec) xs ys = refl

  pub records_of-append : (s : State) (es fs : List Entry) → records_of rules s (es ++ fs) ≡ records_of rules s es ++ records_of rules (after rules s es) fs
  records_of-append s [] fs = refl
  records_of-append s (e ∷ es) fs =
      ap (cons_option (entry_record rules s e)) (records_of-append (after_entry rules s e) es fs)
      ∙ option-append (entry_record rules s e) (records_of rules (after_entry rules s e) es) (records_of rules (after rules s (e ∷ es)) fs)
