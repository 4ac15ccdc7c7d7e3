-- No event drops a table or a view.
use Rattle.std.proofs.Common.{ℕ, ◌+◌, ◌≤◌, Bool, true, false, cond, List, [], ◌∷◌, ◌++◌, length, Option, Some, None, refl, sym, ap, ◌∙◌, arith}
use Rattle.std.specs.Prelude.{◌==◌, if◌then◌else◌, Result, Ok, Err}
use Rattle.std.proofs.lemmas.List.{append-nil, append_assoc, length-append}
use Rattle.lv_schema.specs.declared.bound.Bound.{Bound}
use Rattle.lv_schema.specs.declared.bound.Bound.TheVariants as bound
use Rattle.lv_schema.specs.declared.change.Change.{Change}
use Rattle.lv_schema.specs.declared.fault.Fault.{Fault}
use Rattle.lv_schema.specs.declared.open.Open.{Open}
use Rattle.lv_schema.specs.declared.rec.Rec.{Rec}
use Rattle.lv_schema.specs.declared.table.TableDef.{TableDef}
use Rattle.lv_schema.specs.declared.view.ViewDef.{ViewDef}
use Rattle.lv_schema.specs.Cases.{Outcome, good, failed, full, Case, alone, alone_committed, answered, began, changed, changed_by, closed, committed, committed_unless, if_written, with_commit, with_count, with_table, with_view}
use Rattle.lv_schema.specs.Catalog.{view_named}
use Rattle.lv_schema.specs.Commits.{conflict_of, merged_full}
use Rattle.lv_schema.specs.Effects.{Effect, effect_of, first_fault}
use Rattle.lv_schema.specs.Records.{commit_record, table_record, view_record}
use Rattle.lv_schema.specs.Tasks.{pending_tasks}
use Rattle.lv_schema.specs.UpkeepCases.{outcome_of}
use Rattle.lv_schema.specs.World.{Visible, last, transaction}
use Rattle.lv_plain.specs.declared.entry.Entry.{Entry}
use Rattle.lv_plain.specs.declared.entry.Reply.TheVariants.{Changed, Alone}
use Rattle.lv_plain.specs.declared.event.Event.{Event}
use Rattle.lv_plain.specs.declared.event.Event.TheVariants.{Turn as turn_of, Fetch as fetch_of, Install as install_of, Release as release_of, Mark as mark_of, Clean as clean_up}
use Rattle.lv_plain.specs.Fronts.{IsFront}
use Rattle.lv_plain.specs.Legal.{after, after_by, after_entry, event_of, shows_failure}
use Rattle.lv_plain.specs.Machine.{State, give, mark_by}
use Rattle.lv_plain.specs.Programs.{next_line}
use Rattle.lv_plain.specs.Rules.{Rules}
use Rattle.lv_plain.specs.Turns.{bound_line, bound_turn, is_open, read_turn, turn_by}

front_itself : {A : Type 0} (xs : List A) → IsFront xs xs
front_itself xs = ([], sym (append-nil xs))

front_on : {A : Type 0} (xs ys zs : List A) → IsFront xs ys → IsFront ys zs → IsFront xs zs
front_on xs ys zs a b = (a.0 ++ b.0, b.1 ∙ ap (λ l. l ++ b.0) a.1 ∙ append_assoc xs a.0 b.0)

pub front_length : {A : Type 0} (xs ys : List A) → IsFront xs ys → length xs ≤ length ys
front_length xs ys front = omega (arith, ap length front.1, length-append xs front.0)

-- ---- the tables and the views of the first are a front of those of the second
abbrev pub Grows : Visible → Visible → Type 0
Grows s t = IsFront s.tables t.tables × IsFront s.views t.views

grown : (s : Visible) → Grows s s
grown s = (front_itself s.tables, front_itself s.views)

pub grows_on : (s t u : Visible) → Grows s t → Grows t u → Grows s u
grows_on s t u f g = (front_on s.tables t.tables u.tables f.0 g.0, front_on s.views t.views u.views f.1 g.1)

written_grows : {A : Type 0} (out : Outcome) (rec : Rec) (a : A) (next s : Visible) → Grows s next → Grows s (if_written out rec a next s).next
written_grows good rec a next s g = g
written_grows failed rec a next s g = grown s
written_grows (full need limit) rec a next s g = grown s

table_grows : (def : TableDef) (s : Visible) → Grows s (with_table def s)
table_grows def s = ((def ∷ [], refl), front_itself s.views)

view_grows : (def : ViewDef) (s : Visible) → Grows s (with_view def s)
view_grows def s = (front_itself s.tables, (record def { created = last s } ∷ [], refl))

changed_grows : (session : ℕ) (change : Change) (s : Visible) → Grows s (changed session change s).next
changed_grows session change s = by (effect_of s.tables change (transaction session s).own)
  where
    by : (r : Result Effect Fault) → Grows s (changed_by r session (transaction session s) s).next
    by (Ok effect) = grown s
    by (Err f) = grown s

committed_grows : (outcome : Rec → Outcome) (session : ℕ) (s : Visible) → Grows s (committed outcome session s).next
committed_grows outcome session s = by (length o.actions == 0)
  where
    o : Open
    o = transaction session s

    unless : (f : Option Fault) → Grows s (committed_unless f outcome session o s).next
    unless None = written_grows (outcome (commit_record o s)) (commit_record o s) (Some (last s + 1)) (with_commit session o s) s (grown s)
    unless (Some f) = grown s

    by : (b : Bool) → Grows s (cond {A = Case (Option ℕ)} b (answered None (closed session s)) (committed_unless (first_fault (conflict_of s o) (merged_full s o)) outcome session o s)).next
    by true = grown s
    by false = unless (first_fault (conflict_of s o) (merged_full s o))

alone_grows : (outcome : Rec → Outcome) (session : ℕ) (change : Change) (s : Visible) → Grows s (alone outcome session change s).next
alone_grows outcome session change s = by change_case.answer
  where
    change_case : Case ℕ
    change_case = changed session change (began session s).next

    first : Grows s (changed session change (began session s).next).next
    first = changed_grows session change (began session s).next

    counted : (count : ℕ) (commit : Case (Option ℕ)) (answer : Result (Option ℕ) Fault) → Grows s commit.next → Grows s (with_count count answer commit s).next
    counted count commit (Ok number) g = g
    counted count commit (Err f) g = grown s

    by : (answer : Result ℕ Fault) → Grows s (alone_committed answer outcome session change_case.next s).next
    by (Ok count) =
        let commit = committed outcome session change_case.next in
        counted count commit commit.answer (grows_on s change_case.next commit.next first (committed_grows outcome session change_case.next))
    by (Err f) = grown s

turn_grows : (outcome : Rec → Outcome) (tasks : List (ℕ × ℕ)) (session : ℕ) (statement : Bound) (s : Visible) → Grows s (bound_turn outcome tasks session statement s).next
turn_grows outcome tasks session (bound.Table def) s = written_grows {A = Unit {0}} (outcome (table_record def)) (table_record def) tt (with_table def s) s (table_grows def s)
turn_grows outcome tasks session (bound.View def) s = written_grows {A = Unit {0}} (outcome (view_record def s)) (view_record def s) tt (with_view def s) s (view_grows def s)
turn_grows outcome tasks session (bound.Change change) s = by (is_open session s)
  where
    by : (b : Bool) → Grows s (if b then turn_by Changed (changed session change s) else turn_by (λ done. Alone done.0 done.1) (alone outcome session change s)).next
    by true = changed_grows session change s
    by false = alone_grows outcome session change s
turn_grows outcome tasks session (bound.Query query) s = grown s
turn_grows outcome tasks session (bound.Begin) s = grown s
turn_grows outcome tasks session (bound.Commit) s = committed_grows outcome session s
turn_grows outcome tasks session (bound.Rollback) s = grown s
turn_grows outcome tasks session (bound.Tasks) s = grown s

-- ---- events and runs
module _ (rules : Rules) where
  pub given_grows : (fails : Bool) (event : Event) (s : State) → Grows s.world.visible (give rules fails event s).next.world.visible
  given_grows fails (turn_of session) s = by (bound_line rules.reading session (next_line rules.program s.places session) s.world.visible)
    where
      by : (r : Result Bound Fault) → Grows s.world.visible (read_turn (outcome_of rules.settings fails s.world.upkeep) (pending_tasks s.world) session r s.world.visible).next
      by (Ok b) = turn_grows (outcome_of rules.settings fails s.world.upkeep) (pending_tasks s.world) session b s.world.visible
      by (Err f) = grown s.world.visible
  given_grows fails (fetch_of worker) s = grown s.world.visible
  given_grows fails (install_of worker) s = grown s.world.visible
  given_grows fails (release_of worker) s = grown s.world.visible
  given_grows fails (mark_of name) s = by (view_named s.world.visible.views name)
    where
      by : (x : Option ℕ) → Grows s.world.visible (mark_by rules fails x name s).next.world.visible
      by None = grown s.world.visible
      by (Some v) = grown s.world.visible
  given_grows fails clean_up s = grown s.world.visible

  pub entry_grows : (s : State) (e : Entry) → Grows s.world.visible (after_entry rules s e).world.visible
  entry_grows s e = by (event_of s e)
    where
      by : (x : Option Event) → Grows s.world.visible (after_by rules x s e).world.visible
      by None = grown s.world.visible
      by (Some event) = given_grows (shows_failure e) event s

  pub after_grows : (s : State) (es : List Entry) → Grows s.world.visible (after rules s es).world.visible
  after_grows s [] = grown s.world.visible
  after_grows s (e ∷ es) =
      grows_on s.world.visible (after_entry rules s e).world.visible (after rules (after_entry rules s e) es).world.visible (entry_grows s e)
      (after_grows (after_entry rules s e) es)
