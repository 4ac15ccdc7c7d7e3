-- A session's transaction has changed at most as often as statements of the session are answered; and no session but
-- the setup has one before the setup is answered.
use Rattle.std.proofs.Common.{◌≡◌, ℕ, zero, suc, ◌+◌, ◌<◌, ◌≤◌, Bool, true, false, cond, List, [], ◌∷◌, length, map, get_or, Option, Some, None, refl, sym, ap, ◌∙◌, subst, arith}
use Rattle.std.specs.Prelude.{◌⊎◌, ◌==◌, ◌&&◌, ◌||◌, not, nat_lt, if◌then◌else◌, option_map, replicate, slice_index, slice_index_or, slice_set, unwrap_or, Result, Ok, Err}
use Rattle.std.specs.List.{sum_by}
use Rattle.std.proofs.lemmas.Bool.Decides.{nat_tests}
use Rattle.std.proofs.lemmas.List.{get_or-set_other, get_or-set_same, length-set}
use Rattle.std.proofs.lemmas.List.Sums.{sum_by-cons}
use mathlib.Core.Logic.{inl, inr}
use Rattle.lv_schema.specs.declared.bound.Bound.{Bound}
use Rattle.lv_schema.specs.declared.bound.Bound.TheVariants as bound
use Rattle.lv_schema.specs.declared.change.Change.{Change}
use Rattle.lv_schema.specs.declared.fault.Fault.{Fault}
use Rattle.lv_schema.specs.declared.open.Open.{Open}
use Rattle.lv_schema.specs.declared.rec.Rec.{Rec}
use Rattle.lv_schema.specs.Cases.{Case, Outcome, good, failed, full, alone, alone_committed, answered, began, changed, changed_by, closed, committed, committed_unless, if_written, with_commit, with_count, with_empty_own, with_table, with_view}
use Rattle.lv_schema.specs.Catalog.{view_named}
use Rattle.lv_schema.specs.Commits.{conflict_of, merged_full}
use Rattle.lv_schema.specs.Effects.{Effect, effect_of, first_fault}
use Rattle.lv_schema.specs.Records.{commit_record, table_record, view_record}
use Rattle.lv_schema.specs.Tasks.{pending_tasks}
use Rattle.lv_schema.specs.UpkeepCases.{outcome_of}
use Rattle.lv_schema.specs.World.{Visible, World, last, opened, transaction}
use Rattle.lv_plain.specs.declared.entry.Entry.{Entry}
use Rattle.lv_plain.specs.declared.entry.Reply.TheVariants.{Changed, Alone}
use Rattle.lv_plain.specs.declared.program.Program.{Program}
use Rattle.lv_plain.specs.declared.program.Script.{Script}
use Rattle.lv_plain.specs.declared.event.Event.{Event}
use Rattle.lv_plain.specs.declared.event.Event.TheVariants.{Turn as turn_of, Fetch as fetch_of, Install as install_of, Release as release_of, Mark as mark_of, Clean as clean_up}
use Rattle.lv_plain.specs.Legal.{Legal, MayComeBy, MayHappen, after, after_by, after_entry, begun, event_of, shows_failure}
use Rattle.lv_plain.specs.Limits.{IsWithinLimits}
use Rattle.lv_plain.specs.Machine.{State, give, mark_by}
use Rattle.lv_plain.specs.Programs.{has_more, lines_of, may_turn, next_line, no_script, session_count, setup_answered}
use Rattle.lv_plain.specs.Rules.{Rules}
use Rattle.lv_plain.specs.Turns.{bound_line, bound_turn, is_open, read_turn, turn_by}
use Rattle.lv_plain.proofs.Outside.{set_twice}

-- ---- what a statement does to the transactions: the others change as little as before, that of its session once more at most
abbrev changes_in : Option Open → ℕ
changes_in None = 0
changes_in (Some o) = o.changes

abbrev Same : Option Open → Option Open → Type 0
Same None None = Unit {0}
Same None (Some o) = ⊥
Same (Some o) None = ⊥
Same (Some o) (Some q) = q.changes ≡ o.changes

abbrev Grown : Option Open → Option Open → Type 0
Grown o None = Unit {0}
Grown o (Some q) = q.changes ≤ changes_in o + 1

record Moves (session : ℕ) (xs ys : List (Option Open)) : Type 0 where
  pub others : (k : ℕ) → (k ≡ session → ⊥) → Same (get_or xs k None) (get_or ys k None)
  pub own : Grown (get_or xs session None) (get_or ys session None)

same_itself : (o : Option Open) → Same o o
same_itself None = tt
same_itself (Some o) = refl

grown_itself : (o : Option Open) → Grown o o
grown_itself None = tt
grown_itself (Some o) = omega arith

moves_none : (session : ℕ) (xs : List (Option Open)) → Moves session xs xs
moves_none session xs = record { others = λ k ne. same_itself (get_or xs k None); own = grown_itself (get_or xs session None) }

own_set : (xs : List (Option Open)) (k : ℕ) (o : Option Open) → Grown (get_or xs k None) o → Grown (get_or xs k None) (get_or (slice_set xs k o) k None)
own_set [] k o h = tt
own_set (x ∷ xs) zero o h = h
own_set (x ∷ xs) (suc k) o h = own_set xs k o h

moves_set : (session : ℕ) (xs : List (Option Open)) (o : Option Open) → Grown (get_or xs session None) o → Moves session xs (slice_set xs session o)
moves_set session xs o h = record {
  others = λ k ne. subst (Same (get_or xs k None)) (sym (get_or-set_other xs session k o None ne)) (same_itself (get_or xs k None));
  own = own_set xs session o h;
}

wide_same : (xs : List (Option Open)) (k : ℕ) → Same (get_or xs k None) (get_or (map (option_map with_empty_own) xs) k None)
wide_same [] k = tt
wide_same (None ∷ xs) zero = tt
wide_same (Some o ∷ xs) zero = refl
wide_same (x ∷ xs) (suc k) = wide_same xs k

same_grown : (a b : Option Open) → Same a b → Grown a b
same_grown None None h = tt
same_grown None (Some q) h = absurd h
same_grown (Some o) None h = tt
same_grown (Some o) (Some q) h = omega (arith, h)

moves_wide : (session : ℕ) (xs : List (Option Open)) → Moves session xs (map (option_map with_empty_own) xs)
moves_wide session xs = record { others = λ k ne. wide_same xs k; own = same_grown (get_or xs session None) (get_or (map (option_map with_empty_own) xs) session None) (wide_same xs session) }

-- ---- the cases
grown_opened : (s : Visible) (o : Option Open) → Grown o (Some (opened s))
grown_opened s o = omega arith

transaction_changes : (s : Visible) (o : Option Open) → (unwrap_or o (opened s)).changes ≡ changes_in o
transaction_changes s None = refl
transaction_changes s (Some o) = refl

written_moves : {A : Type 0} (session : ℕ) (out : Outcome) (rec : Rec) (a : A) (next s : Visible) → Moves session s.sessions next.sessions → Moves session s.sessions (if_written out rec a next s).next.sessions
written_moves session good rec a next s h = h
written_moves session failed rec a next s h = moves_none session s.sessions
written_moves session (full need limit) rec a next s h = moves_none session s.sessions

changed_sessions : (session : ℕ) (change : Change) (s : Visible) → (e : Result Effect Fault) → Moves session s.sessions (changed_by e session (transaction session s) s).next.sessions
changed_sessions session change s (Err fault) = moves_none session s.sessions
changed_sessions session change s (Ok effect) = let e = transaction_changes s (get_or s.sessions session None) in moves_set session s.sessions _ (omega (arith, e))

-- COMMIT closes the session, or is refused and leaves it
abbrev IsErr : Result (Option ℕ) Fault → Type 0
IsErr (Ok a) = ⊥
IsErr (Err fault) = Unit {0}

abbrev Ends : ℕ → Visible → Case (Option ℕ) → Type 0
Ends session s c = (c.next.sessions ≡ slice_set s.sessions session None) ⊎ ((c.next.sessions ≡ s.sessions) × IsErr c.answer)

module _ (outcome : Rec → Outcome) (session : ℕ) where
  committed_ends : (s : Visible) → Ends session s (committed outcome session s)
  committed_ends s = by (length o.actions == 0)
    where
      o : Open
      o = transaction session s

      kept : (out : Outcome) → Ends session s (if_written out (commit_record o s) (Some (last s + 1)) (with_commit session o s) s)
      kept good = inl refl
      kept failed = inr (refl, tt)
      kept (full need limit) = inr (refl, tt)

      unless : (f : Option Fault) → Ends session s (committed_unless f outcome session o s)
      unless (Some f) = inl refl
      unless None = kept (outcome (commit_record o s))

      by : (b : Bool) → Ends session s (cond {A = Case (Option ℕ)} b (answered None (closed session s)) (committed_unless (first_fault (conflict_of s o) (merged_full s o)) outcome session o s))
      by true = inl refl
      by false = unless (first_fault (conflict_of s o) (merged_full s o))

  ends_move : (s next : Visible) → (next.sessions ≡ slice_set s.sessions session None) → Moves session s.sessions next.sessions
  ends_move s next e = subst (Moves session s.sessions) (sym e) (moves_set session s.sessions None tt)

  committed_moves : (s : Visible) → Moves session s.sessions (committed outcome session s).next.sessions
  committed_moves s = elim (committed_ends s) [ inl e ↦ ends_move s (committed outcome session s).next e | inr h ↦ subst (Moves session s.sessions) (sym h.0) (moves_none session s.sessions) ]

  -- a change outside a transaction
  alone_moves : (change : Change) (s : Visible) → Moves session s.sessions (alone outcome session change s).next.sessions
  alone_moves change s = by (changed session change begun).answer (changed session change begun).next (closes (effect_of begun.tables change (transaction session begun).own))
    where
      begun : Visible
      begun = (began session s).next

      closes : (e : Result Effect Fault) → slice_set (changed_by e session (transaction session begun) begun).next.sessions session None ≡ slice_set s.sessions session None
      closes (Err fault) = set_twice s.sessions session (Some (opened s)) None
      closes (Ok effect) = set_twice begun.sessions session _ None ∙ set_twice s.sessions session (Some (opened s)) None

      counted : (count : ℕ) (next : Visible) → slice_set next.sessions session None ≡ slice_set s.sessions session None → (answer : Result (Option ℕ) Fault) → Ends session next (record (committed outcome session next) { answer = answer })
          → Moves session s.sessions (with_count count answer (committed outcome session next) s).next.sessions
      counted count next same (Err fault) h = moves_none session s.sessions
      counted count next same (Ok number) (inl e) = ends_move s (committed outcome session next).next (e ∙ same)
      counted count next same (Ok number) (inr h) = absurd h.1

      by : (answer : Result ℕ Fault) (next : Visible) → slice_set next.sessions session None ≡ slice_set s.sessions session None → Moves session s.sessions (alone_committed answer outcome session next s).next.sessions
      by (Err fault) next same = moves_none session s.sessions
      by (Ok count) next same = counted count next same (committed outcome session next).answer (committed_ends next)

  bound_moves : (tasks : List (ℕ × ℕ)) (b : Bound) (s : Visible) → Moves session s.sessions (bound_turn outcome tasks session b s).next.sessions
  bound_moves tasks (bound.Table def) s = written_moves {A = Unit {0}} session (outcome (table_record def)) (table_record def) tt (with_table def s) s (moves_wide session s.sessions)
  bound_moves tasks (bound.View def) s = written_moves {A = Unit {0}} session (outcome (view_record def s)) (view_record def s) tt (with_view def s) s (moves_none session s.sessions)
  bound_moves tasks (bound.Change change) s = by (is_open session s)
    where
      by : (b : Bool) → Moves session s.sessions (if b then turn_by Changed (changed session change s) else turn_by (λ done. Alone done.0 done.1) (alone outcome session change s)).next.sessions
      by true = changed_sessions session change s (effect_of s.tables change (transaction session s).own)
      by false = alone_moves change s
  bound_moves tasks (bound.Query query) s = moves_none session s.sessions
  bound_moves tasks (bound.Begin) s = moves_set session s.sessions (Some (opened s)) (grown_opened s (get_or s.sessions session None))
  bound_moves tasks (bound.Commit) s = committed_moves s
  bound_moves tasks (bound.Rollback) s = moves_set session s.sessions None tt
  bound_moves tasks (bound.Tasks) s = moves_none session s.sessions

  read_moves : (tasks : List (ℕ × ℕ)) (line : Result Bound Fault) (s : Visible) → Moves session s.sessions (read_turn outcome tasks session line s).next.sessions
  read_moves tasks (Ok b) s = bound_moves tasks b s
  read_moves tasks (Err fault) s = moves_none session s.sessions

-- ---- the places of a program
one_of_all : (sessions : List Script) (session : ℕ) → length (slice_index_or sessions session no_script).lines ≤ sum_by (λ s. length s.lines) sessions
one_of_all [] session = omega arith
one_of_all (s ∷ sessions) zero = let e = sum_by-cons (λ (t : Script). length t.lines) s sessions in omega (arith, e)
one_of_all (s ∷ sessions) (suc session) = let e = sum_by-cons (λ (t : Script). length t.lines) s sessions in omega (arith, e, one_of_all sessions session)

pub few_lines : (p : Program) (session : ℕ) → IsWithinLimits p → length (lines_of p session) ≤ 100000
few_lines p zero h = omega (arith, h.statements)
few_lines p (suc session) h = omega (arith, h.statements, one_of_all p.sessions session)

has_place : (m n : ℕ) → nat_lt m n ≡ true → m < n
has_place m n h = grind (arith, nat_tests)

and_first : (a b : Bool) → (a && b) ≡ true → a ≡ true
and_first true b e = refl
and_first false b e = cc

and_second : (a b : Bool) → (a && b) ≡ true → b ≡ true
and_second true b e = e
and_second false b e = cc

or_second : (a b : Bool) → a ≡ false → (a || b) ≡ true → b ≡ true
or_second true b none e = cc
or_second false b none e = e

not_zero : (n : ℕ) → (suc n == 0) ≡ false
not_zero n = grind (arith, nat_tests)

pub place_in : (p : Program) (places : List ℕ) (session : ℕ) → may_turn p places session ≡ true → slice_index places session < length (lines_of p session)
place_in p places session h = has_place _ _ (and_first (has_more p places session) _ h)

no_lines : (sessions : List Script) (session : ℕ) → 0 < length (slice_index_or sessions session no_script).lines → session < length sessions
no_lines [] session h = absurd (omega arith)
no_lines (s ∷ sessions) zero h = omega arith
no_lines (s ∷ sessions) (suc session) h = omega (arith, no_lines sessions session h)

pub session_in : (p : Program) (places : List ℕ) (session : ℕ) → may_turn p places session ≡ true → session < session_count p
session_in p places zero h = omega arith
session_in p places (suc session) h = omega (arith, no_lines p.sessions session (omega (arith, place_in p places (suc session) h)))

-- ---- runs
abbrev Few : Option Open → ℕ → Type 0
Few None n = Unit {0}
Few (Some o) n = o.changes ≤ n

pub record Kept (p : Program) (s : State) : Type 0 where
  pub count : length s.places ≡ session_count p
  pub few : (k : ℕ) → Few (get_or s.world.visible.sessions k None) (slice_index s.places k)
  pub first : setup_answered p s.places ≡ false → (k : ℕ) → 0 < k → get_or s.world.visible.sessions k None ≡ None

few_same : (a b : Option Open) (n : ℕ) → Same a b → Few a n → Few b n
few_same None None n same h = tt
few_same None (Some q) n same h = absurd same
few_same (Some o) None n same h = tt
few_same (Some o) (Some q) n same h = omega (arith, same, h)

few_grown : (a b : Option Open) (n : ℕ) → Grown a b → Few a n → Few b (n + 1)
few_grown a None n grown h = tt
few_grown None (Some q) n grown h = omega (arith, grown)
few_grown (Some o) (Some q) n grown h = omega (arith, grown, h)

none_same : (a b : Option Open) → Same a b → a ≡ None → b ≡ None
none_same None None same e = refl
none_same None (Some q) same e = absurd same
none_same (Some o) b same e = absurd cc

eq_cases : (a b : ℕ) → (a ≡ b) ⊎ (a ≡ b → ⊥)
eq_cases a b = grind arith

not_answered : (more : Bool) → more ≡ true → not more ≡ false
not_answered true e = refl
not_answered false e = cc

first_place : (places : List ℕ) (n x : ℕ) → slice_index (slice_set places (suc n) x) 0 ≡ slice_index places 0
first_place [] n x = refl
first_place (p ∷ places) n x = refl

module _ (rules : Rules) (fails : Bool) where
  turn_keeps : (session : ℕ) (s : State) → may_turn rules.program s.places session ≡ true → Kept rules.program s → Kept rules.program (give rules fails (turn_of session) s).next
  turn_keeps session s may kept = record {
    count = length-set s.places session (place + 1) ∙ kept.count;
    few = λ k. few_at k (eq_cases k session);
    first = first_by session refl;
  }
    where
      place : ℕ
      place = slice_index s.places session

      next : State
      next = (give rules fails (turn_of session) s).next

      moves : Moves session s.world.visible.sessions next.world.visible.sessions
      moves = read_moves (outcome_of rules.settings fails s.world.upkeep) session (pending_tasks s.world) (bound_line rules.reading session (next_line rules.program s.places session) s.world.visible) s.world.visible

      there : session < length s.places
      there = omega (arith, kept.count, session_in rules.program s.places session may)

      few_at : (k : ℕ) → (k ≡ session) ⊎ (k ≡ session → ⊥) → Few (get_or next.world.visible.sessions k None) (slice_index next.places k)
      few_at k (inr ne) =
          subst (Few (get_or next.world.visible.sessions k None)) (sym (get_or-set_other s.places session k (place + 1) 0 ne))
          (few_same (get_or s.world.visible.sessions k None) (get_or next.world.visible.sessions k None) (slice_index s.places k) (moves.others k ne) (kept.few k))
      few_at k (inl e) =
          subst (λ j. Few (get_or next.world.visible.sessions j None) (slice_index next.places j)) (sym e)
          (subst (Few (get_or next.world.visible.sessions session None)) (sym (get_or-set_same s.places session (place + 1) 0 there))
          (few_grown (get_or s.world.visible.sessions session None) (get_or next.world.visible.sessions session None) place moves.own (kept.few session)))

      first_by : (n : ℕ) → n ≡ session → setup_answered rules.program next.places ≡ false → (k : ℕ) → 0 < k → get_or next.world.visible.sessions k None ≡ None
      first_by zero e open_yet k pos =
          let more : has_more rules.program s.places 0 ≡ true = subst (λ n. has_more rules.program s.places n ≡ true) (sym e) (and_first (has_more rules.program s.places session) _ may) in
          none_same (get_or s.world.visible.sessions k None) (get_or next.world.visible.sessions k None) (moves.others k (λ same. omega (arith, same, e)))
          (kept.first (not_answered (has_more rules.program s.places 0) more) k pos)
      first_by (suc n) e open_yet k pos =
          let may_too : may_turn rules.program s.places (suc n) ≡ true = subst (λ m. may_turn rules.program s.places m ≡ true) (sym e) may in
          let done : setup_answered rules.program s.places ≡ true = or_second (suc n == 0) (setup_answered rules.program s.places) (not_zero n) (and_second (has_more rules.program s.places (suc n)) _ may_too) in
          let set_is : slice_index next.places 0 ≡ slice_index s.places 0 = subst (λ m. slice_index (slice_set s.places m (place + 1)) 0 ≡ slice_index s.places 0) e (first_place s.places n (place + 1)) in
          let same : setup_answered rules.program next.places ≡ setup_answered rules.program s.places = ap (λ n. not (nat_lt n (length rules.program.setup))) set_is in
          absurd cc

  given_keeps : (event : Event) (s : State) → MayHappen rules.program s event → Kept rules.program s → Kept rules.program (give rules fails event s).next
  given_keeps (turn_of session) s may kept = turn_keeps session s may kept
  given_keeps (fetch_of worker) s may kept = record { count = kept.count; few = kept.few; first = kept.first }
  given_keeps (install_of worker) s may kept = record { count = kept.count; few = kept.few; first = kept.first }
  given_keeps (release_of worker) s may kept = record { count = kept.count; few = kept.few; first = kept.first }
  given_keeps (mark_of name) s may kept = by (view_named s.world.visible.views name)
    where
      by : (v : Option ℕ) → Kept rules.program (mark_by rules fails v name s).next
      by None = kept
      by (Some v) = record { count = kept.count; few = kept.few; first = kept.first }
  given_keeps clean_up s may kept = record { count = kept.count; few = kept.few; first = kept.first }

-- nobody is live in an empty world
abbrev none : Option Open
none = None

pub none_live : (n k : ℕ) → get_or (replicate n none) k none ≡ none
none_live zero k = refl
none_live (suc n) zero = refl
none_live (suc n) (suc k) = none_live n k

length_all : (n x : ℕ) → length (replicate n x) ≡ n
length_all zero x = refl
length_all (suc n) x = omega (arith, length_all n x)

module _ (rules : Rules) where
  entries_keep : (s : State) (es : List Entry) → Legal rules s es → Kept rules.program s → Kept rules.program (after rules s es)
  entries_keep s [] legal kept = kept
  entries_keep s (e ∷ es) legal kept = entries_keep (after_entry rules s e) es legal.1 (by (event_of s e) legal.0)
    where
      by : (event : Option Event) → MayComeBy rules event s e → Kept rules.program (after_by rules event s e)
      by None may = absurd may
      by (Some event) may = given_keeps rules (shows_failure e) event s may.0 kept

  -- a run begins where nobody is live
  module _ (w : World) (nobody : (session : ℕ) → slice_index_or w.visible.sessions session None ≡ None) where
    start_kept : Kept rules.program (begun rules w)
    start_kept = record {
      count = length_all (session_count rules.program) 0;
      few = λ k. subst (λ o. Few o (slice_index (begun rules w).places k)) (sym (nobody k)) tt;
      first = λ open_yet k pos. nobody k;
    }

    pub sessions_kept : (es : List Entry) → Legal rules (begun rules w) es → Kept rules.program (after rules (begun rules w) es)
    sessions_kept es legal = entries_keep (begun rules w) es legal start_kept

  -- each session keeps its place
  given_count : (fails : Bool) (event : Event) (s : State) → length (give rules fails event s).next.places ≡ length s.places
  given_count fails (turn_of session) s = length-set s.places session (slice_index s.places session + 1)
  given_count fails (fetch_of worker) s = refl
  given_count fails (install_of worker) s = refl
  given_count fails (release_of worker) s = refl
  given_count fails (mark_of name) s = by (view_named s.world.visible.views name)
    where
      by : (v : Option ℕ) → length (mark_by rules fails v name s).next.places ≡ length s.places
      by None = refl
      by (Some v) = refl
  given_count fails clean_up s = refl

  entries_count : (s : State) (es : List Entry) → length (after rules s es).places ≡ length s.places
  entries_count s [] = refl
  entries_count s (e ∷ es) = entries_count (after_entry rules s e) es ∙ by (event_of s e)
    where
      by : (event : Option Event) → length (after_by rules event s e).places ≡ length s.places
      by None = refl
      by (Some event) = given_count (shows_failure e) event s

few_changes : (p : Program) (s : State) (session : ℕ) → Kept p s → (transaction session s.world.visible).changes ≤ slice_index s.places session
few_changes p s session kept = by (get_or s.world.visible.sessions session None) (kept.few session)
  where
    by : (o : Option Open) → Few o (slice_index s.places session) → (unwrap_or o (opened s.world.visible)).changes ≤ slice_index s.places session
    by None h = omega arith
    by (Some o) h = h

pub runs_count : (rules : Rules) (w : World) (es : List Entry) → length (after rules (begun rules w) es).places ≡ session_count rules.program
runs_count rules w es = entries_count rules (begun rules w) es ∙ length_all (session_count rules.program) 0

pub runs_change_little : (rules : Rules) (w : World) (es : List Entry) (session : ℕ) → ((k : ℕ) → slice_index_or w.visible.sessions k None ≡ None) → Legal rules (begun rules w) es
    → (transaction session (after rules (begun rules w) es).world.visible).changes ≤ slice_index (after rules (begun rules w) es).places session
runs_change_little rules w es session nobody legal = few_changes rules.program (after rules (begun rules w) es) session (sessions_kept rules w nobody es legal)

pub setups_come_first : (rules : Rules) (w : World) (es : List Entry) (session : ℕ) → ((k : ℕ) → slice_index_or w.visible.sessions k None ≡ None) → Legal rules (begun rules w) es
    → setup_answered rules.program (after rules (begun rules w) es).places ≡ false → 0 < session
    → slice_index_or (after rules (begun rules w) es).world.visible.sessions session None ≡ None
setups_come_first rules w es session nobody legal open_yet pos = (sessions_kept rules w nobody es legal).first open_yet session pos
