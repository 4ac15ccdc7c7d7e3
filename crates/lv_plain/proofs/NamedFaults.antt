-- The tables that the faults of statements name are in use.
use Rattle.std.proofs.Common.{ℕ, zero, suc, ◌+◌, ◌<◌, ◌≤◌, Bool, true, false, cond, List, [], ◌∷◌, length, map, filter, arith}
use Rattle.std.specs.Prelude.{◌==◌, nat_lt, Option, Some, None, option_map, slice_get, Result, Ok, Err}
use Rattle.std.specs.List.{AllByRecursion, cons_option, filter_map, range_with_len}
use Rattle.std.specs.Ordering.{is_gt}
use Rattle.std.specs.declared.cmp.Ordering.{Ordering}
use Rattle.lv_values.specs.declared.value.Value.{Value}
use Rattle.lv_values.specs.Ascending.{ascending, placed}
use Rattle.lv_schema.specs.declared.action.Action.{Action}
use Rattle.lv_schema.specs.declared.change.Change.{Change}
use Rattle.lv_schema.specs.declared.change.Change.TheVariants.{Insert, Update, Delete}
use Rattle.lv_schema.specs.declared.fault.Fault.{Fault}
use Rattle.lv_schema.specs.declared.fault.Fault.TheVariants as fault
use Rattle.lv_schema.specs.declared.open.Open.{Open}
use Rattle.lv_schema.specs.declared.rec.Rec.{Rec}
use Rattle.lv_schema.specs.declared.table.TableDef.{TableDef}
use Rattle.lv_schema.specs.Bound.{IsBoundChange}
use Rattle.lv_schema.specs.Cases.{Outcome, good, failed, full, Case, alone, alone_committed, answered, began, changed, changed_by, closed, committed, committed_unless, if_written, with_commit, with_count}
use Rattle.lv_schema.specs.Commits.{Place, conflict_of, last_writer, merged, merged_full, place_cmp, place_conflict, written_place}
use Rattle.lv_schema.specs.Databases.{Db, rows_of}
use Rattle.lv_schema.specs.Effects.{Effect, acted, change_actions, change_count, change_fault, changed_table, effect_of, first_fault, first_taken, first_wide, fault_where, matching, ok_unless, option_fault}
use Rattle.lv_schema.specs.Records.{commit_record}
use Rattle.lv_schema.specs.SoundWorld.{CanAct, IsSound}
use Rattle.lv_schema.specs.World.{Visible, last, snap, table_at, transaction}
use Rattle.lv_schema.proofs.Apart.{all_filter, all_map}
use Rattle.lv_schema.proofs.SoundChanges.{changed_sound}
use Rattle.lv_schema.proofs.SoundSteps.{began_sound, transaction_live}
use Rattle.lv_plain.specs.Named.{Counts, IsNamedFault}

-- a fault, if there is one; and what a case answers
abbrev pub IsNamedChoice : Counts → Option Fault → Type 0
IsNamedChoice n None = Unit {0}
IsNamedChoice n (Some f) = IsNamedFault n f

abbrev pub IsNamedAnswer : {A : Type 0} → Counts → Result A Fault → Type 0
IsNamedAnswer n (Ok a) = Unit {0}
IsNamedAnswer n (Err f) = IsNamedFault n f

first_named : (n : Counts) (a b : Option Fault) → IsNamedChoice n a → IsNamedChoice n b → IsNamedChoice n (first_fault a b)
first_named n None b ha hb = hb
first_named n (Some f) b ha hb = ha

option_named : {A : Type 0} (n : Counts) (f : A → Fault) (o : Option A) → ((a : A) → IsNamedFault n (f a)) → IsNamedChoice n (option_fault f o)
option_named n f None h = tt
option_named n f (Some a) h = h a

mapped_named : {A : Type 0} (n : Counts) (f : A → Fault) (o : Option A) → ((a : A) → IsNamedFault n (f a)) → IsNamedChoice n (option_map f o)
mapped_named n f None h = tt
mapped_named n f (Some a) h = h a

where_named : (n : Counts) (b : Bool) (f : Fault) → IsNamedFault n f → IsNamedChoice n (fault_where b f)
where_named n true f h = h
where_named n false f h = tt

-- ---- changes
change_table : (tables : List TableDef) (change : Change) → IsBoundChange tables change → changed_table change < length tables
change_table tables (Insert table rows) is = is.0
change_table tables (Update table sets c) is = is.0
change_table tables (Delete table c) is = is.0

change_fault_named : (n : Counts) (def : TableDef) (change : Change) (rows : List (List Value)) → changed_table change < n.tables → IsNamedChoice n (change_fault def change rows)
change_fault_named n def (Insert table new) rows lt =
    let taken = option_fault (fault.Duplicate table) (first_taken def.key rows new) in
    let full = fault_where (nat_lt 65535 (length rows + length new)) (fault.TableFull table) in
    first_named n taken full (option_named n (fault.Duplicate table) (first_taken def.key rows new) (λ key. lt))
    (where_named n (nat_lt 65535 (length rows + length new)) (fault.TableFull table) lt)
change_fault_named n def (Update table sets c) rows lt = option_named n fault.Range (first_wide sets (matching c rows)) (λ number. tt)
change_fault_named n def (Delete table c) rows lt = tt

answer_named : (n : Counts) (f : Option Fault) (effect : Effect) (session : ℕ) (o : Open) (s : Visible) → IsNamedChoice n f → IsNamedAnswer n (changed_by (ok_unless f effect) session o s).answer
answer_named n None effect session o s h = tt
answer_named n (Some f) effect session o s h = h

pub changed_named : (n : Counts) (session : ℕ) (change : Change) (s : Visible) → length s.tables ≤ n.tables → IsBoundChange s.tables change → IsNamedAnswer n (changed session change s).answer
changed_named n session change s le is =
    let o = transaction session s in
    let def = table_at s.tables (changed_table change) in
    let rows = rows_of o.own (changed_table change) in
    let lt = change_table s.tables change is in
    answer_named n (change_fault def change rows) (record { count = change_count change rows; actions = change_actions change rows }) session o s
    (change_fault_named n def change rows (omega (arith, lt, le)))

-- ---- COMMIT
acts_within : (n : Counts) (tables : List TableDef) → length tables ≤ n.tables → (actions : List Action) (db : Db) → CanAct tables db actions → AllByRecursion (λ a. a.table < n.tables) actions
acts_within n tables le [] db can = tt
acts_within n tables le (a ∷ actions) db can = (omega (arith, can.0.in_use, le), acts_within n tables le actions (acted tables db a) can.1)

all_placed : {X : Type 0} (R : X → X → Ordering) (P : X → Type 0) (x : X) (ys : List X) → P x → AllByRecursion P ys → AllByRecursion P (placed R x ys)
all_placed R P x [] a b = (a, tt)
all_placed R P x (y ∷ ys) a b = by (is_gt (R x y)) (all_placed R P x ys a b.1)
  where
    by : (t : Bool) → AllByRecursion P (placed R x ys) → AllByRecursion P (cond t (y ∷ placed R x ys) (x ∷ y ∷ ys))
    by true r = (b.0, r)
    by false r = (a, b)

all_ascending : {X : Type 0} (R : X → X → Ordering) (P : X → Type 0) (xs : List X) → AllByRecursion P xs → AllByRecursion P (ascending R xs)
all_ascending R P [] h = tt
all_ascending R P (x ∷ xs) h = all_placed R P x (ascending R xs) h.0 (all_ascending R P xs h.1)

all_found : (n : Counts) {X : Type 0} (P : X → Type 0) (f : X → Option Fault) → ((x : X) → P x → IsNamedChoice n (f x)) → (xs : List X) → AllByRecursion P xs
    → AllByRecursion (IsNamedFault n) (filter_map f xs)
all_found n P f h [] a = tt
all_found n P f h (x ∷ xs) a = by (f x) (h x a.0) (all_found n P f h xs a.1)
  where
    by : (o : Option Fault) → IsNamedChoice n o → AllByRecursion (IsNamedFault n) (filter_map f xs) → AllByRecursion (IsNamedFault n) (cons_option o (filter_map f xs))
    by None is rest = rest
    by (Some found) is rest = (is, rest)

first_of_all : (n : Counts) (faults : List Fault) → AllByRecursion (IsNamedFault n) faults → IsNamedChoice n (slice_get faults 0)
first_of_all n [] h = tt
first_of_all n (f ∷ faults) h = h.0

conflict_named : (n : Counts) (s : Visible) (o : Open) → AllByRecursion (λ a. a.table < n.tables) o.actions → IsNamedChoice n (conflict_of s o)
conflict_named n s o h =
    let places = map (written_place s.tables) o.actions in
    first_of_all n (filter_map (place_conflict s o) (ascending place_cmp places))
    (all_found n (λ (at : Place). at.0 < n.tables) (place_conflict s o) (λ at lt. mapped_named n (fault.Conflict at.0 at.1) (last_writer s o.snapshot at) (λ commit. lt)) (ascending place_cmp places)
    (all_ascending place_cmp (λ (at : Place). at.0 < n.tables) places (all_map (written_place s.tables) (λ (at : Place). at.0 < n.tables) o.actions h)))

within_range : (a k n : ℕ) → a + k ≤ n → AllByRecursion (λ t. t < n) (range_with_len a k)
within_range a zero n le = tt
within_range a (suc k) n le = (omega (arith, le), within_range (a + 1) k n (omega (arith, le)))

first_number : (n : Counts) (numbers : List ℕ) → AllByRecursion (λ t. t < n.tables) numbers → IsNamedChoice n (option_map fault.MergedFull (slice_get numbers 0))
first_number n [] h = tt
first_number n (t ∷ numbers) h = h.0

merged_full_named : (n : Counts) (s : Visible) (o : Open) → length s.tables ≤ n.tables → IsNamedChoice n (merged_full s o)
merged_full_named n s o le =
    let tables = range_with_len 0 (length s.tables) in
    let is_full : ℕ → Bool = λ t. nat_lt 65535 (length (rows_of (merged s o) t)) in
    first_number n (filter is_full tables) (all_filter (λ t. t < n.tables) is_full tables (within_range 0 (length s.tables) n.tables (omega (arith, le))))

pub written_named : {A : Type 0} (n : Counts) (out : Outcome) (rec : Rec) (a : A) (next s : Visible) → IsNamedAnswer n (if_written out rec a next s).answer
written_named n good rec a next s = tt
written_named n failed rec a next s = tt
written_named n (full need limit) rec a next s = tt

pub committed_named : (n : Counts) (outcome : Rec → Outcome) (session : ℕ) (s : Visible) → length s.tables ≤ n.tables → IsSound s → IsNamedAnswer n (committed outcome session s).answer
committed_named n outcome session s le sound = by (length o.actions == 0)
  where
    o : Open
    o = transaction session s

    live : AllByRecursion (λ a. a.table < n.tables) (transaction session s).actions
    live = acts_within n s.tables le (transaction session s).actions (snap s (transaction session s).snapshot) (transaction_live s session sound).can_act

    unless : (f : Option Fault) → IsNamedChoice n f → IsNamedAnswer n (committed_unless f outcome session o s).answer
    unless None is = written_named n (outcome (commit_record o s)) (commit_record o s) (Some (last s + 1)) (with_commit session o s) s
    unless (Some f) is = is

    by : (b : Bool) → IsNamedAnswer n (cond {A = Case (Option ℕ)} b (answered None (closed session s)) (committed_unless (first_fault (conflict_of s o) (merged_full s o)) outcome session o s)).answer
    by true = tt
    by false = unless (first_fault (conflict_of s o) (merged_full s o)) (first_named n (conflict_of s o) (merged_full s o) (conflict_named n s o live) (merged_full_named n s o le))

-- ---- a change outside a transaction
pub alone_named : (n : Counts) (outcome : Rec → Outcome) (session : ℕ) (change : Change) (s : Visible) → length s.tables ≤ n.tables → IsSound s → IsBoundChange s.tables change
    → IsNamedAnswer n (alone outcome session change s).answer
alone_named n outcome session change s le sound is =
    by (effect_of s.tables change (transaction session begun).own) (changed_named n session change begun le is) (changed_sound session change begun (began_sound s session sound) is)
  where
    begun : Visible
    begun = (began session s).next

    case_of : Result Effect Fault → Case ℕ
    case_of r = changed_by r session (transaction session begun) begun

    counted : (count : ℕ) (commit : Case (Option ℕ)) (answer : Result (Option ℕ) Fault) → IsNamedAnswer n answer → IsNamedAnswer n (with_count count answer commit s).answer
    counted count commit (Ok number) h = tt
    counted count commit (Err f) h = h

    by : (r : Result Effect Fault) → IsNamedAnswer n (case_of r).answer → IsSound (case_of r).next → IsNamedAnswer n (alone_committed (case_of r).answer outcome session (case_of r).next s).answer
    by (Err f) h next = h
    by (Ok effect) h next =
        let commit = committed outcome session (case_of (Ok effect)).next in
        counted effect.count commit commit.answer (committed_named n outcome session (case_of (Ok effect)).next le next)
