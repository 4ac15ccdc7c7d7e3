-- Each statement keeps the actions of live transactions numbered by their changes.
use Rattle.std.proofs.Common.{◌≡◌, ℕ, ◌+◌, ◌≤◌, Bool, true, false, cond, List, [], ◌∷◌, ◌++◌, Option, Some, None, refl, arith}
use Rattle.std.specs.Prelude.{◌==◌, length, nat_le, option_map, slice_index_or, unwrap_or, Result, Ok, Err}
use Rattle.std.specs.List.{list_all}
use Rattle.lv_schema.specs.declared.action.Action.{Action}
use Rattle.lv_schema.specs.declared.change.Change.{Change}
use Rattle.lv_schema.specs.declared.fault.Fault.{Fault}
use Rattle.lv_schema.specs.declared.open.Open.{Open}
use Rattle.lv_schema.specs.declared.rec.Rec.{Rec}
use Rattle.lv_schema.specs.declared.table.TableDef.{TableDef}
use Rattle.lv_schema.specs.declared.view.ViewDef.{ViewDef}
use Rattle.lv_schema.specs.Cases.{Outcome, good, failed, full, Case, answered, if_written, with_session, closed, with_empty_own, with_table, table_made, with_view, view_made, began, rolled_back, numbered, with_change, changed_by, changed, with_commit, committed_unless, committed, with_count, alone_committed, alone}
use Rattle.lv_schema.specs.Commits.{conflict_of, merged_full}
use Rattle.lv_schema.specs.Effects.{Effect, effect_of, first_fault}
use Rattle.lv_schema.specs.Records.{table_record, view_record, commit_record}
use Rattle.lv_schema.specs.World.{Visible, last, opened, transaction}
use Rattle.lv_schema.proofs.Apart.{all_map, all_weaker}
use Rattle.lv_replay.specs.Numbers.{number_rises, IsNumbered, IsNumberedOrNone, AreNumbered}
use Rattle.lv_replay.proofs.Tests.{both, and_left, and_right, le_test, le_of, all_set, all_at}

-- ---- a transaction with one more change
rises_numbered : (least n : ℕ) (ys : List Action) → least ≤ n → number_rises least (numbered n ys) ≡ true
rises_numbered least n [] le = refl
rises_numbered least n (y ∷ ys) le = both (nat_le least n) (number_rises n (numbered n ys)) (le_test least n le) (rises_numbered n n ys (omega arith))

rises_on : (least k : ℕ) (xs ys : List Action) → least ≤ k + 1 → number_rises least xs ≡ true → list_all (λ (a : Action). nat_le a.statement k) xs ≡ true → number_rises least (xs ++ numbered (k + 1) ys) ≡ true
rises_on least k [] ys le r w = rises_numbered least (k + 1) ys le
rises_on least k (x ∷ xs) ys le r w =
    let here : x.statement ≤ k = le_of x.statement k (and_left _ _ w) in
    both (nat_le least x.statement) (number_rises x.statement (xs ++ numbered (k + 1) ys)) (and_left _ _ r)
    (rises_on x.statement k xs ys (omega arith) (and_right (nat_le least x.statement) _ r) (and_right (nat_le x.statement k) _ w))

within_numbered : (n : ℕ) (ys : List Action) → list_all (λ (a : Action). nat_le a.statement n) (numbered n ys) ≡ true
within_numbered n [] = refl
within_numbered n (y ∷ ys) = both (nat_le n n) (list_all (λ (a : Action). nat_le a.statement n) (numbered n ys)) (le_test n n (omega arith)) (within_numbered n ys)

within_on : (k : ℕ) (xs ys : List Action) → list_all (λ (a : Action). nat_le a.statement k) xs ≡ true → list_all (λ (a : Action). nat_le a.statement (k + 1)) (xs ++ numbered (k + 1) ys) ≡ true
within_on k [] ys w = within_numbered (k + 1) ys
within_on k (x ∷ xs) ys w =
    let here : x.statement ≤ k = le_of x.statement k (and_left _ _ w) in
    both (nat_le x.statement (k + 1)) (list_all (λ (a : Action). nat_le a.statement (k + 1)) (xs ++ numbered (k + 1) ys)) (le_test x.statement (k + 1) (omega arith))
    (within_on k xs ys (and_right (nat_le x.statement k) _ w))

change_numbered : (tables : List TableDef) (actions : List Action) (o : Open) → IsNumbered o → IsNumbered (with_change tables actions o)
change_numbered tables actions o is = record { rises = rises_on 1 o.changes o.actions actions (omega arith) is.rises is.within; within = within_on o.changes o.actions actions is.within }

-- ---- the transaction of a session
pub transaction_numbered : (session : ℕ) (s : Visible) → AreNumbered s → IsNumbered (transaction session s)
transaction_numbered session s are = by (slice_index_or s.sessions session None) (all_at IsNumberedOrNone s.sessions session None tt are)
  where
    by : (x : Option Open) → IsNumberedOrNone x → IsNumbered (unwrap_or x (opened s))
    by None is = record { rises = refl; within = refl }
    by (Some o) is = is

session_numbered : (session : ℕ) (o : Option Open) (s : Visible) → IsNumberedOrNone o → AreNumbered s → AreNumbered (with_session session o s)
session_numbered session o s is are = all_set IsNumberedOrNone s.sessions session o is are

-- ---- the cases
pub began_numbered : (session : ℕ) (s : Visible) → AreNumbered s → AreNumbered (began session s).next
began_numbered session s are = session_numbered session (Some (opened s)) s (record { rises = refl; within = refl }) are

pub rolled_back_numbered : (session : ℕ) (s : Visible) → AreNumbered s → AreNumbered (rolled_back session s).next
rolled_back_numbered session s are = session_numbered session None s tt are

pub changed_numbered : (session : ℕ) (change : Change) (s : Visible) → AreNumbered s → AreNumbered (changed session change s).next
changed_numbered session change s are = by (effect_of s.tables change (transaction session s).own)
  where
    by : (r : Result Effect Fault) → AreNumbered (changed_by r session (transaction session s) s).next
    by (Err fault) = are
    by (Ok effect) = session_numbered session (Some (with_change s.tables effect.actions (transaction session s))) s (change_numbered s.tables effect.actions (transaction session s) (transaction_numbered session s are)) are

pub committed_numbered : (outcome : Rec → Outcome) (session : ℕ) (s : Visible) → AreNumbered s → AreNumbered (committed outcome session s).next
committed_numbered outcome session s are = by (length o.actions == 0)
  where
    o : Open
    o = transaction session s

    written : (out : Outcome) → AreNumbered (if_written out (commit_record o s) (Some (last s + 1)) (with_commit session o s) s).next
    written good = all_set IsNumberedOrNone s.sessions session None tt are
    written failed = are
    written (full need limit) = are

    unless : (x : Option Fault) → AreNumbered (committed_unless x outcome session o s).next
    unless None = written (outcome (commit_record o s))
    unless (Some fault) = session_numbered session None s tt are

    by : (t : Bool) → AreNumbered (cond {A = Case (Option ℕ)} t (answered None (closed session s)) (committed_unless (first_fault (conflict_of s o) (merged_full s o)) outcome session o s)).next
    by true = session_numbered session None s tt are
    by false = unless (first_fault (conflict_of s o) (merged_full s o))

pub alone_numbered : (outcome : Rec → Outcome) (session : ℕ) (change : Change) (s : Visible) → AreNumbered s → AreNumbered (alone outcome session change s).next
alone_numbered outcome session change s are = by (changed session change (began session s).next).answer
  where
    next : Visible
    next = (changed session change (began session s).next).next

    counted : (count : ℕ) (answer : Result (Option ℕ) Fault) (commit : Case (Option ℕ)) → AreNumbered commit.next → AreNumbered (with_count count answer commit s).next
    counted count (Err fault) commit after = are
    counted count (Ok number) commit after = after

    by : (answer : Result ℕ Fault) → AreNumbered (alone_committed answer outcome session next s).next
    by (Err fault) = are
    by (Ok count) = counted count (committed outcome session next).answer (committed outcome session next)
        (committed_numbered outcome session next (changed_numbered session change (began session s).next (began_numbered session s are)))

own_numbered : (x : Option Open) → IsNumberedOrNone x → IsNumberedOrNone (option_map with_empty_own x)
own_numbered None is = tt
own_numbered (Some o) is = record { rises = is.rises; within = is.within }

pub table_numbered : (outcome : Rec → Outcome) (def : TableDef) (s : Visible) → AreNumbered s → AreNumbered (table_made outcome def s).next
table_numbered outcome def s are = by (outcome (table_record def))
  where
    by : (out : Outcome) → AreNumbered (if_written {A = Unit {0}} out (table_record def) tt (with_table def s) s).next
    by good = all_map (option_map with_empty_own) IsNumberedOrNone s.sessions (all_weaker IsNumberedOrNone (λ x. IsNumberedOrNone (option_map with_empty_own x)) own_numbered s.sessions are)
    by failed = are
    by (full need limit) = are

pub view_numbered : (outcome : Rec → Outcome) (def : ViewDef) (s : Visible) → AreNumbered s → AreNumbered (view_made outcome def s).next
view_numbered outcome def s are = by (outcome (view_record def s))
  where
    by : (out : Outcome) → AreNumbered (if_written {A = Unit {0}} out (view_record def s) tt (with_view def s) s).next
    by good = are
    by failed = are
    by (full need limit) = are
