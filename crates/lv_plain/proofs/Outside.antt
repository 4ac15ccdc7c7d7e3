-- What is answered outside a transaction, answered between a BEGIN and the end of the transaction.
use Rattle.std.proofs.Common.{◌≡◌, ℕ, zero, suc, ◌-◌, ◌≤◌, Bool, true, false, cond, List, [], ◌∷◌, length, Option, Some, None, refl, sym, ap, ◌∙◌, subst, arith}
use Rattle.std.specs.Prelude.{◌+◌, ◌==◌, ◌&&◌, ◌||◌, nat_le, nat_lt, option_map, slice_index_or, slice_set, unwrap_or, Result, Ok, Err}
use Rattle.std.specs.List.{flat_map}
use Rattle.std.proofs.lemmas.Bool.Decides.{nat_tests}
use Rattle.lv_schema.specs.declared.change.Change.{Change}
use Rattle.lv_schema.specs.declared.fault.Fault.{Fault}
use Rattle.lv_schema.specs.declared.query.Query.{Query}
use Rattle.lv_schema.specs.declared.rec.Rec.{Rec}
use Rattle.lv_schema.specs.Answers.{answer_of}
use Rattle.lv_schema.specs.Cases.{Case, Outcome, good, answered, began, changed, changed_by, closed, committed, committed_unless, if_written, rolled_back, with_commit, with_session}
use Rattle.lv_schema.specs.Commits.{conflict_of, merged_full}
use Rattle.lv_schema.specs.Effects.{Effect, effect_of, first_fault}
use Rattle.lv_schema.specs.Records.{commit_record}
use Rattle.lv_schema.specs.StepPlans.{at_point, forced, forced_within, is_inside, planned_from, step_end, step_of, then_more, view_point}
use Rattle.lv_schema.specs.Tasks.{pending}
use Rattle.lv_schema.specs.UpkeepCases.{forced_by, views_of, with_steps}
use Rattle.lv_schema.specs.WholeWorld.{querying, world_after}
use Rattle.lv_schema.specs.declared.open.Open.{Open}
use Rattle.lv_schema.specs.World.{Visible, World, Settings, last, live, opened, transaction, view_at}
use Rattle.lv_schema.proofs.Numbers.{Each, each_weaker}
use Rattle.lv_schema.proofs.PendingTasks.{Pends, pending_each}
use Rattle.lv_schema.proofs.PlannedSteps.{reached, step_end_is}

-- ---- the transaction of a session
pub set_twice : {X : Type 0} (xs : List X) (k : ℕ) (a b : X) → slice_set (slice_set xs k a) k b ≡ slice_set xs k b
set_twice [] k a b = refl
set_twice (x ∷ xs) zero a b = refl
set_twice {X} (x ∷ xs) (suc k) a b = ap (λ (ys : List X). x ∷ ys) (set_twice xs k a b)

pub set_none : {X : Type 0} (xs : List (Option X)) (k : ℕ) → slice_index_or xs k None ≡ None → slice_set xs k None ≡ xs
set_none [] k e = refl
set_none {X} (x ∷ xs) zero e = ap (λ (y : Option X). y ∷ xs) (sym e)
set_none {X} (x ∷ xs) (suc k) e = ap (λ (ys : List (Option X)). x ∷ ys) (set_none xs k e)

set_then_none : (xs : List (Option Open)) (k : ℕ) (o : Option Open) → slice_index_or xs k None ≡ None → slice_set (slice_set xs k o) k None ≡ xs
set_then_none xs k o e = set_twice xs k o None ∙ set_none xs k e

opened_there : (xs : List (Option Open)) (k : ℕ) (o : Open) → slice_index_or xs k None ≡ None → unwrap_or (slice_index_or (slice_set xs k (Some o)) k None) o ≡ o
opened_there [] k o e = refl
opened_there (x ∷ xs) zero o e = refl
opened_there (x ∷ xs) (suc k) o e = opened_there xs k o e

closed_again : (session : ℕ) (s : Visible) (o : Option Open) → slice_index_or s.sessions session None ≡ None → closed session (with_session session o s) ≡ s
closed_again session s o e = ap (λ (xs : List (Option Open)). record s { sessions = xs }) (set_then_none s.sessions session o e)

module _ (session : ℕ) (s : Visible) (free : slice_index_or s.sessions session None ≡ None) where
  abbrev begun : Visible
  begun = (began session s).next

  transaction_opened : transaction session s ≡ opened s
  transaction_opened = ap (λ (o : Option Open). unwrap_or o (opened s)) free

  pub begun_reads : transaction session begun ≡ transaction session s
  begun_reads = opened_there s.sessions session (opened s) free ∙ sym transaction_opened

-- ---- steps
inside_opened : (xs : List (Option Open)) (k : ℕ) (o : Open) (from below : ℕ) → slice_index_or xs k None ≡ None → below ≤ o.snapshot
    → is_inside (live (slice_set xs k (Some o))) from below ≡ is_inside (live xs) from below
inside_opened [] k o from below e le = refl
inside_opened (None ∷ xs) zero o from below e le = by (nat_lt o.snapshot below) refl (nat_le from o.snapshot)
  where
    by : (b : Bool) → nat_lt o.snapshot below ≡ b → (a : Bool) → ((a && b) || is_inside (live xs) from below) ≡ is_inside (live xs) from below
    by true is a = absurd (grind (arith, nat_tests))
    by false is true = refl
    by false is false = refl
inside_opened (Some p ∷ xs) zero o from below e le = absurd cc
inside_opened (None ∷ xs) (suc k) o from below e le = inside_opened xs k o from below e le
inside_opened (Some p ∷ xs) (suc k) o from below e le = ap (λ b. (nat_le from p.snapshot && nat_lt p.snapshot below) || b) (inside_opened xs k o from below e le)

reached_same : (f g : ℕ → ℕ → Bool) (first hi more : ℕ) (ts : List ℕ) → Each (λ t. f first t ≡ g first t) ts → reached f first hi more ts ≡ reached g first hi more ts
reached_same f g first hi zero ts h = refl
reached_same f g first hi (suc more) [] h = refl
reached_same f g first hi (suc more) (t ∷ ts) h = λ i. cond (h.0 i) hi (reached_same f g first t more ts h.1 i)

end_same : (f g : ℕ → ℕ → Bool) (combine : ℕ) (ts : List ℕ) → ((first : ℕ) → Each (λ t. f first t ≡ g first t) ts) → step_end f combine ts ≡ step_end g combine ts
end_same f g combine [] h = refl
end_same f g combine (t ∷ ts) h = step_end_is f combine t ts ∙ ap (λ n. Some n) (reached_same f g t t (combine - 1) ts (h t).1) ∙ sym (step_end_is g combine t ts)

module _ (settings : Settings) (session : ℕ) (s : Visible) (free : slice_index_or s.sessions session None ≡ None) where
  planned_same : (v m lo : ℕ) → planned_from settings (begun session s free) (at_point v lo) m ≡ planned_from settings s (at_point v lo) m
  planned_same v m lo =
      ap (option_map (step_of v lo))
      (end_same (is_inside (live (begun session s free).sessions)) (is_inside (live s.sessions)) settings.combine (pending s (view_at s.views v) lo m)
      (λ first. each_weaker (Pends s (view_at s.views v) lo m) (λ t. is_inside (live (begun session s free).sessions) first t ≡ is_inside (live s.sessions) first t) (pending s (view_at s.views v) lo m)
      (λ t p. inside_opened s.sessions session (opened s) first t free p.within) (pending_each s (view_at s.views v) lo m)))

  within_same : (v m turns lo : ℕ) → forced_within settings (begun session s free) v m turns lo ≡ forced_within settings s v m turns lo
  within_same v m zero lo = refl
  within_same v m (suc turns) lo =
      ap (λ o. then_more o (forced_within settings (begun session s free) v m turns)) (planned_same v m lo)
      ∙ λ i. then_more (planned_from settings s (at_point v lo) m) (λ hi. within_same v m turns hi i)

  steps_same : (w : World) → w.visible ≡ s → (views : List ℕ) (m : ℕ) → forced settings (record { visible = begun session s free; upkeep = w.upkeep }) views m ≡ forced settings (record { visible = s; upkeep = w.upkeep }) views m
  steps_same w is views m = λ i. flat_map (λ v. within_same v m (m - (view_point w v).lo) (view_point w v).lo i) views

-- ---- a query
module _ (settings : Settings) (session : ℕ) (query : Query) (w : World) (free : slice_index_or w.visible.sessions session None ≡ None) where
  abbrev opening : World
  opening = world_after (began session w.visible) w

  forced_same : forced_by settings session query opening ≡ forced_by settings session query w
  forced_same =
      steps_same settings session w.visible free w refl (views_of query) (transaction session opening.visible).snapshot
      ∙ ap (λ (o : Open). forced settings w (views_of query) o.snapshot) (begun_reads session w.visible free)

  pub queried_outside : ((querying settings session query opening).answer ≡ (querying settings session query w).answer)
      × (world_after (rolled_back session (querying settings session query opening).next.visible) (querying settings session query opening).next ≡ (querying settings session query w).next)
  queried_outside = (
    λ i. record { forced = forced_same i; rows = answer_of w.visible.views query (begun_reads session w.visible free i).own },
    λ i. record { visible = closed_again session w.visible (Some (opened w.visible)) free i; upkeep = with_steps (forced_same i) w.upkeep },
  )

-- ---- a change
module _ (session : ℕ) (w : World) (free : slice_index_or w.visible.sessions session None ≡ None) where
  pub rolled_back_at_once : world_after (rolled_back session (began session w.visible).next) (world_after (began session w.visible) w) ≡ w
  rolled_back_at_once = λ i. record { visible = closed_again session w.visible (Some (opened w.visible)) free i; upkeep = w.upkeep }

  changed_closed : (change : Change) → closed session (changed session change (began session w.visible).next).next ≡ w.visible
  changed_closed change = by (effect_of begun.tables change o.own)
    where
      begun : Visible
      begun = (began session w.visible).next

      o : Open
      o = transaction session begun

      by : (e : Result Effect Fault) → closed session (changed_by e session o begun).next ≡ w.visible
      by (Err fault) = closed_again session w.visible (Some (opened w.visible)) free
      by (Ok effect) = ap (λ (xs : List (Option Open)). record w.visible { sessions = xs }) (set_twice _ session _ None ∙ set_then_none w.visible.sessions session (Some (opened w.visible)) free)

-- a commit that is refused, where its record is written, ends the transaction and leaves no record
abbrev Closes : ℕ → World → Fault → Case (Option ℕ) → Type 0
Closes session w fault c = c.answer ≡ Err fault → world_after c w ≡ world_after (rolled_back session w.visible) w

refused_closes : (outcome : Rec → Outcome) → ((rec : Rec) → outcome rec ≡ good) → (session : ℕ) (w : World) (fault : Fault) → (committed outcome session w.visible).answer ≡ Err fault
    → world_after (committed outcome session w.visible) w ≡ world_after (rolled_back session w.visible) w
refused_closes outcome written session w fault e = by (length o.actions == 0) e
  where
    s : Visible
    s = w.visible

    o : Open
    o = transaction session s

    unless : (f : Option Fault) → Closes session w fault (committed_unless f outcome session o s)
    unless (Some f) = λ e. refl
    unless None = subst (λ (out : Outcome). Closes session w fault (if_written out (commit_record o s) (Some (last s + 1)) (with_commit session o s) s)) (sym (written (commit_record o s))) (λ e. absurd cc)

    by : (b : Bool) → Closes session w fault (cond {A = Case (Option ℕ)} b (answered None (closed session s)) (committed_unless (first_fault (conflict_of s o) (merged_full s o)) outcome session o s))
    by true = λ e. absurd cc
    by false = unless (first_fault (conflict_of s o) (merged_full s o))

pub not_committed : (outcome : Rec → Outcome) → ((rec : Rec) → outcome rec ≡ good) → (session : ℕ) (change : Change) (w : World) (fault : Fault) → slice_index_or w.visible.sessions session None ≡ None
    → let changing = changed session change (began session w.visible).next in
    (committed outcome session changing.next).answer ≡ Err fault → world_after (committed outcome session changing.next) (record { visible = changing.next; upkeep = w.upkeep }) ≡ w
not_committed outcome written session change w fault free e =
    refused_closes outcome written session (record { visible = (changed session change (began session w.visible).next).next; upkeep = w.upkeep }) fault e
    ∙ λ i. record { visible = changed_closed session w free change i; upkeep = w.upkeep }
