-- The tasks that a commit adds, view by view; and the tasks that are pending, which later commits follow, and whose
-- actions are among the entries that are kept.
use Rattle.std.proofs.Common.{◌≡◌, ℕ, zero, suc, ◌+◌, ◌<◌, ◌≤◌, Bool, true, false, cond, ◌&&◌, List, [], ◌∷◌, ◌++◌, map, length, take, get_or, refl, sym, ap, ◌∙◌, subst, arith}
use Rattle.std.specs.Prelude.{◌⊎◌, nat_lt, nat_le, slice_set}
use Rattle.std.specs.List.{filter, flat_map}
use Rattle.std.proofs.lemmas.Bool.Decides.{nat_tests}
use Rattle.std.proofs.lemmas.List.{length-append, length-map}
use Rattle.std.proofs.lemmas.List.Elements.{filter-append}
use Rattle.std.proofs.lemmas.List.Sums.{sum_by-cons}
use mathlib.Core.Logic.{inl, inr}
use Rattle.lv_schema.specs.declared.action.Action.{Action}
use Rattle.lv_schema.specs.declared.action.DeltaEntry.{DeltaEntry}
use Rattle.lv_schema.specs.declared.view.ViewDef.{ViewDef}
use Rattle.lv_schema.specs.Tasks.{actions_on, is_on, is_pending, is_task, pending}
use Rattle.lv_schema.specs.Versions.{delta_entry}
use Rattle.lv_schema.specs.World.{Visible, World, last, commit_at, numbers, no_view, view_at, point}
use Rattle.lv_schema.proofs.Numbers.{Each}
use Rattle.lv_schema.proofs.PendingTasks.{Pends, pending_each}
use Rattle.lv_schema.proofs.ServedQueries.{kept_point}
use Rattle.lv_tasks.specs.declared.task.Task.{Task}
use Rattle.lv_tasks.specs.Kept.{IsLater, actions_in, tasks_kept}
use Rattle.lv_upkeep.specs.Stands.{task_of}
use Rattle.lv_stands.specs.Kept.{EngineKept}
use Rattle.lv_stands.specs.Moves.{with_task, with_tasks}
use Rattle.lv_stands.specs.Stands.{StandsFor}
use Rattle.lv_stands.proofs.Tasks.{entries_above}

-- ---- one view after another: the first v views have theirs
module _ (number : ℕ) (actions : List Action) where
  turn : (views : List ViewDef) (tasks : List (List Task)) (v : ℕ) → length tasks ≡ length views → v < length views
      → with_tasks number actions (take (suc v) views) tasks
      ≡ slice_set (with_tasks number actions (take v views) tasks) v (with_task number (actions_on (get_or views v no_view) actions) (get_or (with_tasks number actions (take v views) tasks) v []))
  turn [] tasks v e lt = absurd (omega arith)
  turn (view ∷ views) [] v e lt = absurd (omega (arith, e))
  turn (view ∷ views) (first ∷ tasks) zero e lt = refl
  turn (view ∷ views) (first ∷ tasks) (suc v) e lt = ap (λ ts. with_task number (actions_on view actions) first ∷ ts) (turn views tasks v (omega (arith, e)) (omega arith))

  still : (views : List ViewDef) (tasks : List (List Task)) (v : ℕ) → length tasks ≡ length views → v < length views → actions_on (get_or views v no_view) actions ≡ 0
      → with_tasks number actions (take (suc v) views) tasks ≡ with_tasks number actions (take v views) tasks
  still [] tasks v e lt none = absurd (omega arith)
  still (view ∷ views) [] v e lt none = absurd (omega (arith, e))
  still (view ∷ views) (first ∷ tasks) zero e lt none = ap (λ n. with_task number n first ∷ tasks) none
  still (view ∷ views) (first ∷ tasks) (suc v) e lt none = ap (λ ts. with_task number (actions_on view actions) first ∷ ts) (still views tasks v (omega (arith, e)) (omega arith) none)

  untouched : (views : List ViewDef) (tasks : List (List Task)) (v : ℕ) → length tasks ≡ length views → get_or (with_tasks number actions (take v views) tasks) v [] ≡ get_or tasks v []
  untouched [] tasks zero e = refl
  untouched [] tasks (suc v) e = refl
  untouched (view ∷ views) [] v e = absurd (omega (arith, e))
  untouched (view ∷ views) (first ∷ tasks) zero e = refl
  untouched (view ∷ views) (first ∷ tasks) (suc v) e = untouched views tasks v (omega (arith, e))

  more_is : (v : ℕ) → suc v ≡ v + 1
  more_is v = omega arith

  -- a view with actions on its tables gets a task behind those that it had
  pub task_added : (views : List ViewDef) (tasks : List (List Task)) (v n : ℕ) → length tasks ≡ length views → v < length views → actions_on (view_at views v) actions ≡ suc n
      → with_tasks number actions (take (v + 1) views) tasks
      ≡ slice_set (with_tasks number actions (take v views) tasks) v (tasks_kept (with_tasks number actions (take v views) tasks) v ++ record { commit = number; actions = suc n } ∷ [])
  task_added views tasks v n e lt some =
      ap (λ k. with_tasks number actions (take k views) tasks) (sym (more_is v))
      ∙ turn views tasks v e lt
      ∙ ap (λ k. slice_set (with_tasks number actions (take v views) tasks) v (with_task number k (get_or (with_tasks number actions (take v views) tasks) v []))) some

  -- any other view has the tasks that it had
  pub no_task_added : (views : List ViewDef) (tasks : List (List Task)) (v : ℕ) → length tasks ≡ length views → v < length views → actions_on (view_at views v) actions ≡ 0
      → with_tasks number actions (take (v + 1) views) tasks ≡ with_tasks number actions (take v views) tasks
  no_task_added views tasks v e lt none = ap (λ k. with_tasks number actions (take k views) tasks) (sym (more_is v)) ∙ still views tasks v e lt none

  -- until its turn comes
  pub tasks_until : (views : List ViewDef) (tasks : List (List Task)) (v : ℕ) → length tasks ≡ length views → tasks_kept (with_tasks number actions (take v views) tasks) v ≡ tasks_kept tasks v
  tasks_until views tasks v e = untouched views tasks v e

-- ---- what is pending
fewer : {X : Type 0} (p : X → Bool) (xs : List X) → length (filter p xs) ≤ length xs
fewer p [] = omega arith
fewer {X} p (x ∷ xs) = by (p x) (fewer p xs)
  where
    by : (t : Bool) → length (filter p xs) ≤ length xs → length (cond t (x ∷ filter p xs) (filter p xs)) ≤ length (x ∷ xs)
    by true le = omega arith
    by false le = omega arith

module _ (s : Visible) (view : ViewDef) (low p : ℕ) (le : low ≤ p) where
  abbrev is_kept : DeltaEntry → Bool
  is_kept e = nat_lt low e.number

  abbrev entries : List ℕ → List DeltaEntry
  entries ks = flat_map (λ k. map (delta_entry k) (commit_at s.commits k)) ks

  above_of : (k : ℕ) (b c : Bool) → (nat_lt p k && b && c) ≡ true → low < k
  above_of k b c e = by (nat_lt p k) refl e
    where
      by : (t : Bool) → nat_lt p k ≡ t → (t && b && c) ≡ true → low < k
      by true f g = let lt : p < k = grind (arith, nat_tests) in omega arith
      by false f g = cc

  -- the actions of the tasks above p are among the entries above a lower number
  actions_kept : (ks : List ℕ) → actions_in (map (task_of s view) (filter (is_pending s view p (last s)) ks)) ≤ length (filter is_kept (entries ks))
  actions_kept [] = omega arith
  actions_kept (k ∷ ks) = by (is_pending s view p (last s) k) refl (actions_kept ks)
    where
      split : length (filter is_kept (entries (k ∷ ks))) ≡ length (filter is_kept (map (delta_entry k) (commit_at s.commits k))) + length (filter is_kept (entries ks))
      split = ap length (filter-append is_kept (map (delta_entry k) (commit_at s.commits k)) (entries ks)) ∙ length-append (filter is_kept (map (delta_entry k) (commit_at s.commits k))) (filter is_kept (entries ks))

      by : (t : Bool) → is_pending s view p (last s) k ≡ t → actions_in (map (task_of s view) (filter (is_pending s view p (last s)) ks)) ≤ length (filter is_kept (entries ks))
          → actions_in (map (task_of s view) (cond t (k ∷ filter (is_pending s view p (last s)) ks) (filter (is_pending s view p (last s)) ks))) ≤ length (filter is_kept (entries (k ∷ ks)))
      by true e ih =
          let above = above_of k (nat_le k (last s)) (is_task s view k) e in
          let all : length (filter is_kept (map (delta_entry k) (commit_at s.commits k))) ≡ length (commit_at s.commits k) =
          ap length (entries_above low k (commit_at s.commits k) above) ∙ length-map (commit_at s.commits k) (delta_entry k) in
          let few = fewer (is_on view) (commit_at s.commits k) in
          omega (arith, split, all, few, ih, sum_by-cons (λ (t : Task). t.actions) (task_of s view k) (map (task_of s view) (filter (is_pending s view p (last s)) ks)))
      by false e ih = omega (arith, split, ih)

later_of : (s : Visible) (view : ViewDef) (lo m number : ℕ) (ks : List ℕ) → last s < number → Each (Pends s view lo m) ks → IsLater number (map (task_of s view) ks)
later_of s view lo m number [] lt each = tt
later_of s view lo m number (k ∷ ks) lt each = (let within = each.0.within in omega arith, later_of s view lo m number ks lt each.1)

none_there : (tasks : List (List Task)) (v : ℕ) → length tasks ≤ v → get_or tasks v [] ≡ []
none_there [] v le = refl
none_there (t ∷ tasks) zero le = absurd (omega arith)
none_there (t ∷ tasks) (suc v) le = none_there tasks v (omega arith)

which : (v n : ℕ) → (v < n) ⊎ (n ≤ v)
which v n = grind arith

pub pending_kept : (w : World) (e : EngineKept) (v : ℕ) → StandsFor w e → IsLater (e.base.number + 1) (tasks_kept e.upkeep.tasks v) × (actions_in (tasks_kept e.upkeep.tasks v) ≤ length e.base.entries)
pending_kept w e v is = by (which v (length w.visible.views))
  where
    Holds : List Task → Type 0
    Holds tasks = IsLater (e.base.number + 1) tasks × (actions_in tasks ≤ length e.base.entries)

    by : (v < length w.visible.views) ⊎ (length w.visible.views ≤ v) → Holds (tasks_kept e.upkeep.tasks v)
    by (inl lt) =
        let view = view_at w.visible.views v in
        let kept = actions_kept w.visible view w.upkeep.pruned (point w.upkeep v) (kept_point w v is.steady lt) (numbers (last w.visible)) in
        subst Holds (sym (is.upkeep_stands.each v lt)) (
          later_of w.visible view (point w.upkeep v) (last w.visible) (e.base.number + 1) (pending w.visible view (point w.upkeep v) (last w.visible)) (omega (arith, is.base_stands.number_is)) (pending_each w.visible view (point w.upkeep v) (last w.visible)),
          omega (arith, kept, ap length is.base_stands.entries_are),
        )
    by (inr le) = subst Holds (sym (none_there e.upkeep.tasks v (omega (arith, le, is.upkeep_stands.all)))) (tt, omega arith)
