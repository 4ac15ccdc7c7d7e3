-- What is told from what is kept is what is told from the world.
use Rattle.std.proofs.Common.{◌≡◌, ℕ, zero, suc, ◌-◌, ◌<◌, ◌≤◌, Bool, true, false, cond, List, [], ◌∷◌, ◌++◌, refl, ◌∙◌, ap, ap₂, arith, length, filter, get_or, map, Option, Some, None}
use Rattle.std.specs.Prelude.{◌&&◌, nat_lt, nat_le, option_map}
use Rattle.std.proofs.lemmas.Bool.Decides.{nat_tests}
use Rattle.lv_schema.specs.declared.forced.Forced.{Forced}
use Rattle.lv_schema.specs.declared.view.ViewDef.{ViewDef}
use Rattle.lv_schema.specs.StepPlans.{at_point, forced, forced_from, forced_within, is_inside, planned, planned_from, step_end, step_of, then_more, view_point}
use Rattle.lv_schema.specs.Tasks.{is_pending, is_task, pending}
use Rattle.lv_schema.specs.World.{Settings, Visible, World, last, live, numbers, point, view_at}
use Rattle.lv_schema.proofs.Numbers.{Each, each_weaker, numbers_each}
use Rattle.lv_schema.proofs.PlannedSteps.{planned_is}
use Rattle.lv_tasks.specs.declared.task.Task.{Task}
use Rattle.lv_tasks.specs.Kept.{commits_between, tasks_kept}
use Rattle.lv_upkeep.specs.Kept.{UpkeepKept, forced_among, forced_in, planned_among, planned_in}
use Rattle.lv_upkeep.specs.Stands.{UpkeepStands, task_of}

-- the commits of the pending tasks from lo on, which is at or above the view's point p
module _ (s : Visible) (view : ViewDef) (p lo m : ℕ) (le : p ≤ lo) where
  commits_among : (ks : List ℕ) → Each (λ k. k ≤ last s) ks
      → commits_between lo m (map (task_of s view) (filter (is_pending s view p (last s)) ks)) ≡ filter (is_pending s view lo m) ks
  commits_among [] each = refl
  commits_among (k ∷ ks) each = by (is_task s view k) refl (nat_lt p k) refl (nat_lt lo k) refl (nat_le k m) refl (commits_among ks each.1)
    where
      upto : nat_le k (last s) ≡ true
      upto = let h = each.0 in grind (arith, nat_tests)

      by : (c : Bool) → is_task s view k ≡ c → (a : Bool) → nat_lt p k ≡ a → (d : Bool) → nat_lt lo k ≡ d → (e : Bool) → nat_le k m ≡ e
          → commits_between lo m (map (task_of s view) (filter (is_pending s view p (last s)) ks)) ≡ filter (is_pending s view lo m) ks
          → commits_between lo m (map (task_of s view) (cond ((a && nat_le k (last s)) && c) (k ∷ filter (is_pending s view p (last s)) ks) (filter (is_pending s view p (last s)) ks)))
          ≡ cond ((d && e) && c) (k ∷ filter (is_pending s view lo m) ks) (filter (is_pending s view lo m) ks)
      by c ec false ea false ed e ee ih = ih
      by c ec false ea true ed e ee ih = absurd (grind (arith, nat_tests))
      by false ec true ea false ed e ee ih = rw upto ih
      by false ec true ea true ed false ee ih = rw upto ih
      by false ec true ea true ed true ee ih = rw upto ih
      by true ec true ea false ed e ee ih = rw (upto, ed) ih
      by true ec true ea true ed false ee ih = rw (upto, ed, ee) ih
      by true ec true ea true ed true ee ih = rw (upto, ed, ee) (ap (λ (l : List ℕ). k ∷ l) ih)

  pub commits_pending : commits_between lo m (map (task_of s view) (pending s view p (last s))) ≡ pending s view lo m
  commits_pending = commits_among (numbers (last s)) (each_weaker (λ k. (0 < k) × (k ≤ last s)) (λ k. k ≤ last s) (numbers (last s)) (λ k h. h.1) (numbers_each (last s)))

module _ (w : World) (u : UpkeepKept) (settings : Settings) (m v : ℕ) (is : UpkeepStands w u) (lt : v < length w.visible.views) where
  planned_told : (lo : ℕ) → point w.upkeep v ≤ lo → planned_among (is_inside (live w.visible.sessions)) settings.combine v (tasks_kept u.tasks v) m lo ≡ planned_from settings w.visible (at_point v lo) m
  planned_told lo le =
      ap (λ (ts : List Task). planned_among (is_inside (live w.visible.sessions)) settings.combine v ts m lo) (is.each v lt)
      ∙ ap (λ (ks : List ℕ). option_map (step_of v lo) (step_end (is_inside (live w.visible.sessions)) settings.combine ks)) (commits_pending w.visible (view_at w.visible.views v) (point w.upkeep v) lo m le)

  forced_told : (turns lo : ℕ) → point w.upkeep v ≤ lo → forced_among (is_inside (live w.visible.sessions)) settings.combine v (tasks_kept u.tasks v) m turns lo ≡ forced_within settings w.visible v m turns lo
  forced_told zero lo le = refl
  forced_told (suc turns) lo le =
      ap (λ (x : Option Forced). then_more x (forced_among (is_inside (live w.visible.sessions)) settings.combine v (tasks_kept u.tasks v) m turns)) (planned_told lo le)
      ∙ by (planned_from settings w.visible (at_point v lo) m) refl (λ hi h. forced_told turns hi h)
    where
      by : (x : Option Forced) → planned_from settings w.visible (at_point v lo) m ≡ x
          → ((hi : ℕ) → point w.upkeep v ≤ hi → forced_among (is_inside (live w.visible.sessions)) settings.combine v (tasks_kept u.tasks v) m turns hi ≡ forced_within settings w.visible v m turns hi)
          → then_more x (forced_among (is_inside (live w.visible.sessions)) settings.combine v (tasks_kept u.tasks v) m turns) ≡ then_more x (forced_within settings w.visible v m turns)
      by None e ih = refl
      by (Some f) e ih = let p = planned_is settings w.visible v m lo f e in ap (λ (fs : List Forced). f ∷ fs) (ih f.hi (omega (arith, p.rises)))

  point_is : get_or u.points v 0 ≡ point w.upkeep v
  point_is = ap (λ (ps : List ℕ). get_or ps v 0) is.points_are

  pub planned_is_told : planned_in (is_inside (live w.visible.sessions)) settings.combine u v m ≡ planned settings v w m
  planned_is_told =
      ap (λ (lo : ℕ). planned_among (is_inside (live w.visible.sessions)) settings.combine v (tasks_kept u.tasks v) m lo) point_is
      ∙ planned_told (point w.upkeep v) (omega arith)

  pub forced_of_view : forced_among (is_inside (live w.visible.sessions)) settings.combine v (tasks_kept u.tasks v) m (m - get_or u.points v 0) (get_or u.points v 0)
      ≡ forced_from settings w.visible (view_point w v) m
  forced_of_view =
      ap (λ (lo : ℕ). forced_among (is_inside (live w.visible.sessions)) settings.combine v (tasks_kept u.tasks v) m (m - lo) lo) point_is
      ∙ forced_told (m - point w.upkeep v) (point w.upkeep v) (omega arith)

pub forced_is_told : (w : World) (u : UpkeepKept) (settings : Settings) (m : ℕ) (views : List ℕ) → UpkeepStands w u → Each (λ v. v < length w.visible.views) views
    → forced_in (is_inside (live w.visible.sessions)) settings.combine u views m ≡ forced settings w views m
forced_is_told w u settings m [] is each = refl
forced_is_told w u settings m (v ∷ views) is each =
    ap₂ (λ (xs ys : List Forced). xs ++ ys) (forced_of_view w u settings m v is each.0) (forced_is_told w u settings m views is each.1)
