-- A step of a view: its rows get the difference, its point rises, and its tasks go.
use Rattle.std.proofs.Common.{◌≡◌, ℕ, ◌<◌, ◌≤◌, true, false, List, [], ◌∷◌, map, length, get_or, sym, ap, ◌∙◌, subst, arith}
use Rattle.std.specs.Prelude.{◌⊎◌, nat_lt, slice_set}
use Rattle.std.proofs.lemmas.Bool.Decides.{nat_tests}
use Rattle.std.proofs.lemmas.List.{length-set, get_or-set_same, get_or-set_other}
use mathlib.Core.Logic.{inl, inr}
use Rattle.lv_values.specs.declared.value.Value.{Value}
use Rattle.lv_schema.specs.declared.forced.Forced.{Forced}
use Rattle.lv_schema.specs.declared.view.ViewDef.{ViewDef}
use Rattle.lv_schema.specs.Differences.{view_difference, groups_of}
use Rattle.lv_schema.specs.Greatest.{IsLive}
use Rattle.lv_schema.specs.Groups.{view_rows}
use Rattle.lv_schema.specs.Served.{IsServed, with_install}
use Rattle.lv_schema.specs.SoundWorld.{IsSound}
use Rattle.lv_schema.specs.Steady.{IsStep, IsSteady}
use Rattle.lv_schema.specs.Tasks.{pending}
use Rattle.lv_schema.specs.UpkeepCases.{with_steps}
use Rattle.lv_schema.specs.World.{Visible, World, last, snap, view_at, point}
use Rattle.lv_schema.proofs.ServedReaders.{step_served}
use Rattle.lv_tasks.specs.Kept.{tasks_kept, tasks_above}
use Rattle.lv_upkeep.specs.Kept.{UpkeepKept}
use Rattle.lv_upkeep.specs.Moves.{upkeep_stepped}
use Rattle.lv_upkeep.specs.Stands.{UpkeepStands, task_of}
use Rattle.lv_viewrows.specs.Changed.{groups_with}
use Rattle.lv_viewrows.specs.Kept.{groups_at, rows_listed}
use Rattle.lv_stands.specs.Kept.{ViewKept, EngineKept, view_kept, rows_shown, no_view_kept}
use Rattle.lv_stands.specs.Moves.{ViewInstalls, engine_stepped, least_read}
use Rattle.lv_stands.specs.Stands.{ViewStands, ViewsStand, StandsFor}
use Rattle.lv_stands.proofs.Carried.{step_steady}
use Rattle.lv_stands.proofs.Cleans.{least_read_is}
use Rattle.lv_stands.proofs.Tasks.{tasks_left}
use Rattle.lv_stands.proofs.ViewGroups.{groups_lead_on, groups_list_rows}

eq_cases : (a b : ℕ) → (a ≡ b) ⊎ (a ≡ b → ⊥)
eq_cases a b = grind arith

-- ---- the view's rows
module _ (s : Visible) (sound : IsSound s) (floor v : ℕ) (lt : v < length s.views) (lo hi : ℕ) (upto : hi ≤ last s) (old new : ViewKept) where
  groups_now : ViewInstalls floor (view_at s.views v) hi (view_difference (view_at s.views v) (snap s lo) (snap s hi)) old new → ViewStands s (view_at s.views v) lo old
      → (n : ℕ) → hi ≤ n → groups_at n new.versions ≡ groups_of (view_at s.views v) (snap s hi)
  groups_now i is n le =
      i.from n le
      ∙ ap (groups_with (view_difference (view_at s.views v) (snap s lo) (snap s hi))) (is.groups_are old.at (omega (arith, is.at_is)))
      ∙ groups_lead_on s sound v lt lo hi upto

  rows_now : ViewInstalls floor (view_at s.views v) hi (view_difference (view_at s.views v) (snap s lo) (snap s hi)) old new → ViewStands s (view_at s.views v) lo old
      → (n : ℕ) → hi ≤ n → rows_shown (view_at s.views v) n new ≡ view_rows (view_at s.views v) (snap s hi)
  rows_now i is n le = ap (rows_listed (view_at s.views v)) (groups_now i is n le) ∙ groups_list_rows s sound v lt hi upto

-- where two show the same to each live reader, and from the point on
served_alike : (s : Visible) (def : ViewDef) (p : ℕ) (f g : ℕ → List (List Value)) → ((k : ℕ) → IsLive s k ⊎ (p ≤ k) → g k ≡ f k) → IsServed s def p f → IsServed s def p g
served_alike s def p f g same is = record { now = λ k le. same k (inr le) ∙ is.now k le; before = λ k l lt. same k (inl l) ∙ is.before k l lt }

pub view_stepped : (s : Visible) (floor : ℕ) (f : Forced) (old new : ViewKept) → ((k : ℕ) → IsLive s k → floor ≤ k) → IsSound s → IsStep s f → ViewStands s (view_at s.views f.view) f.lo old
    → ViewInstalls floor (view_at s.views f.view) f.hi (view_difference (view_at s.views f.view) (snap s f.lo) (snap s f.hi)) old new → ViewStands s (view_at s.views f.view) f.hi new
view_stepped s floor f old new lives sound step is i =
    record {
      at_is = i.at_is;
      served = served_alike s (view_at s.views f.view) f.hi (with_install f.hi (view_rows (view_at s.views f.view) (snap s f.hi)) (λ n. rows_shown (view_at s.views f.view) n old)) (λ n. rows_shown (view_at s.views f.view) n new)
          (λ k from. by k from (cases k f.hi))
          (step_served s f (λ n. rows_shown (view_at s.views f.view) n old) sound step is.served);
      groups_are = groups_now s sound floor f.view step.in_use f.lo f.hi step.within old new i is;
    }
  where
    cases : (k t : ℕ) → (k < t) ⊎ (t ≤ k)
    cases k t = grind arith

    by : (k : ℕ) → IsLive s k ⊎ (f.hi ≤ k) → (k < f.hi) ⊎ (f.hi ≤ k) → rows_shown (view_at s.views f.view) k new ≡ with_install f.hi (view_rows (view_at s.views f.view) (snap s f.hi)) (λ n. rows_shown (view_at s.views f.view) n old) k
    by k (inl l) (inl lt) = let test : nat_lt k f.hi ≡ true = grind (arith, nat_tests) in rw test (ap (rows_listed (view_at s.views f.view)) (i.before k (lives k l) lt))
    by k (inr le) (inl lt) = absurd (omega arith)
    by k from (inr le) = let test : nat_lt k f.hi ≡ false = grind (arith, nat_tests) in rw test (rows_now s sound floor f.view step.in_use f.lo f.hi step.within old new i is k le)

-- ---- the points and tasks
module _ (w : World) (f : Forced) (steady : IsSteady w) (step : IsStep w.visible f) (at : point w.upkeep f.view ≡ f.lo) where
  point_here : point (with_steps (f ∷ []) w.upkeep) f.view ≡ f.hi
  point_here = get_or-set_same w.upkeep.points f.view f.hi 0 (omega (arith, step.in_use, steady.points))

  point_there : (v : ℕ) → (v ≡ f.view → ⊥) → point (with_steps (f ∷ []) w.upkeep) v ≡ point w.upkeep v
  point_there v ne = get_or-set_other w.upkeep.points f.view v f.hi 0 ne

  upkeep_steps : (u : UpkeepKept) → UpkeepStands w u → UpkeepStands (record { visible = w.visible; upkeep = with_steps (f ∷ []) w.upkeep }) (upkeep_stepped f u)
  upkeep_steps u is = record {
    points_are = ap (λ ps. slice_set ps f.view f.hi) is.points_are;
    marks_are = is.marks_are;
    claims_are = is.claims_are;
    all = length-set u.tasks f.view (tasks_above f.hi (tasks_kept u.tasks f.view)) ∙ is.all;
    each = λ v lt. each v lt (eq_cases v f.view);
  }
    where
      here : get_or (slice_set u.tasks f.view (tasks_above f.hi (tasks_kept u.tasks f.view))) f.view [] ≡ map (task_of w.visible (view_at w.visible.views f.view)) (pending w.visible (view_at w.visible.views f.view) (point (with_steps (f ∷ []) w.upkeep) f.view) (last w.visible))
      here =
          get_or-set_same u.tasks f.view (tasks_above f.hi (tasks_kept u.tasks f.view)) [] (omega (arith, step.in_use, is.all))
          ∙ ap (tasks_above f.hi) (is.each f.view step.in_use)
          ∙ tasks_left w.visible (view_at w.visible.views f.view) (point w.upkeep f.view) f.hi (omega (arith, at, step.rises))
          ∙ ap (λ p. map (task_of w.visible (view_at w.visible.views f.view)) (pending w.visible (view_at w.visible.views f.view) p (last w.visible))) (sym point_here)

      each : (v : ℕ) → v < length w.visible.views → (v ≡ f.view) ⊎ (v ≡ f.view → ⊥)
          → get_or (slice_set u.tasks f.view (tasks_above f.hi (tasks_kept u.tasks f.view))) v [] ≡ map (task_of w.visible (view_at w.visible.views v)) (pending w.visible (view_at w.visible.views v) (point (with_steps (f ∷ []) w.upkeep) v) (last w.visible))
      each v lt (inl e) = subst (λ x. get_or (slice_set u.tasks f.view (tasks_above f.hi (tasks_kept u.tasks f.view))) x [] ≡ map (task_of w.visible (view_at w.visible.views x)) (pending w.visible (view_at w.visible.views x) (point (with_steps (f ∷ []) w.upkeep) x) (last w.visible))) (sym e) here
      each v lt (inr ne) =
          get_or-set_other u.tasks f.view v (tasks_above f.hi (tasks_kept u.tasks f.view)) [] ne
          ∙ is.each v lt
          ∙ ap (λ p. map (task_of w.visible (view_at w.visible.views v)) (pending w.visible (view_at w.visible.views v) p (last w.visible))) (sym (point_there v ne))

  views_step : (floor : ℕ) (rows : List ViewKept) (new : ViewKept) → ((k : ℕ) → IsLive w.visible k → floor ≤ k) → ViewsStand w rows
      → ViewInstalls floor (view_at w.visible.views f.view) f.hi (view_difference (view_at w.visible.views f.view) (snap w.visible f.lo) (snap w.visible f.hi)) (view_kept rows f.view) new
      → ViewsStand (record { visible = w.visible; upkeep = with_steps (f ∷ []) w.upkeep }) (slice_set rows f.view new)
  views_step floor rows new lives is i = record {
    all = length-set rows f.view new ∙ is.all;
    each = λ v lt. each v lt (eq_cases v f.view);
  }
    where
      was : ViewStands w.visible (view_at w.visible.views f.view) f.lo (view_kept rows f.view)
      was = subst (λ p. ViewStands w.visible (view_at w.visible.views f.view) p (view_kept rows f.view)) at (is.each f.view step.in_use)

      here : ViewStands w.visible (view_at w.visible.views f.view) (point (with_steps (f ∷ []) w.upkeep) f.view) (get_or (slice_set rows f.view new) f.view no_view_kept)
      here =
          subst (λ p. ViewStands w.visible (view_at w.visible.views f.view) p (get_or (slice_set rows f.view new) f.view no_view_kept)) (sym point_here)
          (subst (λ k. ViewStands w.visible (view_at w.visible.views f.view) f.hi k) (sym (get_or-set_same rows f.view new no_view_kept (omega (arith, step.in_use, is.all))))
          (view_stepped w.visible floor f (view_kept rows f.view) new lives steady.sound step was i))

      each : (v : ℕ) → v < length w.visible.views → (v ≡ f.view) ⊎ (v ≡ f.view → ⊥) → ViewStands w.visible (view_at w.visible.views v) (point (with_steps (f ∷ []) w.upkeep) v) (get_or (slice_set rows f.view new) v no_view_kept)
      each v lt (inl e) = subst (λ x. ViewStands w.visible (view_at w.visible.views x) (point (with_steps (f ∷ []) w.upkeep) x) (get_or (slice_set rows f.view new) x no_view_kept)) (sym e) here
      each v lt (inr ne) =
          subst (λ p. ViewStands w.visible (view_at w.visible.views v) p (get_or (slice_set rows f.view new) v no_view_kept)) (sym (point_there v ne))
          (subst (λ k. ViewStands w.visible (view_at w.visible.views v) (point w.upkeep v) k) (sym (get_or-set_other rows f.view v new no_view_kept ne)) (is.each v lt))

pub step_stands : (w : World) (e : EngineKept) (f : Forced) (new : ViewKept) → StandsFor w e → IsStep w.visible f → point w.upkeep f.view ≡ f.lo
    → ViewInstalls (least_read e) (view_at w.visible.views f.view) f.hi (view_difference (view_at w.visible.views f.view) (snap w.visible f.lo) (snap w.visible f.hi)) (view_kept e.rows f.view) new
    → StandsFor (record { visible = w.visible; upkeep = with_steps (f ∷ []) w.upkeep }) (engine_stepped f new e)
step_stands w e f new is step at i = record {
  steady = step_steady w f is.steady step at;
  tables_are = is.tables_are;
  views_are = is.views_are;
  base_stands = is.base_stands;
  upkeep_stands = upkeep_steps w f is.steady step at e.upkeep is.upkeep_stands;
  views_stand = views_step w f is.steady step at (least_read e) e.rows new (least_read_is w e is) is.views_stand i;
  sessions_stand = is.sessions_stand;
  journal_is = is.journal_is;
}
