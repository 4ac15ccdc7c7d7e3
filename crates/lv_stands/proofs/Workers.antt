-- What workers and marks do, and what is planned, told from what is kept.
use Rattle.std.proofs.Common.{◌≡◌, ℕ, zero, suc, ◌+◌, ◌<◌, ◌≤◌, Bool, true, false, cond, not, List, [], ◌∷◌, map, length, Option, Some, None, refl, sym, ap, ap₂, ◌∙◌, arith}
use Rattle.std.specs.Prelude.{slice_set}
use Rattle.std.specs.List.{filter, filter_map, list_any, range_with_len, AllByRecursion}
use Rattle.lv_schema.specs.declared.forced.Forced.{Forced}
use Rattle.lv_schema.specs.declared.pending.Pending.{Pending}
use Rattle.lv_schema.specs.Differences.{view_difference}
use Rattle.lv_schema.specs.Steady.{IsSteady}
use Rattle.lv_schema.specs.Tasks.{pending_now}
use Rattle.lv_schema.specs.Policies.{pending_by, is_claim_of, is_claimed, unclaimed}
use Rattle.lv_schema.specs.UpkeepCases.{with_steps, with_claim, claim_of, released}
use Rattle.lv_schema.specs.World.{World, snap, view_at, point}
use Rattle.lv_schema.proofs.SteadyUpkeep.{released_steady}
use Rattle.lv_tasks.specs.Kept.{tasks_kept, pending_in}
use Rattle.lv_tasks.specs.declared.task.Task.{Task}
use Rattle.lv_upkeep.specs.Kept.{unclaimed_in}
use Rattle.lv_upkeep.specs.Stands.{UpkeepStands, task_of}
use Rattle.lv_stands.specs.Kept.{ViewKept, EngineKept, view_kept}
use Rattle.lv_stands.specs.Moves.{ViewInstalls, engine_stepped, engine_claimed, least_read}
use Rattle.lv_stands.specs.Stands.{StandsFor}
use Rattle.lv_stands.proofs.Lists.{sum-map}
use Rattle.lv_stands.proofs.Steps.{step_stands}

-- a claim comes or goes
pub claimed_stands : (w : World) (e : EngineKept) (worker : ℕ) (claim : Option Forced) → StandsFor w e → IsSteady (record { visible = w.visible; upkeep = with_claim worker claim w.upkeep })
    → StandsFor (record { visible = w.visible; upkeep = with_claim worker claim w.upkeep }) (engine_claimed worker claim e)
claimed_stands w e worker claim is steady = record {
  steady = steady;
  tables_are = is.tables_are;
  views_are = is.views_are;
  base_stands = is.base_stands;
  upkeep_stands = record {
    points_are = is.upkeep_stands.points_are;
    marks_are = is.upkeep_stands.marks_are;
    claims_are = ap (λ cs. slice_set cs worker claim) is.upkeep_stands.claims_are;
    all = is.upkeep_stands.all;
    each = is.upkeep_stands.each;
  };
  views_stand = record { all = is.views_stand.all; each = is.views_stand.each };
  sessions_stand = is.sessions_stand;
  journal_is = is.journal_is;
}

pub released_stands : (w : World) (e : EngineKept) (worker : ℕ) → StandsFor w e → StandsFor (record { visible = w.visible; upkeep = released worker w.upkeep }) (engine_claimed worker None e)
released_stands w e worker is = claimed_stands w e worker None is (released_steady worker w is.steady)

-- a worker's step is installed where its view is still where the step begins
pub installed_stands : (w : World) (e : EngineKept) (worker : ℕ) (f : Forced) (new : ViewKept) → StandsFor w e → claim_of w.upkeep worker ≡ Some f → point w.upkeep f.view ≡ f.lo
    → ViewInstalls (least_read e) (view_at w.visible.views f.view) f.hi (view_difference (view_at w.visible.views f.view) (snap w.visible f.lo) (snap w.visible f.hi)) (view_kept e.rows f.view) new
    → StandsFor (record { visible = w.visible; upkeep = with_claim worker None (with_steps (f ∷ []) w.upkeep) }) (engine_claimed worker None (engine_stepped f new e))
installed_stands w e worker f new is claim at i =
    released_stands (record { visible = w.visible; upkeep = with_steps (f ∷ []) w.upkeep }) (engine_stepped f new e) worker (step_stands w e f new is (is.steady.claims worker f claim).step at i)

-- ---- the views that a worker may be given
pending_is : (w : World) (v : ℕ) (ks : List ℕ) → pending_in v (map (task_of w.visible (view_at w.visible.views v)) ks) ≡ pending_by w v ks
pending_is w v [] = refl
pending_is w v (k ∷ ks) =
    let sums = sum-map (task_of w.visible (view_at w.visible.views v)) (λ (t : Task). t.actions) (k ∷ ks) in
    λ i. Some (record { view = v; oldest = k; actions = sums i })

candidates : (w : World) (e : EngineKept) → UpkeepStands w e.upkeep → (vs : List ℕ) → AllByRecursion (λ v. v < length w.visible.views) vs
    → filter_map (λ v. pending_in v (tasks_kept e.upkeep.tasks v)) (filter (λ v. not (is_claimed w.upkeep v)) vs) ≡ filter_map (λ v. pending_by w v (pending_now w v)) (filter (λ v. not (is_claimed w.upkeep v)) vs)
candidates w e is [] a = refl
candidates w e is (v ∷ vs) a = by (is_claimed w.upkeep v) (candidates w e is vs a.1)
  where
    told : pending_in v (tasks_kept e.upkeep.tasks v) ≡ pending_by w v (pending_now w v)
    told = ap (pending_in v) (is.each v a.0) ∙ pending_is w v (pending_now w v)

    put : Option Pending → List Pending → List Pending
    put None rest = rest
    put (Some p) rest = p ∷ rest

    by : (t : Bool) → filter_map (λ v. pending_in v (tasks_kept e.upkeep.tasks v)) (filter (λ v. not (is_claimed w.upkeep v)) vs) ≡ filter_map (λ v. pending_by w v (pending_now w v)) (filter (λ v. not (is_claimed w.upkeep v)) vs)
        → filter_map (λ v. pending_in v (tasks_kept e.upkeep.tasks v)) (cond (not t) (v ∷ filter (λ v. not (is_claimed w.upkeep v)) vs) (filter (λ v. not (is_claimed w.upkeep v)) vs))
        ≡ filter_map (λ v. pending_by w v (pending_now w v)) (cond (not t) (v ∷ filter (λ v. not (is_claimed w.upkeep v)) vs) (filter (λ v. not (is_claimed w.upkeep v)) vs))
    by true ih = ih
    by false ih = two (pending_in v (tasks_kept e.upkeep.tasks v)) (pending_by w v (pending_now w v)) refl refl ih
      where
        two : (x y : Option Pending) → pending_in v (tasks_kept e.upkeep.tasks v) ≡ x → pending_by w v (pending_now w v) ≡ y
            → filter_map (λ v. pending_in v (tasks_kept e.upkeep.tasks v)) (filter (λ v. not (is_claimed w.upkeep v)) vs) ≡ filter_map (λ v. pending_by w v (pending_now w v)) (filter (λ v. not (is_claimed w.upkeep v)) vs)
            → filter_map (λ v. pending_in v (tasks_kept e.upkeep.tasks v)) (v ∷ filter (λ v. not (is_claimed w.upkeep v)) vs) ≡ filter_map (λ v. pending_by w v (pending_now w v)) (v ∷ filter (λ v. not (is_claimed w.upkeep v)) vs)
        two None None ex ey h = rw (ex, ey) h
        two (Some p) (Some q) ex ey h = let same : p ≡ q = (let r : Some p ≡ Some q = sym ex ∙ told ∙ ey in cc) in rw (ex, ey) (ap₂ (λ a b. a ∷ b) same h)
        two None (Some q) ex ey h = let r : None ≡ Some q = sym ex ∙ told ∙ ey in absurd (cc)
        two (Some p) None ex ey h = let r : Some p ≡ None = sym ex ∙ told ∙ ey in absurd (cc)

pub below_range : (a n b : ℕ) → a + n ≤ b → AllByRecursion (λ t. t < b) (range_with_len a n)
below_range a zero b le = tt
below_range a (suc n) b le = (omega arith, below_range (a + 1) n b (omega arith))

pub unclaimed_is_told : (w : World) (e : EngineKept) → StandsFor w e → unclaimed_in e.upkeep ≡ unclaimed w
unclaimed_is_told w e is =
    (λ i. filter_map (λ v. pending_in v (tasks_kept e.upkeep.tasks v)) (filter (λ v. not (list_any (is_claim_of v) (is.upkeep_stands.claims_are i))) (range_with_len 0 (is.upkeep_stands.all i))))
    ∙ candidates w e is.upkeep_stands (range_with_len 0 (length w.visible.views)) (below_range 0 (length w.visible.views) (length w.visible.views) (omega arith))
