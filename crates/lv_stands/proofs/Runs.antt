-- Steps, one after another, and what a query then reads.
use Rattle.std.proofs.Common.{◌≡◌, ℕ, zero, suc, ◌-◌, ◌<◌, ◌≤◌, true, false, List, [], ◌∷◌, ◌++◌, length, get_or, Option, Some, None, refl, sym, ap, ◌∙◌, subst, arith}
use Rattle.std.specs.Prelude.{◌⊎◌, ◌==◌, nat_lt, slice_index, slice_set}
use Rattle.std.specs.declared.cmp.Ordering.TheVariants.{Less, Equal}
use Rattle.std.proofs.lemmas.Bool.Decides.{nat_tests}
use Rattle.std.specs.List.{flat_map, AllByRecursion}
use Rattle.std.specs.Ordering.{nat_cmp}
use Rattle.std.proofs.lemmas.List.{length-set, get_or-set_same, get_or-set_other}
use Rattle.lv_schema.specs.declared.forced.Forced.{Forced}
use Rattle.lv_schema.specs.Differences.{view_difference}
use Rattle.lv_schema.specs.Greatest.{Among, IsLive}
use Rattle.lv_schema.specs.Groups.{view_rows}
use Rattle.lv_schema.specs.Once.{Ascends}
use Rattle.lv_schema.specs.Steady.{IsSteady}
use Rattle.lv_schema.specs.StepPlans.{planned_from, then_more, forced_from, forced, advanced, at_point, forced_within}
use Rattle.lv_schema.specs.UpkeepCases.{with_steps}
use Rattle.lv_schema.specs.World.{Visible, Upkeep, World, last, snap, view_at, point, Settings}
use Rattle.lv_schema.proofs.ForcedSteps.{forced_done, length-advanced}
use Rattle.lv_schema.proofs.Apart.{all_weaker, all_both, all_true}
use Rattle.lv_schema.proofs.PlannedSteps.{planned_is}
use Rattle.lv_schema.proofs.ServedReaders.{query_served}
use Rattle.lv_schema.proofs.SteadyUpkeep.{planned_step}
use Rattle.lv_stands.specs.Kept.{EngineKept, view_kept, rows_shown}
use Rattle.lv_stands.specs.Moves.{ViewInstalls, engine_stepped, least_read, StepsRun, StepsFollow}
use Rattle.lv_stands.specs.Stands.{StandsFor}
use Rattle.lv_stands.proofs.Steps.{step_stands}

pub steps_stand : (fs : List Forced) (w : World) (e e' : EngineKept) → StandsFor w e → StepsFollow w fs → StepsRun w.visible fs e e' → StandsFor (record { visible = w.visible; upkeep = with_steps fs w.upkeep }) e'
steps_stand [] w e e' is follow run = subst (StandsFor w) (sym run) is
steps_stand (f ∷ fs) w e e' is follow run =
    steps_stand fs (record { visible = w.visible; upkeep = with_steps (f ∷ []) w.upkeep }) (engine_stepped f run.0 e) e'
    (step_stands w e f run.0 is follow.0 follow.1
    (subst (λ vs. ViewInstalls (least_read e) (view_at vs f.view) f.hi (view_difference (view_at vs f.view) (snap w.visible f.lo) (snap w.visible f.hi)) (view_kept e.rows f.view) run.0) is.views_are run.1))
    follow.2 run.2

-- ---- forced steps follow one another
follow_append : (fs gs : List Forced) (w : World) → StepsFollow w fs → StepsFollow (record { visible = w.visible; upkeep = with_steps fs w.upkeep }) gs → StepsFollow w (fs ++ gs)
follow_append [] gs w a b = b
follow_append (f ∷ fs) gs w a b = (a.0, a.1, follow_append fs gs (record { visible = w.visible; upkeep = with_steps (f ∷ []) w.upkeep }) a.2 b)

module _ (settings : Settings) (s : Visible) (m : ℕ) where
  pub one_view : (v turns lo : ℕ) (u : Upkeep) → v < length s.views → v < length u.points → (view_at s.views v).created ≤ lo → point u v ≡ lo → StepsFollow (record { visible = s; upkeep = u }) (forced_within settings s v m turns lo)
  one_view v zero lo u lt long created at = tt
  one_view v (suc turns) lo u lt long created at = by (planned_from settings s (at_point v lo) m) refl (λ hi next long' created' at'. one_view v turns hi next lt long' created' at')
    where
      by : (x : Option Forced) → planned_from settings s (at_point v lo) m ≡ x
          → ((hi : ℕ) (next : Upkeep) → v < length next.points → (view_at s.views v).created ≤ hi → point next v ≡ hi → StepsFollow (record { visible = s; upkeep = next }) (forced_within settings s v m turns hi))
          → StepsFollow (record { visible = s; upkeep = u }) (then_more x (forced_within settings s v m turns))
      by None e more = tt
      by (Some f) e more =
          let p = planned_is settings s v m lo f e in
          let step = planned_step settings s v m lo f lt created e in
          let here : get_or (slice_set u.points f.view f.hi) v 0 ≡ f.hi = subst (λ x. get_or (slice_set u.points x f.hi) v 0 ≡ f.hi) (sym p.view) (get_or-set_same u.points v f.hi 0 long) in
          let rises = step.rises in
          (step, ap (point u) p.view ∙ at ∙ sym p.lo_is, more f.hi (with_steps (f ∷ []) u) (omega (arith, long, length-set u.points f.view f.hi)) (omega (arith, created, rises, p.lo_is)) here)

  others_stay : (v b turns lo : ℕ) (points : List ℕ) → (b ≡ v → ⊥) → get_or (advanced points (forced_within settings s v m turns lo)) b 0 ≡ get_or points b 0
  others_stay v b zero lo points ne = refl
  others_stay v b (suc turns) lo points ne = by (planned_from settings s (at_point v lo) m) refl (λ hi next. others_stay v b turns hi next ne)
    where
      by : (x : Option Forced) → planned_from settings s (at_point v lo) m ≡ x → ((hi : ℕ) (next : List ℕ) → get_or (advanced next (forced_within settings s v m turns hi)) b 0 ≡ get_or next b 0) → get_or (advanced points (then_more x (forced_within settings s v m turns))) b 0 ≡ get_or points b 0
      by None e more = refl
      by (Some f) e more =
          let p = planned_is settings s v m lo f e in
          more f.hi (slice_set points f.view f.hi) ∙ get_or-set_other points f.view b f.hi 0 (λ h. ne (h ∙ p.view))

  less_apart : (a b : ℕ) → nat_cmp a b ≡ Less → b ≡ a → ⊥
  less_apart a b h e = let same : nat_cmp a a ≡ Less = subst (λ x. nat_cmp a x ≡ Less) e h in let lt : nat_lt a a ≡ false = grind (arith, nat_tests) in let eq : (a == a) ≡ true = grind (arith, nat_tests) in let is : nat_cmp a a ≡ Equal = rw (lt, eq) refl in absurd (equal_less (sym is ∙ same))
    where
      equal_less : Equal ≡ Less → ⊥
      equal_less z = cc

  all_views : (start : List ℕ) (views : List ℕ) (u : Upkeep) → Ascends nat_cmp views → AllByRecursion (λ v. v < length s.views) views → AllByRecursion (λ v. v < length u.points) views → AllByRecursion (λ v. (view_at s.views v).created ≤ slice_index start v) views
      → AllByRecursion (λ v. point u v ≡ slice_index start v) views → StepsFollow (record { visible = s; upkeep = u }) (flat_map (λ v. forced_from settings s (at_point v (slice_index start v)) m) views)
  all_views start [] u up lt long created at = tt
  all_views start (v ∷ views) u up lt long created at =
      follow_append (forced_from settings s (at_point v (slice_index start v)) m) (flat_map (λ v. forced_from settings s (at_point v (slice_index start v)) m) views) (record { visible = s; upkeep = u })
      (one_view v (m - slice_index start v) (slice_index start v) u lt.0 long.0 created.0 at.0)
      (all_views start views (with_steps (forced_from settings s (at_point v (slice_index start v)) m) u) up.1 lt.1
      (all_weaker (λ b. b < length u.points) (λ b. b < length (advanced u.points (forced_from settings s (at_point v (slice_index start v)) m))) (λ b h. omega (arith, h, length-advanced u.points (forced_from settings s (at_point v (slice_index start v)) m))) views long.1)
      created.1
      (all_both (λ b. nat_cmp v b ≡ Less) (λ b. point u b ≡ slice_index start b) (λ b. get_or (advanced u.points (forced_from settings s (at_point v (slice_index start v)) m)) b 0 ≡ slice_index start b)
      (λ b l h. others_stay v b (m - slice_index start v) (slice_index start v) u.points (less_apart v b l) ∙ h) views up.0 at.1))

pub forced_follow : (settings : Settings) (w : World) (views : List ℕ) (m : ℕ) → IsSteady w → Ascends nat_cmp views → AllByRecursion (λ v. v < length w.visible.views) views → StepsFollow w (forced settings w views m)
forced_follow settings w views m steady up lt =
    all_views settings w.visible m w.upkeep.points views w.upkeep up lt
    (all_weaker (λ v. v < length w.visible.views) (λ v. v < length w.upkeep.points) (λ v h. omega (arith, h, steady.points)) views lt)
    (all_weaker (λ v. v < length w.visible.views) (λ v. (view_at w.visible.views v).created ≤ slice_index w.upkeep.points v) (λ v h. let at = steady.views v h in omega (arith, at.created, at.marked)) views lt)
    (all_true (λ v. point w.upkeep v ≡ slice_index w.upkeep.points v) (λ v. refl) views)

-- ---- what a query then reads
pub forced_reads : (settings : Settings) (w : World) (e : EngineKept) (views : List ℕ) (m v : ℕ) → StandsFor (record { visible = w.visible; upkeep = with_steps (forced settings w views m) w.upkeep }) e → IsSteady w → v < length w.visible.views → Among views v
    → IsLive w.visible m ⊎ (m ≡ last w.visible) → m ≤ last w.visible → rows_shown (view_at w.visible.views v) m (view_kept e.rows v) ≡ view_rows (view_at w.visible.views v) (snap w.visible m)
forced_reads settings w e views m v is steady lt a from within =
    query_served (record { visible = w.visible; upkeep = with_steps (forced settings w views m) w.upkeep }) v m (λ n. rows_shown (view_at w.visible.views v) n (view_kept e.rows v)) is.steady lt (is.views_stand.each v lt).served from within
    (forced_done settings w views m v (omega (arith, lt, steady.points)) a)
