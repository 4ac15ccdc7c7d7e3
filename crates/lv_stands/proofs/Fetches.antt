-- A worker fetches: what it is given, and its claim, are told from what is kept.
use Rattle.std.proofs.Common.{◌≡◌, ℕ, List, [], ◌∷◌, length, Option, Some, None, refl, sym, ap, ◌∙◌, subst, arith}
use Rattle.std.specs.Prelude.{slice_index_or}
use Rattle.lv_schema.specs.declared.forced.Forced.{Forced}
use Rattle.lv_schema.specs.declared.pending.Pending.{Pending}
use Rattle.lv_schema.specs.Steady.{IsSteady}
use Rattle.lv_schema.specs.Policies.{unclaimed, chosen}
use Rattle.lv_schema.specs.StepPlans.{planned}
use Rattle.lv_schema.specs.UpkeepCases.{Fetched, no_pending, chosen_view, claim_of, fetched_step, fetch_among, fetch_by, fetching}
use Rattle.lv_schema.specs.World.{Upkeep, World, last, Settings}
use Rattle.lv_schema.proofs.Candidates.{chosen_is}
use Rattle.lv_schema.proofs.SteadyUpkeep.{fetching_steady}
use Rattle.lv_upkeep.specs.Kept.{claim_kept, planned_in}
use Rattle.lv_stands.specs.Kept.{EngineKept}
use Rattle.lv_stands.specs.Moves.{inside_kept, view_chosen, kept_fetched, kept_among, kept_by, engine_fetching}
use Rattle.lv_stands.specs.Stands.{StandsFor}
use Rattle.lv_stands.proofs.Upkeeps.{planned_is}
use Rattle.lv_stands.proofs.Workers.{claimed_stands, unclaimed_is_told}

module _ (settings : Settings) (worker : ℕ) (w : World) (e : EngineKept) (is : StandsFor w e) where
  abbrev Fits : Fetched × Upkeep → Fetched × EngineKept → Type 0
  Fits x y = (x.0 ≡ y.0) × (IsSteady (record { visible = w.visible; upkeep = x.1 }) → StandsFor (record { visible = w.visible; upkeep = x.1 }) y.1)

  step : (x : Option Forced) → Fits (fetched_step x worker w.upkeep) (kept_fetched x worker e)
  step None = (refl, λ steady. is)
  step (Some f) = (refl, λ steady. claimed_stands w e worker (Some f) is steady)

  view_is : view_chosen settings.policy e ≡ chosen_view settings.policy w
  view_is = ap (λ (ps : List Pending). (slice_index_or ps (chosen settings.policy ps) no_pending).view) (unclaimed_is_told w e is)

  among : (ps : List Pending) → unclaimed w ≡ ps → Fits (fetch_among ps settings worker w) (kept_among ps settings worker e)
  among [] h = (refl, λ steady. is)
  among (p ∷ ps) h =
      let in_use = (chosen_is settings.policy w (omega (arith, ap length h))).in_use in
      let told : planned_in (inside_kept e) settings.combine e.upkeep (view_chosen settings.policy e) e.base.number ≡ planned settings (chosen_view settings.policy w) w (last w.visible) =
      (λ i. planned_in (inside_kept e) settings.combine e.upkeep (view_is i) (is.base_stands.number_is i)) ∙ planned_is w e is settings (chosen_view settings.policy w) (last w.visible) in_use in
      subst (λ x. Fits (fetched_step (planned settings (chosen_view settings.policy w) w (last w.visible)) worker w.upkeep) (kept_fetched x worker e)) (sym told)
      (step (planned settings (chosen_view settings.policy w) w (last w.visible)))

  cases : (x : Option Forced) → Fits (fetch_by x settings worker w) (kept_by x settings worker e)
  cases (Some f) = (refl, λ steady. is)
  cases None =
      subst (λ ps. Fits (fetch_among (unclaimed w) settings worker w) (kept_among ps settings worker e)) (sym (unclaimed_is_told w e is)) (among (unclaimed w) refl)

  pub fetch_stands : ((fetching settings worker w).0 ≡ (engine_fetching settings worker e).0) × StandsFor (record { visible = w.visible; upkeep = (fetching settings worker w).1 }) (engine_fetching settings worker e).1
  fetch_stands =
      let same : claim_kept e.upkeep worker ≡ claim_of w.upkeep worker = ap (λ cs. slice_index_or cs worker None) is.upkeep_stands.claims_are in
      let fits = subst (λ x. Fits (fetch_by (claim_of w.upkeep worker) settings worker w) (kept_by x settings worker e)) (sym same) (cases (claim_of w.upkeep worker)) in
      (fits.0, fits.1 (fetching_steady settings worker w is.steady))
