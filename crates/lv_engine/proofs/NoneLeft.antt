-- A worker without a claim is given a step exactly where there is a view to be given.
use Rattle.std.proofs.Common.{◌≡◌, ℕ, ◌<◌, true, List, [], ◌∷◌, length, Option, Some, None, refl, sym, ap, ◌∙◌, subst, arith}
use Rattle.std.specs.Prelude.{◌↔◌, ◌-◌, Bool, not, take, is_some, option_map, slice_index_or}
use Rattle.std.specs.List.{last_or, take_while}
use Rattle.lv_schema.specs.declared.forced.Forced.{Forced}
use Rattle.lv_schema.specs.declared.pending.Pending.{Pending}
use Rattle.lv_schema.specs.Policies.{chosen, unclaimed}
use Rattle.lv_schema.specs.StepPlans.{is_inside, planned, step_end, step_of}
use Rattle.lv_schema.specs.UpkeepCases.{Fetched, chosen_view, claim_of, fetch_among, fetch_by, fetched_step, fetching, idle, no_pending}
use Rattle.lv_schema.specs.World.{Settings, Upkeep, World, last, live, point}
use Rattle.lv_schema.proofs.Candidates.{IsCandidate, chosen_is}
use Rattle.lv_maint.specs.Inputs.{Input}
use Rattle.lv_store.specs.Maintaining.{IsGiven, step_told}
use Rattle.lv_upkeep.specs.Kept.{claim_kept}
use Rattle.lv_engine.specs.Kept.{EngineView, Stands}

-- ---- a planned step
mapped : {A B : Type 0} (f : A → B) (o : Option A) → is_some o ≡ true → is_some (option_map f o) ≡ true
mapped f None e = absurd cc
mapped f (Some a) e = refl

ended : {A : Type 0} (o : Option A) (xs : List A) → is_some o ≡ true → is_some (last_or o xs) ≡ true
ended o [] e = e
ended o (x ∷ xs) e = ended (Some x) xs refl

step_ends : (inside : ℕ → ℕ → Bool) (combine t : ℕ) (ts : List ℕ) → is_some (step_end inside combine (t ∷ ts)) ≡ true
step_ends inside combine t ts = ended (Some t) (take_while (λ later. not (inside t later)) (take (combine - 1) ts)) refl

-- a view that a worker may be given has a step
module _ (settings : Settings) (w : World) where
  abbrev next_plan : Option Forced
  next_plan = planned settings (chosen_view settings.policy w) w (last w.visible)

  has_plan : 0 < length (unclaimed w) → is_some next_plan ≡ true
  has_plan some =
      let v = chosen_view settings.policy w in
      let lo = point w.upkeep v in
      let inside = is_inside (live w.visible.sessions) in
      let is : IsCandidate w (slice_index_or (unclaimed w) (chosen settings.policy (unclaimed w)) no_pending) = chosen_is settings.policy w some in
      subst (λ (ts : List ℕ). is_some (option_map (step_of v lo) (step_end inside settings.combine ts)) ≡ true) (sym is.behind)
      (mapped (step_of v lo) (step_end inside settings.combine (_ ∷ is.later)) (step_ends inside settings.combine _ is.later))

-- ---- a worker without a claim
module _ (settings : Settings) (worker : ℕ) (w : World) (free : claim_of w.upkeep worker ≡ None) where
  abbrev fetching_now : Fetched × Upkeep
  fetching_now = fetching settings worker w

  among_all : fetching_now ≡ fetch_among (unclaimed w) settings worker w
  among_all = ap (λ (c : Option Forced). fetch_by c settings worker w) free

  pub idle_now : unclaimed w ≡ [] → fetching_now ≡ (idle, w.upkeep)
  idle_now none = among_all ∙ ap (λ (ps : List Pending). fetch_among ps settings worker w) none

  pub none_here : IsGiven w.visible fetching_now.0 None → unclaimed w ≡ []
  none_here e = by (unclaimed w) refl (subst (λ (d : Fetched × Upkeep). IsGiven w.visible d.0 None) among_all e)
    where
      step : (x : Option Forced) → is_some x ≡ true → IsGiven w.visible (fetched_step x worker w.upkeep).0 None → ⊥
      step None some e = cc
      step (Some f) some e = let none = e.1 in cc

      by : (ps : List Pending) → unclaimed w ≡ ps → IsGiven w.visible (fetch_among ps settings worker w).0 None → unclaimed w ≡ []
      by [] is e = is
      by (p ∷ ps) is e = absurd (step (next_plan settings w) (has_plan settings w (omega (arith, ap length is))) e)

  pub given_none : (given : Option Input) → IsGiven w.visible fetching_now.0 given → (given ≡ None) ↔ (unclaimed w ≡ [])
  given_none given is = (λ none. none_here (subst (IsGiven w.visible fetching_now.0) none is), λ none. subst (λ (d : Fetched × Upkeep). IsGiven w.visible d.0 given) (idle_now none) is)

  pub idle_where : (fetching_now.0 ≡ idle) ↔ (unclaimed w ≡ [])
  idle_where = (λ is. none_here (subst (λ (a : Fetched). IsGiven w.visible a None) (sym is) refl), λ none. ap (λ (d : Fetched × Upkeep). d.0) (idle_now none))

  pub step_none : (step : Option Forced) → step_told step ≡ fetching_now.0 → (step ≡ None) ↔ (unclaimed w ≡ [])
  step_none step is = (λ none. idle_where.0 (sym is ∙ ap step_told none), λ none. left step (is ∙ idle_where.1 none))
    where
      left : (o : Option Forced) → step_told o ≡ idle → o ≡ None
      left None e = refl
      left (Some f) e = absurd cc

-- the claim that is kept is the world's
pub claim_is : {D : Type 0} (w : World) (e : EngineView D) (worker : ℕ) → Stands w e → claim_kept e.store.upkeep worker ≡ claim_of w.upkeep worker
claim_is w e worker stands = ap (λ (claims : List (Option Forced)). slice_index_or claims worker None) stands.store_stands.upkeep_stands.claims_are
