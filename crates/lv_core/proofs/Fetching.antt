-- What a worker without a claim is given tells of the step; where it is given none, nothing changes.
use Rattle.std.proofs.Common.{◌≡◌, ℕ, Option, Some, None, [], refl, sym, ap, ◌∙◌, subst, arith}
use Rattle.std.proofs.lemmas.List.{ext_get_or}
use Rattle.lv_schema.specs.declared.forced.Forced.{Forced}
use Rattle.lv_schema.specs.UpkeepCases.{Fetched, busy, claim_of, fetched, fetching, idle}
use Rattle.lv_schema.specs.WholeWorld.{maintained, with_upkeep}
use Rattle.lv_schema.specs.World.{Settings, Upkeep, Visible, World}
use Rattle.lv_upkeep.specs.Kept.{UpkeepKept, claim_kept}
use Rattle.lv_upkeep.specs.Stands.{UpkeepStands}
use Rattle.lv_maint.specs.Inputs.{Input}
use Rattle.lv_store.specs.Answering.{IsInputBetween}
use Rattle.lv_store.specs.Maintaining.{IsGiven}
use Rattle.lv_engine.specs.Answering.{GivesFetch}
use Rattle.lv_engine.specs.Kept.{EngineView, Stands}
use Rattle.lv_engine.proofs.NoneLeft.{claim_is, idle_now, none_here}

-- what is given tells of the step
pub given_step : (s : Visible) (a : Fetched) (input : Input) → IsGiven s a (Some input) → (step : Forced) × (a ≡ fetched step) × IsInputBetween s step input
given_step s busy input e = absurd cc
given_step s idle input e = absurd cc
given_step s (fetched step) input e = (step, refl, subst (IsInputBetween s step) (some_is e.0 input e.1) e.2)
  where
    some_is : (a b : Input) → ◌≡◌ {A = Option Input} (Some b) (Some a) → a ≡ b
    some_is a b e = cc

-- ---- what is kept where none is given
-- the upkeep of views that is kept for a world is one alone
same_upkeep : (w : World) (a b : UpkeepKept) → UpkeepStands w a → UpkeepStands w b → a ≡ b
same_upkeep w a b x y = λ i. record {
  points = (x.points_are ∙ sym y.points_are) i;
  marks = (x.marks_are ∙ sym y.marks_are) i;
  tasks = tasks i;
  claims = (x.claims_are ∙ sym y.claims_are) i;
}
  where
    tasks : a.tasks ≡ b.tasks
    tasks = ext_get_or [] a.tasks b.tasks (x.all ∙ sym y.all) (λ v lt. x.each v (omega (arith, lt, x.all)) ∙ sym (y.each v (omega (arith, lt, x.all))))

pub idle_stays : {D : Type 0} (settings : Settings) (w : World) (old new : EngineView D) (worker : ℕ) → Stands w old → claim_kept old.store.upkeep worker ≡ None → (input : Option Input) → input ≡ None
    → GivesFetch w.visible (maintained (fetching settings worker w) w) input new → new ≡ record old { store = record old.store { upkeep = new.store.upkeep } } → new ≡ old
idle_stays {D} settings w old new worker stands free input none gives others =
    let free_there : claim_of w.upkeep worker ≡ None = sym (claim_is w old worker stands) ∙ free in
    let is = idle_now settings worker w free_there (none_here settings worker w free_there (subst (IsGiven w.visible (fetching settings worker w).0) none gives.input_is)) in
    let again : Stands w new = subst (λ (d : Fetched × Upkeep). Stands (with_upkeep d.1 w) new) is gives.stands in
    let same : new.store.upkeep ≡ old.store.upkeep = same_upkeep w new.store.upkeep old.store.upkeep again.store_stands.upkeep_stands stands.store_stands.upkeep_stands in
    others ∙ ap (λ (u : UpkeepKept). record old { store = record old.store { upkeep = u } }) same
