-- What the engine's calls of workers and clean-ups answer is what the plain machine gives.
use Rattle.std.proofs.Common.{◌≡◌, ℕ, ◌<◌, ◌≤◌, true, false, List, [], ◌∷◌, length, Option, Some, None, refl, sym, ap, ◌∙◌, subst, arith}
use Rattle.std.specs.Prelude.{is_some, IsSome}
use Rattle.std.proofs.lemmas.List.{get_or-set_same}
use Rattle.lv_schema.specs.declared.forced.Forced.{Forced}
use Rattle.lv_schema.specs.declared.pending.Pending.{Pending}
use Rattle.lv_schema.specs.Policies.{unclaimed}
use Rattle.lv_schema.specs.StepPlans.{planned}
use Rattle.lv_schema.specs.UpkeepCases.{Fetched, Installed, busy, chosen_view, claim_of, empty, fetch_among, fetch_by, fetched, fetched_step, fetching, idle, install_by, installing}
use Rattle.lv_schema.specs.WholeWorld.{maintained, with_upkeep}
use Rattle.lv_schema.specs.World.{Settings, Upkeep, Visible, World, last}
use Rattle.lv_maint.specs.Inputs.{Input}
use Rattle.lv_plain.specs.declared.entry.Entry.{Entry}
use Rattle.lv_plain.specs.declared.entry.Entry.TheVariants as entry
use Rattle.lv_plain.specs.declared.event.Event.TheVariants.{Fetch as fetch_of, Install as install_of}
use Rattle.lv_plain.specs.Machine.{State, fetch_entry, give, install_entry}
use Rattle.lv_plain.specs.Rules.{Rules}
use Rattle.lv_upkeep.specs.Kept.{claim_kept}
use Rattle.lv_store.specs.declared.installed.Installed.{Installed as InstallAnswer}
use Rattle.lv_store.specs.Maintaining.{IsGiven, told}
use Rattle.lv_engine.specs.Answering.{GivesFetch, GivesInstall}
use Rattle.lv_engine.specs.Kept.{EngineView, Stands}
use Rattle.lv_engine.proofs.NoneLeft.{claim_is}
use Rattle.lv_core.specs.Answering.{GivesEntry}

pub worker_there : {D : Type 0} (w : World) (e : EngineView D) (worker : ℕ) → Stands w e → worker ≤ 8 → worker < length w.upkeep.claims
worker_there w e worker stands le = let nine = stands.store_stands.steady.workers in omega (arith, nine, le)

-- ---- what a fetch answers tells of the claim: it was there before, or it is the step
abbrev AsClaimed : ℕ → Option Forced → Fetched → Upkeep → Type 0
AsClaimed worker claim busy u = IsSome claim
AsClaimed worker claim idle u = Unit {0}
AsClaimed worker claim (fetched f) u = claim_of u worker ≡ Some f

module _ (settings : Settings) (worker : ℕ) (w : World) (there : worker < length w.upkeep.claims) where
  abbrev Claims : Option Forced → Fetched × Upkeep → Type 0
  Claims claim done = AsClaimed worker claim done.0 done.1

  stepped : (claim step : Option Forced) → Claims claim (fetched_step step worker w.upkeep)
  stepped claim None = tt
  stepped claim (Some f) = get_or-set_same w.upkeep.claims worker (Some f) None there

  as_claimed : Claims (claim_of w.upkeep worker) (fetching settings worker w)
  as_claimed = by (claim_of w.upkeep worker)
    where
      among : (list : List Pending) → Claims None (fetch_among list settings worker w)
      among [] = tt
      among (p ∷ ps) = stepped None (planned settings (chosen_view settings.policy w) w (last w.visible))

      by : (claim : Option Forced) → Claims claim (fetch_by claim settings worker w)
      by (Some f) = refl
      by None = among (unclaimed w)

fetched_claim : (worker : ℕ) (s : Visible) (u : Upkeep) (a : Fetched) (input : Input) → AsClaimed worker None a u → IsGiven s a (Some input) → is_some (claim_of u worker) ≡ true
fetched_claim worker s u busy input claims is = absurd cc
fetched_claim worker s u idle input claims is = absurd cc
fetched_claim worker s u (fetched g) input claims is = ap (λ (c : Option Forced). is_some c) claims

module _ {D : Type 0} (settings : Settings) (w : World) (old : EngineView D) (worker : ℕ) (stands : Stands w old) where
  abbrev fetching_now : Fetched × Upkeep
  fetching_now = fetching settings worker w

  is_busy : is_some (claim_kept old.store.upkeep worker) ≡ true → fetching_now ≡ (busy, w.upkeep)
  is_busy some = by (claim_of w.upkeep worker) (sym (ap (λ (c : Option Forced). is_some c) (claim_is w old worker stands)) ∙ some)
    where
      by : (claim : Option Forced) → is_some claim ≡ true → fetch_by claim settings worker w ≡ (busy, w.upkeep)
      by None e = absurd cc
      by (Some f) e = refl

  module _ (le : worker ≤ 8) (none : claim_kept old.store.upkeep worker ≡ None) where
    claims_none : AsClaimed worker None fetching_now.0 fetching_now.1
    claims_none =
        subst (λ (c : Option Forced). AsClaimed worker c fetching_now.0 fetching_now.1) (sym (claim_is w old worker stands) ∙ none) (as_claimed settings worker w (worker_there w old worker stands le))

    pub claim_there : (new : EngineView D) (input : Input) → GivesFetch w.visible (maintained fetching_now w) (Some input) new → is_some (claim_kept new.store.upkeep worker) ≡ true
    claim_there new input gives =
        ap (λ (c : Option Forced). is_some c) (claim_is (with_upkeep fetching_now.1 w) new worker gives.stands) ∙ fetched_claim worker w.visible fetching_now.1 fetching_now.0 input claims_none gives.input_is

module _ {D : Type 0} (rules : Rules) (s : State) (old : EngineView D) (worker : ℕ) (stands : Stands s.world old) where
  pub busy_gives : is_some (claim_kept old.store.upkeep worker) ≡ true → GivesEntry (give rules false (fetch_of worker) s) old (entry.Busy worker)
  busy_gives some = record {
    entry = sym (ap (λ (d : Fetched × Upkeep). fetch_entry rules false worker d.0) (is_busy rules.settings s.world old worker stands some));
    stands = subst (λ (d : Fetched × Upkeep). Stands (with_upkeep d.1 s.world) old) (sym (is_busy rules.settings s.world old worker stands some)) stands;
  }

  pub empty_gives : claim_kept old.store.upkeep worker ≡ None → GivesEntry (give rules false (install_of worker) s) old (entry.Empty worker)
  empty_gives none = record {
    entry = sym (ap (λ (d : Installed × Upkeep). install_entry rules false worker d.0) is_empty);
    stands = subst (λ (d : Installed × Upkeep). Stands (with_upkeep d.1 s.world) old) (sym is_empty) stands;
  }
    where
      is_empty : installing worker s.world.upkeep ≡ (empty, s.world.upkeep)
      is_empty = ap (λ (c : Option Forced). install_by c worker s.world.upkeep) (sym (claim_is s.world old worker stands) ∙ none)

pub installed_gives : {D : Type 0} (rules : Rules) (s : State) (new : EngineView D) (worker : ℕ) (answer : InstallAnswer) (e : Entry) → e ≡ install_entry rules false worker (told answer)
    → GivesInstall (maintained (installing worker s.world.upkeep) s.world) answer new → GivesEntry (give rules false (install_of worker) s) new e
installed_gives rules s new worker answer e is gives = record { entry = is ∙ ap (λ (i : Installed). install_entry rules false worker i) gives.answer_is; stands = gives.stands }
