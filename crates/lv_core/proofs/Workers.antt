-- What the calls of workers do to a run.
use Rattle.std.proofs.Common.{◌≡◌, ℕ, ◌<◌, Bool, true, false, List, [], ◌∷◌, Option, Some, None, length, refl, sym, ap, ◌∙◌, subst, arith}
use mathlib.Core.Logic.{inl, inr}
use Rattle.std.specs.Prelude.{◌↔◌, ◌==◌, is_some, if◌then◌else◌, slice_index_or, slice_set, IfOk, Result, Ok, Err}
use Rattle.std.proofs.lemmas.List.{get_or-set_same}
use Rattle.lv_schema.specs.declared.forced.Forced.{Forced}
use Rattle.lv_schema.specs.declared.pending.Pending.{Pending}
use Rattle.lv_schema.specs.Policies.{unclaimed}
use Rattle.lv_schema.specs.UpkeepCases.{Installed, claim_of, install_by, installed, installing, moved, with_claim, with_steps}
use Rattle.lv_schema.specs.WholeWorld.{with_upkeep}
use Rattle.lv_schema.specs.World.{Upkeep, World, point}
use Rattle.lv_plain.specs.declared.event.Event.TheVariants.{Release as release_of}
use Rattle.lv_plain.specs.declared.program.Program.{Program}
use Rattle.lv_plain.specs.Legal.{IsWorker}
use Rattle.lv_plain.specs.Machine.{State}
use Rattle.lv_plain.specs.Programs.{Places, setup_answered}
use Rattle.lv_plain.proofs.Outside.{set_none}
use Rattle.lv_shared.specs.declared.machine.Taken.{Taken}
use Rattle.lv_shared.specs.declared.machine.Taken.TheVariants.{Work, Idle, Ended}
use Rattle.lv_shared.specs.Taking.{hands_out}
use Rattle.lv_core.specs.declared.jobs.Assignment.{Assignment}
use Rattle.lv_core.specs.Actors.{Fetches, Frees, FreesBy, HasEnded, IsWaiting, Tells, views_for}
use Rattle.lv_core.specs.Run.{CoreView, Gave, IsRun, state_of}

-- a claim that is set to none
none_set : (claims : List (Option Forced)) (worker : ℕ) → worker < length claims → slice_index_or (slice_set claims worker None) worker None ≡ None
none_set claims worker there = get_or-set_same claims worker None None there

-- an install ends the claim
pub installed_free : (worker : ℕ) (u : Upkeep) → worker < length u.claims → claim_of (installing worker u).1 worker ≡ None
installed_free worker u there = by (claim_of u worker) refl
  where
    at : (f : Forced) (b : Bool) → claim_of (if◌then◌else◌ {A = Installed × Upkeep} b (installed f, with_claim worker None (with_steps (f ∷ []) u)) (moved f (point u f.view), with_claim worker None u)).1 worker ≡ None
    at f true = none_set u.claims worker there
    at f false = none_set u.claims worker there

    by : (o : Option Forced) → claim_of u worker ≡ o → claim_of (install_by o worker u).1 worker ≡ None
    by None e = e
    by (Some f) e = at f (point u f.view == f.lo)

-- ---- what a take tells
module _ (p : Program) (places : Places) (views : List Pending) where
  waits_yet : IsWaiting p places views → HasEnded p places views → ⊥
  waits_yet waits (inl ended) = let setup = waits.setup in cc
  waits_yet waits (inr done) = let left = waits.left in let all = done.all in cc

  not_ended : setup_answered p places ≡ true → (views ≡ [] → ⊥) → HasEnded p places views → ⊥
  not_ended setup some (inl ended) = cc
  not_ended setup some (inr done) = some done.none

  pub tells_idle : {W E : Type 0} (taken : Result (Taken W) E) → Tells p places views taken → IfOk taken (λ t. (t ≡ Idle) ↔ IsWaiting p places views)
  tells_idle (Ok (Work w)) tells = (λ e. absurd cc, λ waits. absurd (tells.1 waits.none))
  tells_idle (Ok Idle) tells = (λ e. tells, λ waits. refl)
  tells_idle (Ok Ended) tells = (λ e. absurd cc, λ waits. absurd (waits_yet waits tells))
  tells_idle (Err e) tells = tt

  pub tells_ended : {W E : Type 0} (taken : Result (Taken W) E) → Tells p places views taken → IfOk taken (λ t. (t ≡ Ended) ↔ HasEnded p places views)
  tells_ended (Ok (Work w)) tells = (λ e. absurd cc, λ ended. absurd (not_ended tells.0 tells.1 ended))
  tells_ended (Ok Idle) tells = (λ e. absurd cc, λ ended. absurd (waits_yet tells ended))
  tells_ended (Ok Ended) tells = (λ e. tells, λ ended. refl)
  tells_ended (Err e) tells = tt

-- ---- a claim that ends
module _ {D : Type 0} (seen : D → Option (List ℕ)) (may_leave : D → List ℕ → Type 0) (moment : D → ℕ) (left_since : D → ℕ → List ℕ → Type 0) (failures : D → ℕ) where
  -- a worker that has none
  pub frees_none : (c : CoreView D) (worker : ℕ) → claim_of (state_of c).world.upkeep worker ≡ None → Frees seen may_leave moment left_since failures worker c c
  frees_none c worker none = subst (λ (o : Option Forced). FreesBy seen may_leave moment left_since failures o worker c c) (sym none) refl

  pub same_views : (c : CoreView D) (worker : ℕ) → claim_of (state_of c).world.upkeep worker ≡ None → unclaimed (state_of c).world ≡ views_for worker (state_of c).world
  same_views c worker none =
      let w = (state_of c).world in
      let without : List (Option Forced) → World = λ (claims : List (Option Forced)). with_upkeep (record w.upkeep { claims = claims }) w in
      ap (λ (claims : List (Option Forced)). unclaimed (without claims)) (sym (set_none w.upkeep.claims worker none))

  -- a worker that has one
  module _ (old new : CoreView D) (worker : ℕ) (run : IsRun seen may_leave moment left_since failures old) (is : IsWorker worker) (gave : Gave seen may_leave moment left_since failures (release_of worker) old new) where
    pub frees_some : is_some (claim_of (state_of old).world.upkeep worker) ≡ true → Frees seen may_leave moment left_since failures worker old new
    frees_some some = by (claim_of (state_of old).world.upkeep worker) some
      where
        by : (o : Option Forced) → is_some o ≡ true → FreesBy seen may_leave moment left_since failures o worker old new
        by None e = absurd cc
        by (Some f) e = gave

    pub released_free : claim_of (state_of new).world.upkeep worker ≡ None
    released_free =
        ap (λ (s : State). claim_of s.world.upkeep worker) gave.state
        ∙ none_set (state_of old).world.upkeep.claims worker (let nine = run.stands.store_stands.steady.workers in omega (arith, is.1, nine))

    pub released_views : unclaimed (state_of new).world ≡ views_for worker (state_of old).world
    released_views = ap (λ (s : State). unclaimed s.world) gave.state

    pub released_places : new.places ≡ old.places
    released_places = gave.run.places_are ∙ ap (λ (s : State). s.places) gave.state ∙ sym run.places_are

  -- ---- a take after a claim has ended
  pub free_after : {E : Type 0} (old new : CoreView D) (worker : ℕ) (taken : Result (Taken Assignment) E) → Fetches seen may_leave moment left_since failures worker old new taken → hands_out taken ≡ false → claim_of (state_of old).world.upkeep worker ≡ None
      → claim_of (state_of new).world.upkeep worker ≡ None
  free_after old new worker (Ok (Work a)) fetches none free = absurd cc
  free_after old new worker (Ok Idle) fetches none free = ap (λ (c : CoreView D). claim_of (state_of c).world.upkeep worker) fetches ∙ free
  free_after old new worker (Ok Ended) fetches none free = ap (λ (c : CoreView D). claim_of (state_of c).world.upkeep worker) fetches ∙ free
  free_after old new worker (Err e) fetches none free = ap (λ (c : CoreView D). claim_of (state_of c).world.upkeep worker) fetches ∙ free

  -- before the setup is answered nobody has a claim
  pub unclaimed_before : (c : CoreView D) (worker : ℕ) → IsRun seen may_leave moment left_since failures c → setup_answered c.program c.places ≡ false → claim_of (state_of c).world.upkeep worker ≡ None
  unclaimed_before c worker run before = by (claim_of (state_of c).world.upkeep worker) refl
    where
      by : (o : Option Forced) → claim_of (state_of c).world.upkeep worker ≡ o → claim_of (state_of c).world.upkeep worker ≡ None
      by None e = e
      by (Some f) e =
          let some : is_some (claim_of (state_of c).world.upkeep worker) ≡ true = ap (λ (o : Option Forced). is_some o) e in
          let answered = subst (λ (places : Places). setup_answered c.program places ≡ true) (sym run.places_are) (run.claims.answered worker some) in
          absurd cc
