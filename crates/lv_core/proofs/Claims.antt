-- Claims of workers: each event that may happen keeps what is asked of them, and there are eight at most.
use Rattle.std.proofs.Common.{◌≡◌, ℕ, zero, suc, ◌+◌, ◌<◌, ◌≤◌, Bool, true, false, List, [], ◌∷◌, length, Option, Some, None, refl, sym, ap, ◌∙◌, subst, arith}
use Rattle.std.specs.Prelude.{◌==◌, ◌&&◌, not, cond, nat_lt, if◌then◌else◌, is_some, IsSome, slice_index, slice_index_or, slice_set, Ok}
use Rattle.std.proofs.lemmas.List.{get_or-set_other}
use Rattle.std.proofs.lemmas.List.Sums.{count_by-le-length, sum_by-cons, sum_by-set}
use Rattle.lv_schema.specs.declared.forced.Forced.{Forced}
use Rattle.lv_schema.specs.declared.pending.Pending.{Pending}
use Rattle.lv_schema.specs.declared.rec.Rec.{Rec}
use Rattle.lv_schema.specs.declared.rec.Rec.TheVariants as rec
use Rattle.lv_schema.specs.Cases.{Outcome, good, failed, full}
use Rattle.lv_schema.specs.Catalog.{view_named}
use Rattle.lv_schema.specs.Policies.{unclaimed}
use Rattle.lv_schema.specs.StepPlans.{planned}
use Rattle.lv_schema.specs.Tasks.{pending_tasks}
use Rattle.lv_schema.specs.UpkeepCases.{Installed, chosen_view, claim_of, fetch_among, fetch_by, fetched_step, fetching, install_by, installed, installing, mark_record, marked_by, marking, moved, outcome_of, with_claim, with_record, with_steps}
use Rattle.lv_schema.specs.World.{Settings, Upkeep, World, last, point}
use Rattle.lv_plain.specs.declared.program.Program.{Program}
use Rattle.lv_plain.specs.declared.event.Event.{Event}
use Rattle.lv_plain.specs.declared.event.Event.TheVariants.{Turn as turn_of, Fetch as fetch_of, Install as install_of, Release as release_of, Mark as mark_of, Clean as clean_up}
use Rattle.lv_plain.specs.Legal.{MayHappen}
use Rattle.lv_plain.specs.Machine.{State, give, mark_by, steps_of}
use Rattle.lv_plain.specs.Programs.{Places, has_more, lines_of, may_turn, next_line, setup_answered}
use Rattle.lv_plain.specs.Rules.{Rules}
use Rattle.lv_plain.specs.Turns.{bound_line, read_turn}
use Rattle.lv_engine.specs.Kept.{EngineView, Stands}
use Rattle.lv_core.specs.Run.{AreClaims, claim_count}

-- ---- lists
first_stays : {A : Type 0} (xs : List A) (k : ℕ) (x d : A) → 0 < k → slice_index_or (slice_set xs k x) 0 d ≡ slice_index_or xs 0 d
first_stays xs k x d pos = get_or-set_other xs k 0 x d (omega (arith, pos))

few : (claims : List (Option Forced)) → length claims ≡ 9 → slice_index_or claims 0 None ≡ None → claim_count claims ≤ 8
few [] long none = absurd (omega (arith, long))
few (None ∷ claims) long none = omega (arith, long, count_by-le-length is_some claims, sum_by-cons (λ (c : Option Forced). cond (is_some c) 1 0) None claims)
few (Some f ∷ claims) long none = absurd cc

pub counted : (claims : List (Option Forced)) (worker : ℕ) → worker < length claims → is_some (slice_index_or claims worker None) ≡ true → claim_count (slice_set claims worker None) + 1 ≡ claim_count claims
counted claims worker there some = omega (arith, sum_by-set one claims worker None None there, is_one (slice_index_or claims worker None) some)
  where
    one : Option Forced → ℕ
    one c = cond (is_some c) 1 0

    is_one : (c : Option Forced) → is_some c ≡ true → one c ≡ 1
    is_one None e = absurd cc
    is_one (Some f) e = refl

-- ---- what events do to claims
recorded : (r : Option Rec) (u : Upkeep) → (with_record r u).claims ≡ u.claims
recorded None u = refl
recorded (Some (rec.Table def)) u = refl
recorded (Some (rec.View def)) u = refl
recorded (Some (rec.Commit number actions)) u = refl
recorded (Some (rec.Mark view upto)) u = refl

marked : (outcome : Rec → Outcome) (v : ℕ) (u : Upkeep) → (marking outcome v u).next.claims ≡ u.claims
marked outcome v u = by (slice_index u.marks v == point u v)
  where
    after : (o : Outcome) → (marked_by o v u).next.claims ≡ u.claims
    after good = refl
    after failed = refl
    after (full needed limit) = refl

    by : (b : Bool) → (if b then record { answer = Ok None; next = u; attempted = None } else marked_by (outcome (mark_record v u)) v u).next.claims ≡ u.claims
    by true = refl
    by false = after (outcome (mark_record v u))

module _ (worker : ℕ) (pos : 0 < worker) where
  fetched_nobody : (settings : Settings) (w : World) → claim_of (fetching settings worker w).1 0 ≡ claim_of w.upkeep 0
  fetched_nobody settings w = by (claim_of w.upkeep worker)
    where
      step : (o : Option Forced) → claim_of (fetched_step o worker w.upkeep).1 0 ≡ claim_of w.upkeep 0
      step None = refl
      step (Some f) = first_stays w.upkeep.claims worker (Some f) None pos

      among : (ps : List Pending) → claim_of (fetch_among ps settings worker w).1 0 ≡ claim_of w.upkeep 0
      among [] = refl
      among (p ∷ ps) = step (planned settings (chosen_view settings.policy w) w (last w.visible))

      by : (o : Option Forced) → claim_of (fetch_by o settings worker w).1 0 ≡ claim_of w.upkeep 0
      by (Some f) = refl
      by None = among (unclaimed w)

  ended_nobody : (u : Upkeep) → claim_of (with_claim worker None u) 0 ≡ claim_of u 0
  ended_nobody u = first_stays u.claims worker None None pos

  installed_nobody : (u : Upkeep) → claim_of (installing worker u).1 0 ≡ claim_of u 0
  installed_nobody u = by (claim_of u worker)
    where
      at : (f : Forced) (b : Bool) → claim_of (if◌then◌else◌ {A = Installed × Upkeep} b (installed f, with_claim worker None (with_steps (f ∷ []) u)) (moved f (point u f.view), with_claim worker None u)).1 0 ≡ claim_of u 0
      at f true = ended_nobody u
      at f false = ended_nobody u

      by : (o : Option Forced) → claim_of (install_by o worker u).1 0 ≡ claim_of u 0
      by None = refl
      by (Some f) = at f (point u f.view == f.lo)

-- the setup stays answered: it has no turn then
turned_answered : (p : Program) (places : Places) (session n : ℕ) → may_turn p places session ≡ true → setup_answered p places ≡ true → setup_answered p (slice_set places session n) ≡ true
turned_answered p places zero n may answered = absurd (apart (has_more p places 0) _ may answered)
  where
    apart : (a b : Bool) → (a && b) ≡ true → not a ≡ true → ⊥
    apart true b may answered = cc
    apart false b may answered = cc
turned_answered p places (suc k) n may answered = subst (λ m. not (nat_lt m (length (lines_of p 0))) ≡ true) (sym (first_stays places (suc k) n 0 (omega arith))) answered

-- ---- an event that may happen
module _ (rules : Rules) (fails : Bool) where
  turned : (session : ℕ) (s : State) → may_turn rules.program s.places session ≡ true → AreClaims rules.program s → AreClaims rules.program (give rules fails (turn_of session) s).next
  turned session s may held = record {
    nobody = ap (λ (claims : List (Option Forced)). slice_index_or claims 0 None) same ∙ held.nobody;
    answered = λ worker some. turned_answered rules.program s.places session _ may (held.answered worker (subst (λ (claims : List (Option Forced)). IsSome (slice_index_or claims worker None)) same some));
  }
    where
      same : (give rules fails (turn_of session) s).next.world.upkeep.claims ≡ s.world.upkeep.claims
      same =
          let w = s.world in
          let line = bound_line rules.reading session (next_line rules.program s.places session) w.visible in
          recorded (read_turn (outcome_of rules.settings fails w.upkeep) (pending_tasks w) session line w.visible).written (with_steps (steps_of rules.settings session line w) w.upkeep)

  pub claims_kept : (event : Event) (s : State) → MayHappen rules.program s event → AreClaims rules.program s → AreClaims rules.program (give rules fails event s).next
  claims_kept (turn_of session) s may held = turned session s may held
  claims_kept (fetch_of worker) s may held = record { nobody = fetched_nobody worker may.0.0 rules.settings s.world ∙ held.nobody; answered = λ other some. may.1 }
  claims_kept (install_of worker) s may held = record { nobody = installed_nobody worker may.0.0 s.world.upkeep ∙ held.nobody; answered = λ other some. may.1 }
  claims_kept (release_of worker) s may held = record { nobody = ended_nobody worker may.0.0 s.world.upkeep ∙ held.nobody; answered = λ other some. may.1 }
  claims_kept (mark_of name) s may held = by (view_named s.world.visible.views name)
    where
      by : (v : Option ℕ) → AreClaims rules.program (mark_by rules fails v name s).next
      by None = held
      by (Some v) = record {
        nobody = ap (λ (claims : List (Option Forced)). slice_index_or claims 0 None) (marked (outcome_of rules.settings fails s.world.upkeep) v s.world.upkeep) ∙ held.nobody;
        answered = λ other some. may.1;
      }
  claims_kept clean_up s may held = record { nobody = held.nobody; answered = λ other some. may }

-- ---- an engine
module _ {D : Type 0} (w : World) (e : EngineView D) (stands : Stands w e) where
  -- the claims that are kept are the world's
  pub claims_are : e.store.upkeep.claims ≡ w.upkeep.claims
  claims_are = stands.store_stands.upkeep_stands.claims_are

  pub few_claims : claim_of w.upkeep 0 ≡ None → claim_count e.store.upkeep.claims ≤ 8
  few_claims nobody = subst (λ (claims : List (Option Forced)). claim_count claims ≤ 8) (sym claims_are) (few w.upkeep.claims stands.store_stands.steady.workers nobody)
