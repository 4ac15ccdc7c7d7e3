-- Turns of sessions, and rounds of them.
use Rattle.std.proofs.Common.{◌≡◌, ◌≢◌, ℕ, zero, suc, ◌+◌, ◌<◌, ◌≤◌, min, Bool, true, false, length, slice_index, inl, inr, refl, sym, ap, ◌∙◌, subst, arith}
use Rattle.std.specs.Prelude.{◌⊎◌, OnOk, Option, Result, Ok, Err, List}
use Rattle.std.proofs.lemmas.List.{length-replicate}
use Rattle.lv_core.specs.Run.{CoreView, Gave, IsRun, first_state, rules_of}
use Rattle.lv_order.specs.Places.{one_more}
use Rattle.lv_order.proofs.Counting.{places_from}
use Rattle.lv_plain.specs.declared.event.Event.TheVariants.{Turn as turn_of}
use Rattle.lv_plain.specs.declared.program.Program.{Program}
use Rattle.lv_plain.specs.Legal.{events_of}
use Rattle.lv_plain.specs.Machine.{State}
use Rattle.lv_plain.specs.Programs.{Places, first_places, has_more, lines_of, may_turn, session_count}
use Rattle.lv_runner.specs.Following.{GoesOn}
use Rattle.lv_runner.specs.Late.{IsAnswered}
use Rattle.lv_runner.specs.Rounds.{HasTurned, HasTurnedOnce, IsRoundDone}
use Rattle.lv_runner.proofs.RoundPlaces.{all_left_none, left_none, length_after, more_here, none_left, same_there, setup_waits, waits}

module _ {D : Type 0} (seen : D → Option (List ℕ)) (may_leave : D → List ℕ → Type 0) (moment : D → ℕ) (left_since : D → ℕ → List ℕ → Type 0) (failures : D → ℕ) where
  -- there is a place for each session
  places_count : (c : CoreView D) → IsRun seen may_leave moment left_since failures c → length c.places ≡ session_count c.program
  places_count c run =
      ap length run.places_are
      ∙ (ap length (places_from (rules_of c.settings c.program) (first_state c) c.entries)
      ∙ (length_after (events_of (rules_of c.settings c.program) (first_state c) c.entries) (first_places c.program) ∙ length-replicate (session_count c.program) 0))

  -- ---- one turn
  turned_places : (session : ℕ) (old new : CoreView D) → IsRun seen may_leave moment left_since failures old → Gave seen may_leave moment left_since failures (turn_of session) old new → new.places ≡ one_more old.places session
  turned_places session old new run gave =
      gave.run.places_are ∙ (ap (λ (s : State). s.places) gave.state ∙ ap (λ (ps : Places). one_more ps session) (sym run.places_are))

  pub turned_once : (session : ℕ) (old new : CoreView D) → IsRun seen may_leave moment left_since failures old → session < session_count old.program → may_turn old.program old.places session ≡ true
      → Gave seen may_leave moment left_since failures (turn_of session) old new → HasTurnedOnce old new session
  turned_once session old new run known may gave =
      let are = turned_places session old new run gave in
      let there : session < length old.places = omega (arith, known, places_count old run) in
      record {
        turned = λ _. ap (λ (ps : Places). slice_index ps session) are ∙ more_here old.places session there;
        waited = λ stops. absurd (true_or_false (may_turn old.program old.places session) may stops);
        others = λ s apart. ap (λ (ps : Places). slice_index ps s) are ∙ same_there old.places session s (slice_index old.places session + 1) apart;
      }
    where
      true_or_false : (b : Bool) → b ≡ true → b ≡ false → ⊥
      true_or_false b e f = cc

  pub turned_if : (session : ℕ) (old new : CoreView D) {E : Type 0} (result : Result (Unit {0}) E) → IsRun seen may_leave moment left_since failures old → session < session_count old.program
      → may_turn old.program old.places session ≡ true → OnOk result (Gave seen may_leave moment left_since failures (turn_of session) old new) → OnOk result (HasTurnedOnce old new session)
  turned_if session old new (Ok done) run known may gave = turned_once session old new run known may gave
  turned_if session old new (Err e) run known may gave = tt

pub waited : {D : Type 0} (session : ℕ) (c : CoreView D) → may_turn c.program c.places session ≡ false → HasTurnedOnce c c session
waited session c stops = record {
  turned = λ may. absurd (true_or_false (may_turn c.program c.places session) may stops);
  waited = λ _. refl;
  others = λ s apart. refl;
}
  where
    true_or_false : (b : Bool) → b ≡ true → b ≡ false → ⊥
    true_or_false b e f = cc

-- ---- turns in rounds
module _ {D : Type 0} (old new : CoreView D) (session : ℕ) (on : GoesOn old new) (once : HasTurnedOnce old new session) where
  -- another session is where it was
  stays : (s k : ℕ) → s ≢ session → HasTurned old.program old.places k s → HasTurned new.program new.places k s
  stays s k apart h = subst (λ (p : Program). HasTurned p new.places k s) (sym on.program) (subst (λ n. min k (length (lines_of old.program s)) ≤ n) (sym (once.others s apart)) h)

  -- this one has had one turn more
  more : (k : ℕ) → (may_turn old.program old.places session ≡ false → has_more old.program old.places session ≡ false) → HasTurned old.program old.places k session
      → HasTurned new.program new.places (k + 1) session
  more k none h = subst (λ (p : Program). HasTurned p new.places (k + 1) session) (sym on.program) (by (may_turn old.program old.places session) refl)
    where
      by : (b : Bool) → may_turn old.program old.places session ≡ b → HasTurned old.program new.places (k + 1) session
      by true may = omega (arith, once.turned may, h)
      by false stops =
          let all = none_left old.program old.places session (none stops) in
          omega (arith, once.waited stops, all)

  setup_stays : 1 ≤ session → has_more old.program old.places 0 ≡ false → has_more new.program new.places 0 ≡ false
  setup_stays some h =
      let there = none_left old.program old.places 0 h in
      let here : length (lines_of old.program 0) ≤ slice_index new.places 0 = omega (arith, there, once.others 0 (λ e. omega (arith, e, some))) in
      subst (λ (p : Program). has_more p new.places 0 ≡ false) (sym on.program) (left_none old.program new.places 0 here)

  -- a turn of the setup
  pub setup_turned : (k : ℕ) → session ≡ 0 → HasTurned old.program old.places k 0 → HasTurned new.program new.places (k + 1) 0
  setup_turned k first h =
      let there : HasTurned old.program old.places k session = subst (λ s. HasTurned old.program old.places k s) (sym first) h in
      let none : may_turn old.program old.places session ≡ false → has_more old.program old.places session ≡ false =
      subst (λ s. may_turn old.program old.places s ≡ false → has_more old.program old.places s ≡ false) (sym first) (setup_waits old.program old.places) in
      subst (λ s. HasTurned new.program new.places (k + 1) s) first (more k none there)

  -- a turn of a session in a round
  pub round_turned : (rounds : ℕ) → 1 ≤ session → session < session_count old.program → IsRoundDone old rounds session → IsRoundDone new rounds (session + 1)
  round_turned rounds some known done = record {
    setup = setup_stays some done.setup;
    before = λ s above below there. before s above below (subst (λ (p : Program). s < session_count p) on.program there);
    others = λ s above there. others s above (subst (λ (p : Program). s < session_count p) on.program there);
  }
    where
      none : may_turn old.program old.places session ≡ false → has_more old.program old.places session ≡ false
      none stops = waits old.program old.places session stops done.setup

      here : HasTurned new.program new.places (rounds + 1) session
      here = more rounds none (done.others session some known)

      fewer : (k n m : ℕ) → min (k + 1) n ≤ m → min k n ≤ m
      fewer k n m h = omega (arith, h)

      is_it : (s t : ℕ) → (s ≡ t) ⊎ (s ≢ t)
      is_it zero zero = inl refl
      is_it zero (suc t) = inr (λ e. omega (arith, e))
      is_it (suc s) zero = inr (λ e. omega (arith, e))
      is_it (suc s) (suc t) = again (is_it s t)
        where
          again : (s ≡ t) ⊎ (s ≢ t) → (suc s ≡ suc t) ⊎ (suc s ≢ suc t)
          again (inl e) = inl (ap suc e)
          again (inr apart) = inr (λ e. apart (omega (arith, e)))

      lt_of : (a b : ℕ) → a ≢ b → a < b + 1 → a < b
      lt_of zero zero apart lt = absurd (apart refl)
      lt_of zero (suc b) apart lt = omega arith
      lt_of (suc a) zero apart lt = absurd (omega (arith, lt))
      lt_of (suc a) (suc b) apart lt = let below = lt_of a b (λ e. apart (ap suc e)) (omega (arith, lt)) in omega (arith, below)

      before : (s : ℕ) → 1 ≤ s → s < session + 1 → s < session_count old.program → HasTurned new.program new.places (rounds + 1) s
      before s above below there = by (is_it s session)
        where
          by : (s ≡ session) ⊎ (s ≢ session) → HasTurned new.program new.places (rounds + 1) s
          by (inl e) = subst (λ t. HasTurned new.program new.places (rounds + 1) t) (sym e) here
          by (inr apart) = stays s (rounds + 1) apart (done.before s above (lt_of s session apart below) there)

      others : (s : ℕ) → 1 ≤ s → s < session_count old.program → HasTurned new.program new.places rounds s
      others s above there = by (is_it s session)
        where
          by : (s ≡ session) ⊎ (s ≢ session) → HasTurned new.program new.places rounds s
          by (inl e) = subst (λ t. HasTurned new.program new.places rounds t) (sym e) (fewer rounds (length (lines_of new.program session)) (slice_index new.places session) here)
          by (inr apart) = stays s rounds apart (done.others s above there)

-- ---- rounds
pub first_round : {D : Type 0} (c : CoreView D) → has_more c.program c.places 0 ≡ false → IsRoundDone c 0 1
first_round c setup = record { setup = setup; before = λ s above below there. absurd (omega (arith, above, below)); others = λ s above there. omega arith }

pub next_round : {D : Type 0} (c : CoreView D) (rounds session : ℕ) → session_count c.program ≤ session → IsRoundDone c rounds session → IsRoundDone c (rounds + 1) 1
next_round c rounds session all done = record {
  setup = done.setup;
  before = λ s above below there. absurd (omega (arith, above, below));
  others = λ s above there. done.before s above (omega (arith, there, all)) there;
}

-- the setup has had as many turns as it has statements
pub setup_done : (p : Program) (places : Places) (k : ℕ) → length p.setup ≤ k → HasTurned p places k 0 → has_more p places 0 ≡ false
setup_done p places k all h = left_none p places 0 (omega (arith, all, h))

pub all_done : {D : Type 0} (c : CoreView D) (rounds : ℕ) → ((s : ℕ) → 1 ≤ s → s < session_count c.program → length (lines_of c.program s) ≤ rounds) → IsRoundDone c rounds 1 → IsAnswered c
all_done c rounds most done = all_left_none c.program c.places each
  where
    each : (s : ℕ) → s < session_count c.program → has_more c.program c.places s ≡ false
    each zero there = done.setup
    each (suc s) there =
        let few = most (suc s) (omega arith) there in
        let turned = done.others (suc s) (omega arith) there in
        left_none c.program c.places (suc s) (omega (arith, few, turned))
