-- What the calls of actors leave of a run: the same program goes on over the same opened engine, and entries are only added.
use Rattle.std.proofs.Common.{inl, inr, ◌≡◌, ◌<◌, ◌≤◌, ℕ, zero, suc, Bool, true, false, List, [], ◌∷◌, ◌++◌, Option, Some, None, refl, sym, ap, ◌∙◌, subst, arith}
use Rattle.std.specs.Prelude.{◌+◌, ◌-◌, ◌⊎◌, OnOk, Result, Ok, Err, slice_index_or, slice_set}
use Rattle.std.proofs.lemmas.Bool.{cases_lt}
use Rattle.std.proofs.lemmas.List.{append-nil, append_assoc}
use Rattle.lv_schema.specs.declared.forced.Forced.{Forced as Step}
use Rattle.lv_schema.specs.UpkeepCases.{claim_of}
use Rattle.lv_plain.specs.declared.event.Event.{Event}
use Rattle.lv_plain.specs.declared.event.Event.TheVariants.{Clean as clean_up}
use Rattle.lv_plain.specs.Legal.{IsWorker}
use Rattle.lv_plain.specs.Machine.{State}
use Rattle.lv_plain.specs.Programs.{may_turn, setup_answered}
use Rattle.lv_shelf.proofs.Shelved.{none_set}
use Rattle.lv_shared.specs.declared.machine.Taken.{Taken}
use Rattle.lv_shared.specs.declared.machine.Taken.TheVariants.{Work, Idle, Ended}
use Rattle.lv_core.specs.declared.jobs.Assignment.{Assignment}
use Rattle.lv_core.specs.Actors.{CleansIf, Fetches, Frees, FreesBy, Gives, GivesBy, Installs, IsFree, Takes, Turns, TurnsBy}
use Rattle.lv_core.specs.Run.{CoreView, Gave, HasGrown, IsSame, state_of}
use Rattle.lv_core.specs.Slots.{SlotsKept, slot_of, slots_without}

-- an actor is a session or a worker
pub either_actor : {P : Type 0} (actor : ℕ) → (actor ≤ 16 → P) → (16 < actor → P) → P
either_actor {P} actor session worker = by (cases_lt 16 actor)
  where
    by : (16 < actor) ⊎ (actor ≤ 16) → P
    by (inl high) = worker high
    by (inr low) = session low

module _ {D : Type 0} where
  pub grown_same : (a b : CoreView D) → b ≡ a → HasGrown a b
  grown_same a b same = subst (λ (c : CoreView D). HasGrown a c) (sym same) (record { settings = refl; program = refl; opened = refl; entries = ([], sym (append-nil a.entries)) })

  pub grown_twice : (a b c : CoreView D) → HasGrown a b → HasGrown b c → HasGrown a c
  grown_twice a b c first second = record {
    settings = second.settings ∙ first.settings;
    program = second.program ∙ first.program;
    opened = second.opened ∙ first.opened;
    entries = (first.entries.0 ++ second.entries.0, second.entries.1 ∙ ap (λ es. es ++ second.entries.0) first.entries.1 ∙ append_assoc a.entries first.entries.0 second.entries.0);
  }

  grown_kept : (a b : CoreView D) → IsSame a b → HasGrown a b
  grown_kept a b same = record { settings = same.settings; program = same.program; opened = same.opened; entries = ([], same.entries ∙ sym (append-nil a.entries)) }

module _ {D : Type 0} (seen : D → Option (List ℕ)) (may_leave : D → List ℕ → Type 0) (moment : D → ℕ) (left_since : D → ℕ → List ℕ → Type 0) (failures : D → ℕ) where
  grown_gave : (event : Event) (a b : CoreView D) → Gave seen may_leave moment left_since failures event a b → HasGrown a b
  grown_gave event a b gave = record { settings = gave.settings; program = gave.program; opened = gave.opened; entries = (_, gave.entry) }

  pub grown_frees : (worker : ℕ) (a b : CoreView D) → Frees seen may_leave moment left_since failures worker a b → HasGrown a b
  grown_frees worker a b frees = by (claim_of (state_of a).world.upkeep worker) frees
    where
      by : (claim : Option Step) → FreesBy seen may_leave moment left_since failures claim worker a b → HasGrown a b
      by None same = grown_same a b same
      by (Some step) gave = grown_gave _ a b gave

  grown_fetches : {E : Type 0} (worker : ℕ) (a b : CoreView D) (taken : Result (Taken Assignment) E) → Fetches seen may_leave moment left_since failures worker a b taken → HasGrown a b
  grown_fetches worker a b (Ok (Work w)) fetches = grown_gave _ a b fetches.2.gave
  grown_fetches worker a b (Ok Idle) same = grown_same a b same
  grown_fetches worker a b (Ok Ended) same = grown_same a b same
  grown_fetches worker a b (Err e) same = grown_same a b same

  pub grown_takes : {E : Type 0} (worker : ℕ) (a b : CoreView D) (taken : Result (Taken Assignment) E) → Takes seen may_leave moment left_since failures worker a b taken → HasGrown a b
  grown_takes worker a b taken takes = grown_twice a takes.freed b (grown_frees worker a takes.freed takes.frees) (grown_fetches worker takes.freed b taken takes.fetches)

  pub grown_turns : {E : Type 0} (session : ℕ) (a b : CoreView D) (result : Result (Unit {0}) E) → Turns seen may_leave moment left_since failures session a b result → HasGrown a b
  grown_turns session a b result turns = by (may_turn a.program a.places session) result turns
    where
      by : {E : Type 0} (may : Bool) (result : Result (Unit {0}) E) → TurnsBy seen may_leave moment left_since failures may session a b result → HasGrown a b
      by true (Ok done) gave = grown_gave _ a b gave
      by true (Err e) kept = grown_kept a b kept.0
      by false (Ok done) same = grown_same a b same
      by false (Err e) none = absurd none

  grown_installs : (worker : ℕ) (a b : CoreView D) → Installs seen may_leave moment left_since failures worker a b → HasGrown a b
  grown_installs worker a b installs = grown_twice a installs.mid b (grown_gave _ a installs.mid installs.gave) (by _ installs.cleans)
    where
      by : (cleans : Bool) → CleansIf seen may_leave moment left_since failures cleans installs.mid b → HasGrown installs.mid b
      by true gave = grown_gave clean_up installs.mid b gave
      by false same = grown_same installs.mid b same

  pub grown_gives : {E : Type 0} (worker : ℕ) (a b : CoreView D) (result : Result (Unit {0}) E) → Gives seen may_leave moment left_since failures worker a b result → HasGrown a b
  grown_gives worker a b result gives = by (setup_answered a.program a.places) result gives
    where
      by : {E : Type 0} (answered : Bool) (result : Result (Unit {0}) E) → GivesBy seen may_leave moment left_since failures answered worker a b result → HasGrown a b
      by true (Ok done) installs = grown_installs worker a b installs
      by true (Err e) same = grown_same a b same
      by false (Ok done) same = grown_same a b same
      by false (Err e) none = absurd none

  -- ---- a worker's claim that ends leaves the others
  pub others_free : (worker other : ℕ) (a b : CoreView D) → Frees seen may_leave moment left_since failures worker a b → claim_of (state_of a).world.upkeep other ≡ None → claim_of (state_of b).world.upkeep other ≡ None
  others_free worker other a b frees none = by (claim_of (state_of a).world.upkeep worker) frees
    where
      by : (claim : Option Step) → FreesBy seen may_leave moment left_since failures claim worker a b → claim_of (state_of b).world.upkeep other ≡ None
      by None same = ap (λ (c : CoreView D). claim_of (state_of c).world.upkeep other) same ∙ none
      by (Some step) gave = ap (λ (s : State). claim_of s.world.upkeep other) gave.state ∙ none_set (state_of a).world.upkeep.claims worker other none

-- ---- a slot that is emptied
emptied : {A : Type 0} (slots : List (Option A)) (worker : ℕ) → slice_index_or (slice_set slots worker None) worker None ≡ None
emptied [] worker = refl
emptied (s ∷ slots) zero = refl
emptied (s ∷ slots) (suc worker) = emptied slots worker

pub empty_slot : (old new : SlotsKept) (worker : ℕ) → new ≡ slots_without worker old → slot_of new worker ≡ None
empty_slot old new worker is = ap (λ (slots : SlotsKept). slot_of slots worker) is ∙ emptied old worker

pub other_empty : (old new : SlotsKept) (worker other : ℕ) → new ≡ slots_without worker old → slot_of old other ≡ None → slot_of new other ≡ None
other_empty old new worker other is none = ap (λ (slots : SlotsKept). slot_of slots other) is ∙ none_set old worker other none

pub on_both : {A E P Q R : Type 0} (r : Result A E) → OnOk r P → OnOk r Q → (P → Q → R) → OnOk r R
on_both (Ok a) p q both = both p q
on_both (Err e) p q both = tt

-- ---- what every actor's being free says of workers
module _ {D : Type 0} (c : CoreView D) (slots : SlotsKept) (free : (actor : ℕ) → 1 ≤ actor → actor ≤ 24 → IsFree c slots actor) (worker : ℕ) (is : IsWorker worker) where
  back : worker + 16 - 16 ≡ worker
  back = omega arith

  high : 16 < worker + 16
  high = omega (arith, is.0)

  its : IsFree c slots (worker + 16)
  its = free (worker + 16) (omega arith) (omega (arith, is.1))

  pub none_claimed : claim_of (state_of c).world.upkeep worker ≡ None
  none_claimed = subst (λ (k : ℕ). claim_of (state_of c).world.upkeep k ≡ None) back (its.0 high)

  pub none_lies : slot_of slots worker ≡ None
  none_lies = subst (λ (k : ℕ). slot_of slots k ≡ None) back (its.1 high)
