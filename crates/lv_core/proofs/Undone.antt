-- A run in which want of memory has left all but the room in the journal goes on.
use Rattle.std.proofs.Common.{◌≡◌, ℕ, ◌≤◌, List, Option, refl, sym, ap, ◌∙◌, subst, arith}
use Rattle.std.specs.Prelude.{◌+◌, ◌-◌, ◌^◌, min}
use Rattle.lv_plain.specs.declared.entry.Entry.{Entry}
use Rattle.lv_plain.specs.declared.program.Program.{Program}
use Rattle.lv_plain.specs.Programs.{Places}
use Rattle.lv_store.specs.Kept.{StoreKept}
use Rattle.lv_engine.specs.Kept.{EngineView}
use Rattle.lv_engine.proofs.Writes.{same_stands}
use Rattle.lv_core.specs.Answering.{IsUndone}
use Rattle.lv_core.specs.Run.{CoreView, IsRoomy, IsRun, failures_shown, settings_of, state_of, view_of}
use Rattle.lv_core.specs.Run as run
use Rattle.lv_core.proofs.Logged.{logged_undone}

still_caused : (shown old new : ℕ) → min shown (2 ^ 64 - 1) ≤ old → new ≡ old → min shown (2 ^ 64 - 1) ≤ new
still_caused shown old new le same = omega (arith, le, same)

-- the run over another engine
abbrev pub over : {D : Type 0} → CoreView D → EngineView D → CoreView D
over c new = record c { engine = new }

module _ {D : Type 0} (seen : D → Option (List ℕ)) (may_leave : D → List ℕ → Type 0) (moment : D → ℕ) (left_since : D → ℕ → List ℕ → Type 0) (failures : D → ℕ) where
  module _ (c : CoreView D) (new : EngineView D) (undone : IsUndone seen may_leave moment left_since failures c.engine new) where
    same_run : run.IsSame c (over c new)
    same_run = record { settings = refl; program = refl; opened = refl; places = refl; entries = refl; store = undone.same.store_is }

    held_yet : IsRun seen may_leave moment left_since failures c → IsRun seen may_leave moment left_since failures (over c new)
    held_yet held = record {
      within = held.within;
      settings_are = held.settings_are ∙ ap (λ (s : StoreKept). settings_of s.settings c.settings.policy) (sym undone.same.store_is);
      opening = held.opening;
      recs = held.recs;
      opened_by = held.opened_by;
      begins = held.begins;
      legal = held.legal;
      places_are = held.places_are;
      claims = held.claims;
      stands = same_stands (state_of c).world c.engine new undone.same held.stands;
      records = λ recs has. logged_undone seen may_leave moment left_since failures c new recs (held.records recs has) undone.logs;
      caused = still_caused (failures c.opened.journal.disk + failures_shown c.entries) (failures c.engine.journal.disk) (failures new.journal.disk) held.caused undone.disk.count;
    }

    roomy_yet : (spare more : ℕ) → IsRoomy seen may_leave moment left_since failures c spare → spare ≤ more → IsRoomy seen may_leave moment left_since failures (over c new) more
    roomy_yet spare more held le = record {
      run = held_yet held.run;
      room = omega (arith, held.room, le, ap (λ (s : StoreKept). run.claim_count s.upkeep.claims) undone.same.store_is);
    }

  -- what a run keeps then
  pub record IsLeft (c d : CoreView D) (spare : ℕ) : Type 0 where
    pub same : run.IsSame c d
    pub undone : IsUndone seen may_leave moment left_since failures c.engine d.engine
    pub roomy : IsRoomy seen may_leave moment left_since failures d spare

  module _ (policy : ℕ) (p : Program) (old new opened : EngineView D) (places : Places) (es later : List Entry) (c : CoreView D) (is : view_of policy p old opened places es ≡ c) (same : later ≡ es) (undone : IsUndone seen may_leave moment left_since failures old new) where
    abbrev seen_with : StoreKept → List Entry → CoreView D
    seen_with s later = record { settings = settings_of s.settings policy; program = p; places = places; entries = later; engine = new; opened = opened }

    over_is : view_of policy p new opened places later ≡ over c new
    over_is = (λ i. seen_with (undone.same.store_is i) (same i)) ∙ ap (λ (v : CoreView D). over v new) is

    pub is_left : (spare more : ℕ) → IsRoomy seen may_leave moment left_since failures (view_of policy p old opened places es) spare → spare ≤ more → IsLeft c (view_of policy p new opened places later) more
    is_left spare more held le =
        let here : IsUndone seen may_leave moment left_since failures c.engine new = subst (λ (v : CoreView D). IsUndone seen may_leave moment left_since failures v.engine new) is undone in
        let roomy = subst (λ (v : CoreView D). IsRoomy seen may_leave moment left_since failures v spare) is held in
        subst (λ (v : CoreView D). IsLeft c v more) (sym over_is) (record { same = same_run c new here; undone = here; roomy = roomy_yet c new here spare more roomy le })
