-- What a run that is kept says besides.
use Rattle.std.proofs.Common.{◌≡◌, ℕ, zero, suc, ◌≤◌, false, List, Option, refl, ◌∙◌, subst, arith}
use Rattle.std.specs.Prelude.{◌+◌, ◌-◌, ◌^◌, min}
use Rattle.lv_outside.specs.Causes.{Rose}
use Rattle.lv_plain.specs.Programs.{Places, setup_answered}
use Rattle.lv_plain.proofs.SessionsKept.{setups_come_first}
use Rattle.lv_engine.proofs.NoneLeft.{claim_is}
use Rattle.lv_core.specs.Run.{CoreView, IsRun, IsSetupAlone, failures_shown, state_of, world_of}
use Rattle.lv_core.proofs.Happened.{its_rules}
use Rattle.lv_core.proofs.Standing.{free_here}
use Rattle.lv_core.proofs.Turns.{nobody_live}
use Rattle.lv_core.proofs.Workers.{unclaimed_before}

-- a disk whose count did not rise failed at no entry
pub none_failed : (count failed now : ℕ) → min (count + failed) (2 ^ 64 - 1) ≤ now → (Rose count now → ⊥) → failed ≡ 0
none_failed count failed now caused well = by failed caused
  where
    by : (n : ℕ) → min (count + n) (2 ^ 64 - 1) ≤ now → n ≡ 0
    by zero caused = refl
    by (suc n) caused = absurd (well (omega (arith, caused)))

module _ {D : Type 0} (seen : D → Option (List ℕ)) (may_leave : D → List ℕ → Type 0) (moment : D → ℕ) (left_since : D → ℕ → List ℕ → Type 0) (failures : D → ℕ) (c : CoreView D) (held : IsRun seen may_leave moment left_since failures c) where
  pub unfailed : (Rose (failures c.opened.journal.disk) (failures c.engine.journal.disk) → ⊥) → failures_shown c.entries ≡ 0
  unfailed = none_failed (failures c.opened.journal.disk) (failures_shown c.entries) (failures c.engine.journal.disk) held.caused

  -- before the setup is answered
  pub setup_alone : setup_answered c.program c.places ≡ false → IsSetupAlone c.engine.store
  setup_alone left = record {
    sessions = λ session pos. free_here (state_of c).world c.engine session held.stands (setups_come_first (its_rules c) (world_of c.opened) c.entries session (nobody_live 17) held.legal left_there pos);
    workers = λ worker. claim_is (state_of c).world c.engine worker held.stands ∙ unclaimed_before seen may_leave moment left_since failures c worker held left;
  }
    where
      left_there : setup_answered c.program (state_of c).places ≡ false
      left_there = subst (λ (ps : Places). setup_answered c.program ps ≡ false) held.places_are left
