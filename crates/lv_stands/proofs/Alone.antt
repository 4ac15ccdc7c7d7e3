-- A change outside a transaction is BEGIN, the change and COMMIT; and after a fault nothing is changed.
use Rattle.std.proofs.Common.{◌≡◌, ℕ, Option, refl}
use Rattle.std.specs.Prelude.{Ok, Err}
use Rattle.lv_schema.specs.declared.change.Change.{Change}
use Rattle.lv_schema.specs.declared.fault.Fault.{Fault}
use Rattle.lv_schema.specs.declared.rec.Rec.{Rec}
use Rattle.lv_schema.specs.Cases.{Outcome, began, changed, committed, alone}
use Rattle.lv_schema.specs.WholeWorld.{world_after}
use Rattle.lv_schema.specs.World.{World}

module _ (outcome : Rec → Outcome) (session : ℕ) (change : Change) (w : World) where
  pub alone_done : (count : ℕ) (number : Option ℕ) → (changed session change (began session w.visible).next).answer ≡ Ok count → (committed outcome session (changed session change (began session w.visible).next).next).answer ≡ Ok number
      → world_after (alone outcome session change w.visible) w ≡ world_after (committed outcome session (changed session change (began session w.visible).next).next) (record { visible = (changed session change (began session w.visible).next).next; upkeep = w.upkeep })
  alone_done count number a b = rw (a, b) refl

  pub alone_refused : (fault : Fault) → (changed session change (began session w.visible).next).answer ≡ Err fault → world_after (alone outcome session change w.visible) w ≡ w
  alone_refused fault a = rw a refl

  pub alone_not_committed : (count : ℕ) (fault : Fault) → (changed session change (began session w.visible).next).answer ≡ Ok count → (committed outcome session (changed session change (began session w.visible).next).next).answer ≡ Err fault
      → world_after (alone outcome session change w.visible) w ≡ w
  alone_not_committed count fault a b = rw (a, b) refl
