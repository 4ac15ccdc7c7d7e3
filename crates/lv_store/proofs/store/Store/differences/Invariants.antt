use Rattle.std.proofs.Common.{◌≡◌, [], drop, take}
use Rattle.lv_store.specs.Pending.{ArePending}
use Rattle.lv_store.specs.Querying.{IsCostIn}
use Rattle.lv_store.proofs.SmallInputs.{IsLeft}
use Rattle.lv_store.proofs.store.Store.differences.Given as goal

abbrev pub invariant-loop-step : goal.invariant-loop-step
invariant-loop-step g l = record {
  pending : ArePending l.self (take l.step-index l.taken) l.pending;
  cost : l.taken ≡ [] → l.steps ≡ l.initial.steps;
  costs : IsLeft (IsCostIn l.self) l.initial.steps l.steps l.taken l.step-index (drop l.step-index l.taken);
}
