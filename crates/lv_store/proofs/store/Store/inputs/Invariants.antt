use Rattle.std.proofs.Common.{drop, take}
use Rattle.std.specs.List.{AllZip}
use Rattle.lv_store.specs.Querying.{IsCostIn, IsInputIn}
use Rattle.lv_store.proofs.SmallInputs.{IsLeft}
use Rattle.lv_store.proofs.store.Store.inputs.Given as goal

abbrev pub invariant-loop-step : goal.invariant-loop-step
invariant-loop-step g l = record {
  inputs : AllZip (IsInputIn l.self) (take l.step-index l.forced) l.inputs;
  left : IsLeft (IsCostIn l.self) l.initial.steps l.steps l.forced l.step-index (drop l.step-index l.forced);
}
