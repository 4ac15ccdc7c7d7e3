use Rattle.std.proofs.Common.{arith}
use Rattle.lv_store.specs.Querying.{CanCompute, IsCostIn, IsInputIn}
use Rattle.lv_store.proofs.SmallInputs.{fails_left, goes_left, one_zip}
use Rattle.lv_store.proofs.Steps.{each_at}
use Rattle.lv_store.proofs.store.Store.inputs.Goals as goal

pub input-requires-clause-can : goal.input-requires-clause-can
input-requires-clause-can g c = each_at (CanCompute c.args.self.now) c.args.forced.now c.loop-step.step-index (record { view = 0; lo = 0; hi = 0 }) (omega (arith, c.loop-step-test.true)) c.requires.can

pub returns-in_err-input-clause-most : goal.returns-in_err-input-clause-most
returns-in_err-input-clause-most g c = λ n costs.
    fails_left (IsCostIn c.args.self.now) c.args.steps.now c.loop-step.steps c.input.new.steps c.args.forced.now c.loop-step.step-index (record { view = 0; lo = 0; hi = 0 }) (omega (arith, c.loop-step-test.true)) c.in_err-input.ensures.most c.loop-step.invariant.left n costs

pub returns-in_err-push-clause-most : goal.returns-in_err-push-clause-most
returns-in_err-push-clause-most g c = λ n costs.
    fails_left (IsCostIn c.args.self.now) c.args.steps.now c.loop-step.steps c.input.new.steps c.args.forced.now c.loop-step.step-index (record { view = 0; lo = 0; hi = 0 }) (omega (arith, c.loop-step-test.true)) c.in_ok-input.ensures.most c.loop-step.invariant.left n costs

pub loop-step-preserved : goal.loop-step-preserved
loop-step-preserved g c = record {
  inputs = one_zip (IsInputIn c.args.self.now) c.args.forced.now c.loop-step.inputs c.push.new.self c.loop-step.step-index (record { view = 0; lo = 0; hi = 0 }) _ (omega (arith, c.loop-step-test.true)) c.loop-step.invariant.inputs c.in_ok-input.ensures.input c.in_ok-push.ensures.added;
  left = goes_left (IsCostIn c.args.self.now) c.args.steps.now c.loop-step.steps c.input.new.steps c.args.forced.now c.loop-step.step-index (record { view = 0; lo = 0; hi = 0 }) (omega (arith, c.loop-step-test.true)) c.in_ok-input.ensures.most c.loop-step.invariant.left;
}
