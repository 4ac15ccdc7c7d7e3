use Rattle.std.proofs.Common.{◌<◌, [], length, refl, ap, ◌∙◌, subst, arith}
use Rattle.std.specs.Prelude.{replicate}
use Rattle.std.proofs.lemmas.List.{take_all}
use Rattle.lv_schema.specs.declared.forced.Forced.{Forced}
use Rattle.lv_store.specs.Pending.{ArePending}
use Rattle.lv_store.specs.Querying.{CanCompute, IsCostIn}
use Rattle.lv_store.proofs.PendingSteps.{next_pending, none_are_pending}
use Rattle.lv_store.proofs.SmallInputs.{fails_left, goes_left, starts_left}
use Rattle.lv_store.proofs.Steps.{each_at}
use Rattle.lv_store.proofs.store.Store.differences.Goals as goal

pub loop-step-init : goal.loop-step-init
loop-step-init g c = record {
  pending = none_are_pending c.args.self.now c.in_ok-pending.pending (c.in_ok-pending.ensures ∙ ap (λ n. replicate n []) c.len.ensures);
  cost = λ e. refl;
  costs = starts_left (IsCostIn c.args.self.now) c.args.steps.now c.args.taken.now;
}

pub add_step_difference-requires-clause-can : goal.add_step_difference-requires-clause-can
add_step_difference-requires-clause-can g c = each_at (CanCompute c.args.self.now) c.args.taken.now c.loop-step.step-index (record { view = 0; lo = 0; hi = 0 }) (omega (arith, c.loop-step-test.true)) c.requires.can

pub add_step_difference-requires-clause-view : goal.add_step_difference-requires-clause-view
add_step_difference-requires-clause-view g c =
    let inside = each_at (λ (f : Forced). f.view < length c.args.self.now.rows.list) c.args.taken.now c.loop-step.step-index (record { view = 0; lo = 0; hi = 0 }) (omega (arith, c.loop-step-test.true)) c.requires.views in
    omega (arith, inside, c.loop-step.invariant.pending.all)

pub loop-step-preserved : goal.loop-step-preserved
loop-step-preserved g c =
    let p = c.args.self.now in
    let i = c.loop-step.step-index in
    let lt = c.loop-step-test.true in
    let inside = each_at (λ (f : Forced). f.view < length p.rows.list) c.args.taken.now i (record { view = 0; lo = 0; hi = 0 }) (omega (arith, lt)) c.requires.views in
    let kept = c.loop-step.invariant in
    record {
      pending = next_pending p c.args.taken.now i (record { view = 0; lo = 0; hi = 0 }) c.loop-step.pending c.add_step_difference.new.pending (omega (arith, lt)) inside kept.pending c.in_ok-add_step_difference.ensures.added;
      cost = λ e. absurd (omega (arith, lt, ap length e));
      costs = goes_left (IsCostIn p) c.args.steps.now c.loop-step.steps c.add_step_difference.new.steps c.args.taken.now i (record { view = 0; lo = 0; hi = 0 }) (omega (arith, lt)) c.in_ok-add_step_difference.ensures.most kept.costs;
    }

pub returns-in_err-add_step_difference-clause-most : goal.returns-in_err-add_step_difference-clause-most
returns-in_err-add_step_difference-clause-most g c = λ n costs.
    fails_left (IsCostIn c.args.self.now) c.args.steps.now c.loop-step.steps c.add_step_difference.new.steps c.args.taken.now c.loop-step.step-index (record { view = 0; lo = 0; hi = 0 }) (omega (arith, c.loop-step-test.true)) c.in_err-add_step_difference.ensures.most c.loop-step.invariant.costs n costs

pub returns-clause-pending : goal.returns-clause-pending
returns-clause-pending g c = subst (λ fs. ArePending c.args.self.now fs c.loop-step.pending) (take_all c.loop-step.step-index c.args.taken.now (omega (arith, c.loop-step-test.false))) c.loop-step.invariant.pending
