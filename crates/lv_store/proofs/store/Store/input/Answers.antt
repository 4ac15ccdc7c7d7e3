use Rattle.lv_store.proofs.SmallInputs.{can_read, fit_over, input_is, most_is}
use Rattle.lv_store.proofs.Results.{ok_both}
use Rattle.lv_store.proofs.store.Store.input.Goals as goal

pub step_input-requires-clause-can : goal.step_input-requires-clause-can
step_input-requires-clause-can g c = can_read c.args.self.now c.args.step c.requires.can c.view-def.result.now c.view-def.ensures

pub step_input-requires-clause-fit : goal.step_input-requires-clause-fit
step_input-requires-clause-fit g c = fit_over c.args.self.now c.args.step c.requires.can c.view-def.result.now c.view-def.ensures

pub returns-clause-input : goal.returns-clause-input
returns-clause-input g c =
    ok_both c.step_input.result _ _ _ (λ input small same. input_is c.args.self.now c.args.step c.requires.can c.view-def.result.now c.view-def.ensures input small same) c.step_input.ensures.input c.step_input.ensures.same

pub returns-clause-most : goal.returns-clause-most
returns-clause-most g c = λ n cost.
    most_is c.args.self.now c.args.step c.requires.can c.view-def.result.now c.view-def.ensures n cost c.args.steps.now c.step_input.new.steps c.step_input.ensures.most
