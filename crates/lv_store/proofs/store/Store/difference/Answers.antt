use Rattle.std.proofs.Common.{◌∙◌}
use Rattle.std.proofs.lemmas.Result.{IfOk-weaker}
use Rattle.lv_store.proofs.SmallInputs.{can_read, difference_told, fit_over, most_is}
use Rattle.lv_store.proofs.store.Store.difference.Goals as goal

pub step_difference-requires-clause-can : goal.step_difference-requires-clause-can
step_difference-requires-clause-can g c = can_read c.args.self.now c.args.step c.requires.can c.view-def.result.now c.view-def.ensures

pub step_difference-requires-clause-fit : goal.step_difference-requires-clause-fit
step_difference-requires-clause-fit g c = fit_over c.args.self.now c.args.step c.requires.can c.view-def.result.now c.view-def.ensures

pub returns-clause-changes : goal.returns-clause-changes
returns-clause-changes g c =
    IfOk-weaker c.step_difference.result _ _
    (λ changes is. is ∙ difference_told c.args.self.now c.args.step c.requires.can c.view-def.result.now c.view-def.ensures)
    c.step_difference.ensures.changes

pub returns-clause-most : goal.returns-clause-most
returns-clause-most g c = λ n cost.
    most_is c.args.self.now c.args.step c.requires.can c.view-def.result.now c.view-def.ensures n cost c.args.steps.now c.step_difference.new.steps c.step_difference.ensures.most
