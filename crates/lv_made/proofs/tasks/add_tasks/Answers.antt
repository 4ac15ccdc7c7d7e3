use Rattle.std.proofs.Common.{◌≡◌, List, length, ap, subst, arith}
use Rattle.lv_tasks.specs.declared.task.Task.{Task}
use Rattle.lv_tasks.specs.Kept.{actions_in}
use Rattle.lv_made.proofs.AddedTasks.{AreAdded, all_added, few_on}
use Rattle.lv_made.proofs.tasks.add_tasks.Goals as goal

pub add_task-requires-clause-fits : goal.add_task-requires-clause-fits
add_task-requires-clause-fits c =
    let view = c.loop-view.view in
    omega (arith, c.requires.fits view, ap (λ (ts : List Task). actions_in ts) (c.loop-view.invariant.left view (omega arith)), c.actions_on-count.ensures, few_on c.view.result.now c.args.actions.now)

pub returns : goal.returns
returns c =
    let views = c.args.schema.now.views in
    let ended : c.loop-view.view ≡ length views = omega (arith, c.loop-view.auto.view-end, c.loop-view-test.false, c.views-view-end.ensures.count) in
    all_added c.args.number c.args.actions.now views c.args.upkeep.now c.loop-view.upkeep (omega (arith, c.requires.all, c.requires.tasks))
    (subst (λ n. AreAdded c.args.number c.args.actions.now views n c.args.upkeep.now c.loop-view.upkeep) ended c.loop-view.invariant)
