use Rattle.std.proofs.Common.{◌<◌, ◌∙◌, List, length, sym, ap, subst}
use Rattle.lv_tasks.specs.declared.task.Task.{Task}
use Rattle.lv_upkeep.specs.Kept.{UpkeepRoom}
use Rattle.lv_upkeep.specs.Moves.{upkeep_with_task}
use Rattle.lv_upkeep.proofs.Made.{made, with_task_made}
use Rattle.lv_upkeep.proofs.upkeep.Upkeep.task.Goals as goal

pub returns-clause-added : goal.returns-clause-added
returns-clause-added c =
    let views = c.self.inside.views.list in
    let claims = c.self.inside.claims in
    let task : Task = record { commit = c.args.commit; actions = c.args.actions } in
    let lt = subst (λ (u : UpkeepRoom). c.args.view < length u.kept.points) (sym c.self.view_is) c.requires.view in
    ap (λ (tasks : List (List Task)). made views tasks claims) c.add.ensures.added
    ∙ with_task_made views c.self.inside.tasks.tasks claims c.args.view task lt
    ∙ ap (λ (u : UpkeepRoom). upkeep_with_task c.args.view task u.kept) c.self.view_is
