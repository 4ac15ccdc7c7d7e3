use Rattle.std.proofs.Common.{◌∙◌, sym, ap}
use Rattle.lv_values.specs.Room.{Roomy}
use Rattle.lv_schema.specs.StepPlans.{step_end}
use Rattle.lv_tasks.specs.declared.task.Task.{Task}
use Rattle.lv_tasks.specs.Kept.{commits_between}
use Rattle.lv_tasks.proofs.Cuts.{commits_cut}
use Rattle.lv_tasks.proofs.queue.Queue.next_range.Goals as goal

pub returns : goal.returns
returns g c =
    let inside = g.V.Live.inside c.args.live.now in
    c.end_within.ensures
    ∙ ap (step_end inside c.args.combine) (sym (commits_cut c.args.lo c.args.limit c.place_above-from.result c.place_above-end.result c.self.inside.tasks.items c.place_above-from.ensures.cut c.place_above-end.ensures.cut))
    ∙ ap (λ (q : Roomy Task). step_end inside c.args.combine (commits_between c.args.lo c.args.limit q.list)) c.self.view_is
