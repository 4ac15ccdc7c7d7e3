use Rattle.std.proofs.Common.{◌∙◌, ap}
use Rattle.std.specs.Prelude.{slice_set}
use Rattle.std.proofs.lemmas.List.{get_or_default}
use Rattle.lv_values.specs.Room.{Roomy}
use Rattle.lv_tasks.specs.declared.task.Task.{Task}
use Rattle.lv_tasks.specs.Kept.{tasks_above}
use Rattle.lv_tasks.specs.Queues.{lists_of, no_queue}
use Rattle.lv_tasks.proofs.Lists.{lists_set}
use Rattle.lv_tasks.proofs.tasks.drop_at.Goals as goal

pub returns-clause-rest : goal.returns-clause-rest
returns-clause-rest c =
    let queues = c.args.queues.now in
    lists_set queues c.args.at c.drop_to.new.self
    ∙ ap (slice_set (lists_of queues) c.args.at) (c.drop_to.ensures.rest ∙ ap (λ (q : Roomy Task). tasks_above c.args.hi q.list) (get_or_default queues c.args.at c.index-queues-at.result no_queue c.requires))
