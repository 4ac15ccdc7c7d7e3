use Rattle.std.proofs.Common.{◌∙◌, ◌++◌, ◌∷◌, [], ap}
use Rattle.std.specs.Prelude.{slice_set}
use Rattle.std.proofs.lemmas.List.{get_or_default}
use Rattle.lv_values.specs.Room.{Roomy}
use Rattle.lv_tasks.specs.declared.task.Task.{Task}
use Rattle.lv_tasks.specs.Queues.{lists_of, no_queue}
use Rattle.lv_tasks.proofs.Lists.{lists_set}
use Rattle.lv_tasks.proofs.tasks.push_at.Goals as goal

pub returns-clause-added : goal.returns-clause-added
returns-clause-added c =
    let queues = c.args.queues.now in
    lists_set queues c.args.at c.push.new.self
    ∙ ap (slice_set (lists_of queues) c.args.at) (c.push.ensures.added ∙ ap (λ (q : Roomy Task). q.list ++ c.args.task ∷ []) (get_or_default queues c.args.at c.index-queues-at.result no_queue c.requires.place))
