use Rattle.std.proofs.Common.{◌∙◌, sym, ap, subst, arith}
use Rattle.std.proofs.lemmas.List.Sorted.{IsNonDecreasingBy-drop}
use Rattle.lv_values.specs.Room.{Roomy}
use Rattle.lv_tasks.specs.declared.task.Task.{Task}
use Rattle.lv_tasks.specs.Kept.{tasks_above}
use Rattle.lv_tasks.specs.Queues.{Ascend}
use Rattle.lv_tasks.proofs.Cuts.{cut_above}
use Rattle.lv_tasks.proofs.queue.Queue.drop_to.Goals as goal

pub invariant_of-self : goal.invariant_of-self
invariant_of-self c =
    let dropped = c.drop_front-dropped.ensures in
    (subst Ascend (sym dropped.rest) (IsNonDecreasingBy-drop (λ (t : Task). t.commit) c.place_above-count.result c.self.inside.tasks.items c.self.invariant.0), omega (arith, c.self.invariant.1, dropped.dropped))

pub returns-clause-rest : goal.returns-clause-rest
returns-clause-rest c =
    c.drop_front-dropped.ensures.rest
    ∙ sym (cut_above c.args.hi c.place_above-count.result c.self.inside.tasks.items c.place_above-count.ensures.cut)
    ∙ ap (λ (q : Roomy Task). tasks_above c.args.hi q.list) c.self.view_is
