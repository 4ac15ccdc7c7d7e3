use Rattle.std.proofs.Common.{◌∙◌, ◌++◌, ◌∷◌, [], ◌-◌, length, sym, ap, subst, arith}
use Rattle.std.proofs.lemmas.List.Sorted.{IsNonDecreasingBy-push}
use Rattle.std.proofs.lemmas.List.Sums.{sum_by-append}
use Rattle.lv_values.specs.Room.{Roomy}
use Rattle.lv_tasks.specs.declared.task.Task.{Task}
use Rattle.lv_tasks.specs.Kept.{IsLater, actions_in}
use Rattle.lv_tasks.specs.Queues.{Ascend}
use Rattle.lv_tasks.proofs.Lists.{earlier_at}
use Rattle.lv_tasks.proofs.queue.Queue.push.Goals as goal

pub invariant_of-self : goal.invariant_of-self
invariant_of-self c =
    let tasks = c.self.inside.tasks.items in
    let task = c.args.task in
    let added = c.push_back_reserved.ensures.items in
    let later : IsLater task.commit tasks = subst (λ (q : Roomy Task). IsLater task.commit q.list) (sym c.self.view_is) c.requires.later in
    let sums = sum_by-append (λ (t : Task). t.actions) tasks (task ∷ []) in
    (subst Ascend (sym added) (IsNonDecreasingBy-push (λ (t : Task). t.commit) tasks task c.self.invariant.0 (λ d some. omega (arith, earlier_at tasks (length tasks - 1) d task.commit later (omega (arith, some))))), omega (arith, c.self.invariant.1, ap actions_in added, sums))

pub returns-clause-added : goal.returns-clause-added
returns-clause-added c = c.push_back_reserved.ensures.items ∙ ap (λ (q : Roomy Task). q.list ++ c.args.task ∷ []) c.self.view_is

pub returns-clause-room : goal.returns-clause-room
returns-clause-room c =
    omega (arith, c.push_back_reserved.ensures.len, c.push_back_reserved.ensures.capacity, ap (λ (q : Roomy Task). q.spare) c.self.view_is, c.requires.room)
