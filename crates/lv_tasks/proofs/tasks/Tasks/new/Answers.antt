use Rattle.std.proofs.Common.{◌≡◌, ◌<◌, ◌∙◌, ℕ, List, [], length, ap, rules, arith}
use Rattle.std.specs.Prelude.{replicate}
use Rattle.lv_tasks.specs.declared.task.Task.{Task}
use Rattle.lv_tasks.specs.Kept.{TasksKept}
use Rattle.lv_tasks.specs.Queues.{no_queue, queue_at}
use Rattle.lv_tasks.proofs.Lists.{all_new}
use Rattle.lv_tasks.proofs.tasks.Tasks.new.Goals as goal

pub returns : goal.returns
returns c =
    let made = c.from_fn.ensures.items in
    let each : (i : ℕ) → i < length c.from_fn.result → (queue_at c.from_fn.result i).list ≡ [] = λ i lt.
    let lt32 : i < 32 = omega (arith, made.long) in
    let called = (made.at i no_queue lt32).2 in search rules
    in
    ap (λ (tasks : List (List Task)). let r : TasksKept = record { tasks = tasks; spare = 0 } in r) (all_new c.from_fn.result each ∙ ap (λ n. replicate n []) made.long)
