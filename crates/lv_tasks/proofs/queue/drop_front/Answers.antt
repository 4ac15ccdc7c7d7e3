use Rattle.std.proofs.Common.{◌≡◌, ◌∙◌, ◌++◌, ◌∷◌, ap, arith, drop}
use Rattle.std.specs.Prelude.{option_to_list}
use Rattle.std.proofs.lemmas.List.{drop-drop}
use Rattle.std.proofs.lemmas.List.Sums.{sum_by-cons}
use Rattle.lv_tasks.specs.declared.task.Task.{Task}
use Rattle.lv_tasks.specs.Kept.{actions_in}
use Rattle.lv_tasks.proofs.queue.drop_front.Goals as goal

pub loop-preserved : goal.loop-preserved
loop-preserved c =
    let task = c.unwrap-task.result in
    let left = c.pop_front.new.self.items in
    let front : c.loop.tasks.items ≡ task ∷ left = c.pop_front.ensures.items ∙ ap (λ o. option_to_list o ++ left) c.unwrap-task.ensures in
    record {
      rest = c.pop_front.ensures.rest ∙ ap (drop 1) c.loop.invariant.rest ∙ drop-drop 1 c.loop.counter c.args.tasks.now.items;
      dropped = omega (arith, ap actions_in front, sum_by-cons (λ (t : Task). t.actions) task left, c.loop.invariant.dropped);
      room = c.pop_front.ensures.capacity ∙ c.loop.invariant.room;
    }
