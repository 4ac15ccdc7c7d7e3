use Rattle.std.proofs.Common.{◌≡◌, ◌+◌, drop}
use Rattle.std.specs.VecDeque.{deque_capacity}
use Rattle.lv_tasks.specs.Kept.{actions_in}
use Rattle.lv_tasks.proofs.queue.drop_front.Given as goal

abbrev pub invariant-loop : goal.invariant-loop
invariant-loop l =
    record {
      rest : l.tasks.items ≡ drop l.counter l.fn.tasks.items;
      dropped : l.dropped + actions_in l.tasks.items ≡ actions_in l.fn.tasks.items;
      room : deque_capacity l.tasks ≡ deque_capacity l.fn.tasks;
    }
