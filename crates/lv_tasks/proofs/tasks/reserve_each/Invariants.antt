use Rattle.std.proofs.Common.{◌≡◌, ◌≤◌, ◌<◌, ℕ, length}
use Rattle.lv_tasks.specs.Queues.{HaveRoom, lists_of, queue_at}
use Rattle.lv_tasks.proofs.tasks.reserve_each.Given as goal

abbrev pub invariant-loop-at : goal.invariant-loop-at
invariant-loop-at l =
    record {
      same : lists_of l.queues ≡ lists_of l.fn.queues;
      long : length l.queues ≡ length l.fn.queues;
      room : (k : ℕ) → k < l.at → l.more ≤ (queue_at l.queues k).spare;
      kept : (n : ℕ) → HaveRoom n l.fn.queues → HaveRoom n l.queues;
    }
