use Rattle.std.proofs.Common.{◌≡◌, take}
use Rattle.lv_tasks.specs.Kept.{pairs_of}
use Rattle.lv_tasks.proofs.queue.Queue.list.Given as goal

abbrev pub invariant-loop-at : goal.invariant-loop-at
invariant-loop-at l = l.list ≡ pairs_of l.view (take l.at l.self-inside.tasks.items)
