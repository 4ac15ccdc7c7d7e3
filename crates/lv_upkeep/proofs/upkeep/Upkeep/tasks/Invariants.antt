use Rattle.std.proofs.Common.{◌≡◌}
use Rattle.std.specs.List.{flat_map, range_with_len}
use Rattle.lv_tasks.specs.Kept.{pairs_of, tasks_kept}
use Rattle.lv_upkeep.proofs.upkeep.Upkeep.tasks.Given as goal

abbrev pub invariant-loop-view : goal.invariant-loop-view
invariant-loop-view l = l.list ≡ flat_map (λ v. pairs_of v (tasks_kept l.self-inside.tasks.tasks v)) (range_with_len 0 l.view)
