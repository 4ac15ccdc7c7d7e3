use Rattle.std.proofs.Common.{◌≡◌}
use Rattle.std.specs.List.{flat_map, range_with_len}
use Rattle.lv_upkeep.specs.Kept.{candidate_in}
use Rattle.lv_upkeep.proofs.upkeep.Upkeep.unclaimed.Given as goal

abbrev pub invariant-loop-view : goal.invariant-loop-view
invariant-loop-view l = l.list ≡ flat_map (candidate_in l.self-inside.claims l.self-inside.tasks.tasks) (range_with_len 0 l.view)
