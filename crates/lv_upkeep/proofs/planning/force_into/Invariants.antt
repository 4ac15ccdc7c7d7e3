use Rattle.std.proofs.Common.{◌≡◌, ◌-◌, ◌++◌}
use Rattle.lv_tasks.specs.Kept.{tasks_kept}
use Rattle.lv_upkeep.specs.Kept.{forced_among}
use Rattle.lv_upkeep.proofs.planning.force_into.Given as goal

abbrev pub invariant-loop-hi : goal.invariant-loop-hi
invariant-loop-hi g l =
    l.out ++ forced_among (g.V.Live.inside l.live) l.combine l.view (tasks_kept l.tasks.tasks l.view) l.limit (l.limit - l.lo) l.lo
    ≡ l.fn.out ++ forced_among (g.V.Live.inside l.live) l.combine l.view (tasks_kept l.tasks.tasks l.view) l.limit (l.limit - l.from) l.from

abbrev pub decreases-loop-hi : goal.decreases-loop-hi
decreases-loop-hi g l = l.limit - l.lo
