use Rattle.std.proofs.Common.{◌≡◌, ◌≤◌, Some}
use Rattle.lv_schema.specs.StepPlans.{step_end}
use Rattle.lv_schema.proofs.PlannedSteps.{reached}
use Rattle.lv_tasks.proofs.Steps.{commits_within}
use Rattle.lv_tasks.proofs.queue.end_by_task.Given as goal

abbrev pub invariant-loop-more : goal.invariant-loop-more
invariant-loop-more g l =
    record {
      within : l.at ≤ l.end;
      so : step_end (g.V.Live.inside l.live) l.combine (commits_within l.from l.end l.tasks.items) ≡ Some (reached (g.V.Live.inside l.live) l.first l.hi l.more (commits_within l.at l.end l.tasks.items));
    }

abbrev pub decreases-loop-more : goal.decreases-loop-more
decreases-loop-more g l = l.more
