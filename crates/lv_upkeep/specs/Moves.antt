-- What each call makes of what is kept.
use Rattle.std.specs.Prelude.{ℕ, [], ◌∷◌, ◌++◌, slice_index, slice_set, Option}
use Rattle.lv_schema.specs.declared.forced.Forced.{Forced}
use Rattle.lv_tasks.specs.declared.task.Task.{Task}
use Rattle.lv_tasks.specs.Kept.{tasks_above, tasks_kept}
use Rattle.lv_upkeep.specs.Kept.{UpkeepKept}

-- a view that is made at a commit is maintained and marked to it
abbrev pub upkeep_with_view : ℕ → UpkeepKept → UpkeepKept
upkeep_with_view created u = record u { points = u.points ++ created ∷ []; marks = u.marks ++ created ∷ []; tasks = u.tasks ++ [] ∷ [] }

-- a task behind the view's others
abbrev pub upkeep_with_task : ℕ → Task → UpkeepKept → UpkeepKept
upkeep_with_task v task u = record u { tasks = slice_set u.tasks v (tasks_kept u.tasks v ++ task ∷ []) }

-- a view's point rises over its tasks
abbrev pub upkeep_stepped : Forced → UpkeepKept → UpkeepKept
upkeep_stepped f u = record u { points = slice_set u.points f.view f.hi; tasks = slice_set u.tasks f.view (tasks_above f.hi (tasks_kept u.tasks f.view)) }

-- a worker's claim, and its end
abbrev pub upkeep_claimed : ℕ → Option Forced → UpkeepKept → UpkeepKept
upkeep_claimed worker claim u = record u { claims = slice_set u.claims worker claim }

-- a view is marked at its point
abbrev pub upkeep_marked : ℕ → UpkeepKept → UpkeepKept
upkeep_marked v u = record u { marks = slice_set u.marks v (slice_index u.points v) }
