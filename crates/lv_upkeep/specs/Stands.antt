-- When the upkeep that is kept stands for that of a world.
use Rattle.std.specs.Prelude.{◌≡◌, ℕ, ◌<◌, map, length}
use Rattle.lv_schema.specs.declared.view.ViewDef.{ViewDef}
use Rattle.lv_schema.specs.Tasks.{actions_on, pending_now}
use Rattle.lv_schema.specs.World.{Visible, World, commit_at, view_at}
use Rattle.lv_tasks.specs.declared.task.Task.{Task}
use Rattle.lv_tasks.specs.Kept.{tasks_kept}
use Rattle.lv_upkeep.specs.Kept.{UpkeepKept}

-- the task of a view for commit k
abbrev pub task_of : Visible → ViewDef → ℕ → Task
task_of s view k = record { commit = k; actions = actions_on view (commit_at s.commits k) }

-- points, marks and claims are the world's, and the tasks are those that are pending
pub record UpkeepStands (w : World) (u : UpkeepKept) : Type 0 where
  pub points_are : u.points ≡ w.upkeep.points
  pub marks_are : u.marks ≡ w.upkeep.marks
  pub claims_are : u.claims ≡ w.upkeep.claims
  pub all : length u.tasks ≡ length w.visible.views
  pub each : (v : ℕ) → v < length w.visible.views → tasks_kept u.tasks v ≡ map (task_of w.visible (view_at w.visible.views v)) (pending_now w v)
