-- The pending tasks of each view, and what is told from them.
use Rattle.std.specs.Prelude.{ℕ, ◌<◌, nat_lt, nat_le, ◌&&◌, List, [], ◌∷◌, map, filter, slice_index_or, replicate, Option, Some, None}
use Rattle.std.specs.List.{AllByRecursion, sum_by}
use Rattle.lv_schema.specs.declared.pending.Pending.{Pending}
use Rattle.lv_tasks.specs.declared.task.Task.{Task}

-- the tasks of each view, at the place of its number; and how many more tasks go in without memory
pub record TasksKept : Type 0 where
  pub tasks : List (List Task)
  pub spare : ℕ

-- there are at most 32 views
abbrev pub no_tasks : List (List Task)
no_tasks = replicate 32 []

-- the tasks of a view
abbrev pub tasks_kept : List (List Task) → ℕ → List Task
tasks_kept tasks v = slice_index_or tasks v []

-- a commit is later than these tasks
abbrev pub IsLater : ℕ → List Task → Type 0
IsLater commit tasks = AllByRecursion (λ (t : Task). t.commit < commit) tasks

-- how many actions tasks have
abbrev pub actions_in : List Task → ℕ
actions_in tasks = sum_by (λ (t : Task). t.actions) tasks

-- the tasks above a number
abbrev pub tasks_above : ℕ → List Task → List Task
tasks_above hi tasks = filter (λ t. nat_lt hi t.commit) tasks

-- the commits of the tasks above the one number and up to the other
abbrev pub commits_between : ℕ → ℕ → List Task → List ℕ
commits_between lo m tasks = map (λ (t : Task). t.commit) (filter (λ (t : Task). nat_lt lo t.commit && nat_le t.commit m) tasks)

-- what a policy sees of a view with these tasks
abbrev pub pending_in : ℕ → List Task → Option Pending
pending_in v [] = None
pending_in v (t ∷ ts) = Some (record { view = v; oldest = t.commit; actions = sum_by (λ (task : Task). task.actions) (t ∷ ts) })

-- tasks as they are shown: the view's number and the commit
abbrev pub pairs_of : ℕ → List Task → List (ℕ × ℕ)
pairs_of v tasks = map (λ (t : Task). (v, t.commit)) tasks
