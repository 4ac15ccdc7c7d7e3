-- The tasks of one view in a queue, and the queues of all views.
use Rattle.std.specs.Prelude.{◌≡◌, ℕ, zero, suc, ◌≤◌, ◌<◌, Bool, true, false, nat_le, List, [], ◌∷◌, length, map, slice_index_or}
use Rattle.std.specs.List.Sorted.{IsNonDecreasingBy}
use Rattle.lv_values.specs.Room.{Roomy}
use Rattle.lv_tasks.specs.declared.task.Task.{Task}

-- later tasks are of later commits
abbrev pub Ascend : List Task → Type 0
Ascend tasks = IsNonDecreasingBy (λ (t : Task). t.commit) tasks

-- the first so many pass a test, and the others do not
abbrev pub IsCut : (Task → Bool) → ℕ → List Task → Type 0
IsCut test i [] = Unit {0}
IsCut test zero (t ∷ ts) = (test t ≡ false) × IsCut test zero ts
IsCut test (suc i) (t ∷ ts) = (test t ≡ true) × IsCut test i ts

-- whether a task is of a commit up to this one
abbrev pub is_upto : ℕ → Task → Bool
is_upto commit t = nat_le t.commit commit

abbrev pub no_queue : Roomy Task
no_queue = record { list = []; spare = 0 }

abbrev pub queue_at : List (Roomy Task) → ℕ → Roomy Task
queue_at queues at = slice_index_or queues at no_queue

-- the tasks of each queue
abbrev pub lists_of : List (Roomy Task) → List (List Task)
lists_of queues = map (λ (q : Roomy Task). q.list) queues

-- each queue has room for so many tasks
abbrev pub HaveRoom : ℕ → List (Roomy Task) → Type 0
HaveRoom spare queues = (k : ℕ) → k < length queues → spare ≤ (queue_at queues k).spare
