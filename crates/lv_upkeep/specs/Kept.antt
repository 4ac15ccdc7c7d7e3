-- What is kept of the upkeep of views, and what is told from it.
use Rattle.std.specs.Prelude.{ℕ, zero, suc, ◌-◌, Bool, not, cond, List, [], ◌∷◌, filter, length, slice_index, slice_index_or, replicate, option_map, Option, Some, None}
use Rattle.std.specs.List.{filter_map, flat_map, list_any, range_with_len}
use Rattle.std.specs.Option.{option_to_list}
use Rattle.lv_schema.specs.declared.forced.Forced.{Forced}
use Rattle.lv_schema.specs.declared.pending.Pending.{Pending}
use Rattle.lv_schema.specs.Policies.{is_claim_of}
use Rattle.lv_schema.specs.StepPlans.{step_end, step_of, then_more}
use Rattle.lv_schema.specs.World.{least}
use Rattle.lv_tasks.specs.declared.task.Task.{Task}
use Rattle.lv_tasks.specs.Kept.{commits_between, pairs_of, pending_in, tasks_kept}

-- of each view its point, its mark and its pending tasks; and the claim of each worker
pub record UpkeepKept : Type 0 where
  pub points : List ℕ
  pub marks : List ℕ
  pub tasks : List (List Task)
  pub claims : List (Option Forced)

-- beside it: how many more views and tasks go in without memory
pub record UpkeepRoom : Type 0 where
  pub kept : UpkeepKept
  pub view_spare : ℕ
  pub task_spare : ℕ

-- no views; workers are 1 to 8
abbrev pub upkeep_empty : UpkeepKept
upkeep_empty = record { points = []; marks = []; tasks = []; claims = replicate 9 None }

-- a worker's claim
abbrev pub claim_kept : UpkeepKept → ℕ → Option Forced
claim_kept u worker = slice_index_or u.claims worker None

-- the planned step of view v from lo to at most m, told from the view's tasks; inside tells whether a live snapshot is
-- at or above the one number and below the other
module _ (inside : ℕ → ℕ → Bool) (combine v : ℕ) (tasks : List Task) (m : ℕ) where
  abbrev pub planned_among : ℕ → Option Forced
  planned_among lo = option_map (step_of v lo) (step_end inside combine (commits_between lo m tasks))

  -- planned steps, one after another, until there is none; each raises lo, so that m less lo are turns enough
  abbrev pub forced_among : ℕ → ℕ → List Forced
  forced_among zero lo = []
  forced_among (suc turns) lo = then_more (planned_among lo) (forced_among turns)

-- the planned step of a view from its point
abbrev pub planned_in : (ℕ → ℕ → Bool) → ℕ → UpkeepKept → ℕ → ℕ → Option Forced
planned_in inside combine u v m = planned_among inside combine v (tasks_kept u.tasks v) m (slice_index u.points v)

-- the steps that bring these views up to m, view by view
abbrev pub forced_in : (ℕ → ℕ → Bool) → ℕ → UpkeepKept → List ℕ → ℕ → List Forced
forced_in inside combine u views m = flat_map (λ v. forced_among inside combine v (tasks_kept u.tasks v) m (m - slice_index u.points v) (slice_index u.points v)) views

-- the views that no worker has claimed and that have pending tasks
abbrev pub is_claimed_in : List (Option Forced) → ℕ → Bool
is_claimed_in claims v = list_any (is_claim_of v) claims

abbrev pub unclaimed_in : UpkeepKept → List Pending
unclaimed_in u = filter_map (λ v. pending_in v (tasks_kept u.tasks v)) (filter (λ v. not (is_claimed_in u.claims v)) (range_with_len 0 (length u.tasks)))

-- the pending tasks, by view and then by commit
abbrev pub tasks_in : UpkeepKept → List (ℕ × ℕ)
tasks_in u = flat_map (λ v. pairs_of v (tasks_kept u.tasks v)) (range_with_len 0 (length u.tasks))

-- the least point, where there is a view
abbrev pub least_in : List ℕ → Option ℕ
least_in [] = None
least_in (p ∷ ps) = Some (least p ps)

-- a view alone, if nobody has claimed it and it has pending tasks
abbrev pub candidate_in : List (Option Forced) → List (List Task) → ℕ → List Pending
candidate_in claims tasks v = cond (is_claimed_in claims v) [] (option_to_list (pending_in v (tasks_kept tasks v)))
