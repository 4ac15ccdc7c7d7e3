-- The rule of a planned step in its own words, and forced steps as a chain of planned ones.
use Rattle.std.specs.Prelude.{◌≡◌, ℕ, ◌-◌, ◌≤◌, ◌<◌, ◌⊎◌, List, [], ◌∷◌, length, slice_index, Option, Some, None}
use Rattle.lv_schema.specs.declared.forced.Forced.{Forced}
use Rattle.lv_schema.specs.StepPlans.{ViewPoint, at_point, planned_from}
use Rattle.lv_schema.specs.Tasks.{pending}
use Rattle.lv_schema.specs.World.{Visible, Settings, live, view_at}

-- the number is one of them
abbrev pub Among : List ℕ → ℕ → Type 0
Among [] n = ⊥
Among (x ∷ xs) n = (n ≡ x) ⊎ Among xs n

-- the snapshot of a live transaction
abbrev pub IsLive : Visible → ℕ → Type 0
IsLive s snapshot = Among (live s.sessions) snapshot

-- a step over the first k of these tasks is lawful: k is at most the combine number, and no live snapshot is at or
-- above the first of them and below the last
pub record IsLawful (s : Visible) (combine : ℕ) (tasks : List ℕ) (k : ℕ) : Type 0 where
  pub some : 0 < k
  pub few : k ≤ combine
  pub there : k ≤ length tasks
  pub clear : (snapshot : ℕ) → IsLive s snapshot → slice_index tasks 0 ≤ snapshot → snapshot < slice_index tasks (k - 1) → ⊥

-- a step takes the greatest lawful number of tasks, and ends at the last of them
pub record TakesMost (s : Visible) (combine : ℕ) (tasks : List ℕ) (hi : ℕ) : Type 0 where
  pub taken : ℕ
  pub lawful : IsLawful s combine tasks taken
  pub hi_is : hi ≡ slice_index tasks (taken - 1)
  pub greatest : (k : ℕ) → IsLawful s combine tasks k → k ≤ taken

-- the step of a view from a point to at most m: there is none where nothing is pending
abbrev pub IsPlannedStep : Settings → Visible → ViewPoint → ℕ → Option Forced → Type 0
IsPlannedStep settings s at m None = pending s (view_at s.views at.view) at.lo m ≡ []
IsPlannedStep settings s at m (Some f) = (f.view ≡ at.view) × (f.lo ≡ at.lo) × TakesMost s settings.combine (pending s (view_at s.views at.view) at.lo m) f.hi

-- each step is the planned one from where the one before ends, and then there is none
abbrev pub IsChain : Settings → Visible → ViewPoint → ℕ → List Forced → Type 0
IsChain settings s at m [] = planned_from settings s at m ≡ None
IsChain settings s at m (f ∷ fs) = (planned_from settings s at m ≡ Some f) × IsChain settings s (at_point at.view f.hi) m fs

-- where the steps of one view end
abbrev pub end_of : ℕ → List Forced → ℕ
end_of lo [] = lo
end_of lo (f ∷ fs) = end_of f.hi fs
