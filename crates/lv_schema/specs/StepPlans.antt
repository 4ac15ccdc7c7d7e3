-- Planned steps, which combine pending tasks of a view, and the steps that a query forces.
use Rattle.std.specs.Prelude.{ℕ, zero, suc, ◌-◌, Bool, not, ◌&&◌, nat_lt, nat_le, List, [], ◌∷◌, take, slice_set, Option, Some, None, option_map}
use Rattle.std.specs.List.{list_any, flat_map, take_while, last_or}
use Rattle.lv_schema.specs.declared.forced.Forced.{Forced}
use Rattle.lv_schema.specs.Tasks.{pending}
use Rattle.lv_schema.specs.World.{Visible, World, Settings, view_at, live, point}

-- whether a live snapshot is at or above the one and below the other
abbrev pub is_inside : List ℕ → ℕ → ℕ → Bool
is_inside lives from below = list_any (λ s. nat_le from s && nat_lt s below) lives

-- the tasks that one step takes: the first one, and those after it up to the combine number, as long as no live
-- snapshot is inside from the first one to it
abbrev pub step_tasks : (ℕ → ℕ → Bool) → ℕ → List ℕ → List ℕ
step_tasks inside combine [] = []
step_tasks inside combine (t ∷ ts) = t ∷ take_while (λ later. not (inside t later)) (take (combine - 1) ts)

-- where the planned step over these tasks ends
abbrev pub step_end : (ℕ → ℕ → Bool) → ℕ → List ℕ → Option ℕ
step_end inside combine ts = last_or None (step_tasks inside combine ts)

abbrev pub step_of : ℕ → ℕ → ℕ → Forced
step_of v lo hi = record { view = v; lo = lo; hi = hi }

-- a view, and the commit to which it is maintained
pub record ViewPoint : Type 0 where
  pub view : ℕ
  pub lo : ℕ

abbrev pub at_point : ℕ → ℕ → ViewPoint
at_point v lo = record { view = v; lo = lo }

-- the planned step of a view from a point, to at most m
abbrev pub planned_from : Settings → Visible → ViewPoint → ℕ → Option Forced
planned_from settings s at m =
    option_map (step_of at.view at.lo) (step_end (is_inside (live s.sessions)) settings.combine (pending s (view_at s.views at.view) at.lo m))

abbrev pub view_point : World → ℕ → ViewPoint
view_point w v = at_point v (point w.upkeep v)

abbrev pub planned : Settings → ℕ → World → ℕ → Option Forced
planned settings v w m = planned_from settings w.visible (view_point w v) m

-- planned steps of one view, one after another, until there is none; each raises the point, so that m less the point
-- are turns enough
abbrev pub then_more : Option Forced → (ℕ → List Forced) → List Forced
then_more None more = []
then_more (Some f) more = f ∷ more f.hi

module _ (settings : Settings) (s : Visible) (v m : ℕ) where
  abbrev pub forced_within : ℕ → ℕ → List Forced
  forced_within zero lo = []
  forced_within (suc turns) lo = then_more (planned_from settings s (at_point v lo) m) (forced_within turns)

abbrev pub forced_from : Settings → Visible → ViewPoint → ℕ → List Forced
forced_from settings s at m = forced_within settings s at.view m (m - at.lo) at.lo

-- the steps that bring these views up to m, view by view
abbrev pub forced : Settings → World → List ℕ → ℕ → List Forced
forced settings w views m = flat_map (λ v. forced_from settings w.visible (view_point w v) m) views

-- the points after steps
abbrev pub advanced : List ℕ → List Forced → List ℕ
advanced points [] = points
advanced points (f ∷ fs) = advanced (slice_set points f.view f.hi) fs
