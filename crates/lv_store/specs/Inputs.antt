-- What a step is computed from, and what it costs to read that.
use Rattle.std.specs.Prelude.{◌≡◌, ℕ, ◌+◌, Bool, List, [], ◌∷◌}
use Rattle.lv_schema.specs.declared.forced.Forced.{Forced}
use Rattle.lv_schema.specs.declared.part.Part.{Part}
use Rattle.lv_schema.specs.declared.view.ViewDef.{ViewDef}
use Rattle.lv_schema.specs.Differences.{difference}
use Rattle.lv_schema.specs.Jobs.{new_sides, old_sides, parts_between}
use Rattle.lv_schema.specs.World.{Visible, view_at}
use Rattle.lv_maint.specs.Inputs.{Input}
use Rattle.lv_near.specs.Small.{IsSmallInput}
use Rattle.lv_reach.specs.declared.rows.AliasRow.{AliasRow}
use Rattle.lv_reach.specs.Cost.{IsReach, cost}
use Rattle.lv_reach.specs.Links.{links_of}

-- what a step of a view is computed from, where these are its parts with whole tables: of them the reach of the change;
-- and the view's difference over it is that over whole tables
pub record IsInputOf (def : ViewDef) (f : Forced) (whole : List Part) (input : Input) : Type 0 where
  pub small : IsSmallInput def f.lo f.hi whole input
  pub difference_is : difference input.def (old_sides input.parts) (new_sides input.parts) ≡ difference def (old_sides whole) (new_sides whole)

-- the cost of a step of a view with these parts
pub record IsCostOf (def : ViewDef) (whole : List Part) (n : ℕ) : Type 0 where
  pub near : List AliasRow
  pub far : ℕ → Bool
  pub reach : IsReach (links_of def.cond) whole near far
  pub cost_is : n ≡ cost (links_of def.cond) whole near far

-- the same, and the cost, of a step from one state to another
abbrev pub IsInputBetween : Visible → Forced → Input → Type 0
IsInputBetween s f input = IsInputOf (view_at s.views f.view) f (parts_between s (view_at s.views f.view) f.lo f.hi) input

abbrev pub IsCostBetween : Visible → Forced → ℕ → Type 0
IsCostBetween s f n = IsCostOf (view_at s.views f.view) (parts_between s (view_at s.views f.view) f.lo f.hi) n

-- the sum of the costs of steps
module _ (is_cost : Forced → ℕ → Type 0) where
  abbrev pub AreCosts : List Forced → ℕ → Type 0
  AreCosts [] n = n ≡ 0
  AreCosts (f ∷ fs) n = (k m : ℕ) × is_cost f k × AreCosts fs m × (n ≡ k + m)
