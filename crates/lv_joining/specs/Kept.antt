-- Steps whose entries are kept.
use Rattle.std.specs.Prelude.{◌≡◌, ℕ, ◌≤◌}
use Rattle.lv_schema.specs.declared.forced.Forced.{Forced}
use Rattle.lv_schema.specs.Steady.{IsStep}
use Rattle.lv_schema.specs.World.{Visible, World, snap, view_at}
use Rattle.lv_stands.specs.Kept.{EngineKept}
use Rattle.lv_stands.specs.Stands.{StandsFor}
use Rattle.lv_base.specs.Bases.{BaseRoom, base_of}
use Rattle.lv_reach.specs.Links.{links_of}
use Rattle.lv_joining.specs.Joining.{KeepsLinks}

-- a step of a world that an engine with these committed states stands for, above the floor of the last clean-up
pub record IsKeptStep (w : World) (b : BaseRoom) (f : Forced) : Type 0 where
  pub engine : EngineKept
  pub stands : StandsFor w engine
  pub base_is : engine.base ≡ base_of b
  pub step : IsStep w.visible f
  pub kept : w.upkeep.pruned ≤ f.lo

-- a view's rows keep links from one state to another
abbrev pub KeepsLinksBetween : Visible → ℕ → ℕ → ℕ → Type 0
KeepsLinksBetween s v lo hi = let view = view_at s.views v in KeepsLinks (links_of view.cond) s.tables view.tables (snap s lo) (snap s hi)
