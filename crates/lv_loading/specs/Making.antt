-- The rows of views, each over the state at its point.
use Rattle.std.specs.Prelude.{◌≡◌, ℕ, ◌<◌, List, length, slice_index, slice_index_or}
use Rattle.lv_schema.specs.declared.view.ViewDef.{ViewDef}
use Rattle.lv_schema.specs.World.{view_at}
use Rattle.lv_viewrows.specs.Kept.{ViewKept}
use Rattle.lv_base.specs.Bases.{BaseRoom}
use Rattle.lv_made.specs.Views.{IsMadeView, parts_at}
use Rattle.lv_near.specs.Orders.{HasLinkIndexes}
use Rattle.lv_loading.specs.declared.parts.Parts.{Parts}
use Rattle.lv_loading.specs.Loads.{no_rows}

-- the rows of the view with this number, over the state at its point
abbrev pub IsMadeAt : Parts → ℕ → ViewKept → Type 0
IsMadeAt p v rows =
    IsMadeView (view_at p.schema.views v) (slice_index p.upkeep.kept.points v) (parts_at p.base (slice_index p.upkeep.kept.points v) (view_at p.schema.views v).tables) rows

-- those of the first so many views
pub record AreMade (p : Parts) (n : ℕ) (rows : List ViewKept) : Type 0 where
  pub all : length rows ≡ n
  pub each : (v : ℕ) → v < n → IsMadeAt p v (slice_index_or rows v no_rows)

-- the first so many views have the indexes in which their steps look rows up
abbrev pub HaveLinkIndexes : BaseRoom → List ViewDef → ℕ → Type 0
HaveLinkIndexes b views n = (v : ℕ) → v < n → HasLinkIndexes b (view_at views v)
