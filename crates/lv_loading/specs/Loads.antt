-- What is kept while the records of a journal are taken, and when it is what they make.
use Rattle.std.specs.Prelude.{◌≡◌, ℕ, ◌<◌, true, List, [], map, length, slice_index_or, replicate, None}
use Rattle.std.specs.List.{AllByRecursion}
use Rattle.lv_schema.specs.declared.rec.Rec.{Rec}
use Rattle.lv_schema.specs.declared.table.TableDef.{TableDef}
use Rattle.lv_schema.specs.declared.view.ViewDef.{ViewDef}
use Rattle.lv_schema.specs.Steady.{IsSteady}
use Rattle.lv_schema.specs.World.{World, no_view, view_at}
use Rattle.lv_record.specs.Kept.{IsKept}
use Rattle.lv_replay.specs.Applies.{all_apply}
use Rattle.lv_replay.specs.Replayed.{state_of}
use Rattle.lv_replay.specs.Runs.{IsStopped}
use Rattle.lv_upkeep.specs.Kept.{UpkeepKept}
use Rattle.lv_upkeep.specs.Stands.{UpkeepStands}
use Rattle.lv_viewrows.specs.Kept as viewrows
use Rattle.lv_stands.specs.Kept.{BaseKept, EngineKept, ViewKept}
use Rattle.lv_stands.specs.Stands.{BaseStands}
use Rattle.lv_base.specs.Bases.{base_of}
use Rattle.lv_loading.specs.declared.loaded.Loaded.{Loaded}

-- the tables and views, the committed states, and how far each view is maintained with its pending tasks
pub record LoadingKept : Type 0 where
  pub tables : List TableDef
  pub views : List ViewDef
  pub base : BaseKept
  pub upkeep : UpkeepKept

-- it stands for a world in which nobody is live and nothing is claimed: nothing is dropped of the states
pub record LoadingStands (w : World) (k : LoadingKept) : Type 0 where
  pub steady : IsSteady w
  pub stopped : IsStopped w
  pub tables_are : k.tables ≡ w.visible.tables
  pub views_are : k.views ≡ w.visible.views
  pub base_stands : BaseStands w.visible 0 k.base
  pub upkeep_stands : UpkeepStands w k.upkeep

-- it stands for the world that these records make, of which each is one that a journal can keep and applies in its turn
pub record Loads (recs : List Rec) (k : LoadingKept) : Type 0 where
  pub kept : AllByRecursion IsKept recs
  pub apply : all_apply recs ≡ true
  pub stands : LoadingStands (state_of recs) k

-- it is what some records make
abbrev pub IsLoaded : LoadingKept → Type 0
IsLoaded k = (recs : List Rec) × Loads recs k

-- ---- what is loaded in the end, as the laws of the engine see it: nobody is live
abbrev pub rows_of : viewrows.ViewKept → ViewKept
rows_of v = record { at = v.at; versions = v.versions }

abbrev pub loaded_kept : ℕ → Loaded → EngineKept
loaded_kept journal l = record {
  tables = l.schema.tables;
  views = l.schema.views;
  base = base_of l.base;
  upkeep = l.upkeep.kept;
  rows = map rows_of l.rows.list;
  sessions = replicate 17 None;
  journal = journal;
}

-- the rows of each view know the view
abbrev pub no_rows : viewrows.ViewKept
no_rows = record { def = no_view; at = 0; versions = []; spare = 0 }

abbrev pub KnowViews : Loaded → Type 0
KnowViews l = (v : ℕ) → v < length l.rows.list → (slice_index_or l.rows.list v no_rows).def ≡ view_at l.schema.views v
