-- A sound schema: each table was bound against the tables before it, and each view against the tables and the views
-- before it. So each has its place as its number, and no two have one name.
use Rattle.std.specs.Prelude.{◌<◌, ℕ, List, [], take, length}
use Rattle.lv_schema.specs.declared.table.TableDef.{TableDef}
use Rattle.lv_schema.specs.declared.view.ViewDef.{ViewDef}
use Rattle.lv_schema.specs.Bound.{IsBoundTable, IsBoundView}
use Rattle.lv_schema.specs.World.{table_at, view_at}

pub record IsSchema (tables : List TableDef) (views : List ViewDef) : Type 0 where
  pub each_table : (t : ℕ) → t < length tables → IsBoundTable (take t tables) [] (table_at tables t)
  pub each_view : (v : ℕ) → v < length views → IsBoundView tables (take v views) (view_at views v)
