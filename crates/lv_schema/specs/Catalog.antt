-- A schema: its tables and views, each at the place of its number, and what a name stands for.
use Rattle.std.specs.Prelude.{ℕ, List, map, position, Option}
use Rattle.std.specs.Option.{option_map, option_or}
use Rattle.std.specs.Str.{bytes_eq}
use Rattle.lv_schema.specs.declared.query.Rel.{Rel}
use Rattle.lv_schema.specs.declared.query.Rel.TheVariants.{Table, View}
use Rattle.lv_schema.specs.declared.table.TableDef.{TableDef}
use Rattle.lv_schema.specs.declared.view.ViewDef.{ViewDef}

-- what contracts see of a schema; the reserved name is the one whose table or view can be added without memory
pub record Catalog : Type 0 where
  pub tables : List TableDef
  pub views : List ViewDef
  pub reserved : Option (List ℕ)

-- the numbers of the table and of the view with this name
abbrev pub table_named : List TableDef → List ℕ → Option ℕ
table_named tables name = position (bytes_eq name) (map (λ t. t.name) tables)

abbrev pub view_named : List ViewDef → List ℕ → Option ℕ
view_named views name = position (bytes_eq name) (map (λ v. v.name) views)

-- what a name stands for: a table or a view
abbrev pub rel_named : List TableDef → List ViewDef → List ℕ → Option Rel
rel_named tables views name = option_or (option_map Table (table_named tables name)) (option_map View (view_named views name))
