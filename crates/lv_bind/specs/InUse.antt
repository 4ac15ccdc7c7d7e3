-- Fault 4: names that are used already. A new table's or view's name that is in the schema, and in the order of their
-- places what stands twice: columns and key columns of a table, output names, aliases, set columns, and GROUP BY
-- columns once resolved. Each is shown at its second place.
use Rattle.std.specs.Prelude.{ℕ, Bool, not, is_none, unwrap_or, List, [], ◌∷◌, ◌++◌, map, ◌==◌, ◌&&◌}
use Rattle.std.specs.List.{list_any}
use Rattle.std.specs.Str.{bytes_eq}
use Rattle.lv_parser.specs.declared.tree.Assign.{Assign}
use Rattle.lv_parser.specs.declared.tree.ColName.{ColName}
use Rattle.lv_parser.specs.declared.tree.ColumnTree.{ColumnTree}
use Rattle.lv_parser.specs.declared.tree.ItemTree.{ItemTree}
use Rattle.lv_parser.specs.declared.tree.ItemTree.TheVariants.{Plain, Sum, Count}
use Rattle.lv_parser.specs.declared.tree.Named.{Named}
use Rattle.lv_parser.specs.declared.tree.RefTree.{RefTree}
use Rattle.lv_parser.specs.declared.tree.Stmt.{Stmt}
use Rattle.lv_parser.specs.declared.tree.Stmt.TheVariants.{CreateTable, CreateView, Update, Select}
use Rattle.lv_schema.specs.declared.table.TableDef.{TableDef}
use Rattle.lv_schema.specs.declared.view.ViewDef.{ViewDef}
use Rattle.lv_schema.specs.Catalog.{rel_named}
use Rattle.lv_bind.specs.declared.sources.Place.{Place}
use Rattle.lv_bind.specs.Sources.{Alias, alias_of, place_of, source_of, shown_unless}

-- the names that stand before, among these or earlier in the list
abbrev pub repeated_after : List (List ℕ) → List (List ℕ) → List (List ℕ)
repeated_after before [] = []
repeated_after before (name ∷ names) = shown_unless (not (list_any (bytes_eq name) before)) name ++ repeated_after (before ++ name ∷ []) names

abbrev pub repeated : List (List ℕ) → List (List ℕ)
repeated names = repeated_after [] names

abbrev pub taken : List TableDef → List ViewDef → Named → List (List ℕ)
taken tables views name = shown_unless (is_none (rel_named tables views name.name)) name.name

-- an output name is the one after AS, else that of the column
abbrev pub output_of : ItemTree → Named
output_of (Plain col output) = unwrap_or output col.name
output_of (Sum col output) = output
output_of (Count output) = output

abbrev pub same_column : Place → Place → Bool
same_column a b = (a.alias == b.alias) && (a.column == b.column)

-- the GROUP BY columns whose place is among these or is that of an earlier one
abbrev pub regrouped_after : List Alias → List Place → List ColName → List (List ℕ)
regrouped_after sources before [] = []
regrouped_after sources before (col ∷ cols) =
    shown_unless (not (list_any (same_column (place_of sources col)) before)) col.name.name ++ regrouped_after sources (before ++ place_of sources col ∷ []) cols

abbrev pub regrouped : List Alias → List ColName → List (List ℕ)
regrouped sources cols = regrouped_after sources [] cols

abbrev pub repeated_columns : List ColumnTree → List (List ℕ)
repeated_columns cols = repeated (map (λ c. c.name.name) cols)

abbrev pub repeated_names : List Named → List (List ℕ)
repeated_names names = repeated (map (λ n. n.name) names)

abbrev pub repeated_outputs : List ItemTree → List (List ℕ)
repeated_outputs items = repeated (map (λ i. (output_of i).name) items)

abbrev pub repeated_aliases : List RefTree → List (List ℕ)
repeated_aliases refs = repeated (map (λ r. (alias_of r).name) refs)

abbrev pub repeated_sets : List Assign → List (List ℕ)
repeated_sets sets = repeated (map (λ a. a.column.name) sets)

abbrev pub in_use : List TableDef → List ViewDef → Stmt → List (List ℕ)
in_use tables views (CreateTable name cols key) = taken tables views name ++ (repeated_columns cols ++ repeated_names key)
in_use tables views (CreateView name items refs c groups) =
    taken tables views name ++ (repeated_outputs items ++ (repeated_aliases refs ++ regrouped (map (source_of tables views) refs) groups))
in_use tables views (Update table sets c) = repeated_sets sets
in_use tables views (Select list refs c order) = repeated_aliases refs
in_use tables views other = []
