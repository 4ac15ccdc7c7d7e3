-- Fault 2: names that stand for nothing. First the tables and views: one that is not in the schema, or a view where a
-- table is needed. Then column by column: a qualifier that is no alias, or a column that no alias has. A key column is
-- one of the table's own.
use Rattle.std.specs.Prelude.{ℕ, Bool, true, false, not, is_some, List, [], ◌∷◌, ◌++◌, Option, Some, None}
use Rattle.std.specs.List.{flat_map, list_any}
use Rattle.std.specs.Str.{bytes_eq}
use Rattle.lv_parser.specs.declared.tree.ColName.{ColName}
use Rattle.lv_parser.specs.declared.tree.ColumnTree.{ColumnTree}
use Rattle.lv_parser.specs.declared.tree.Named.{Named}
use Rattle.lv_parser.specs.declared.tree.RefTree.{RefTree}
use Rattle.lv_parser.specs.declared.tree.Stmt.{Stmt}
use Rattle.lv_parser.specs.declared.tree.Stmt.TheVariants.{CreateTable, CreateView, Insert, Update, Delete, Select}
use Rattle.lv_schema.specs.declared.query.Rel.{Rel}
use Rattle.lv_schema.specs.declared.query.Rel.TheVariants.{Table, View}
use Rattle.lv_schema.specs.declared.table.TableDef.{TableDef}
use Rattle.lv_schema.specs.declared.view.ViewDef.{ViewDef}
use Rattle.lv_schema.specs.Catalog.{rel_named}
use Rattle.lv_bind.specs.Pieces.{columns_in}
use Rattle.lv_bind.specs.Sources.{Alias, places, sources_of, shown_unless}

abbrev pub is_nil : {A : Type 0} → List A → Bool
is_nil [] = true
is_nil (x ∷ xs) = false

-- the tables and views of FROM that are not in the schema
abbrev pub unknown_refs : List TableDef → List ViewDef → List RefTree → List (List ℕ)
unknown_refs tables views refs = flat_map (λ r. shown_unless (is_some (rel_named tables views r.name.name)) r.name.name) refs

abbrev pub is_table : Option Rel → Bool
is_table None = false
is_table (Some (Table t)) = true
is_table (Some (View v)) = false

-- the table of INSERT, UPDATE and DELETE
abbrev pub unknown_table : List TableDef → List ViewDef → Named → List (List ℕ)
unknown_table tables views table = shown_unless (is_table (rel_named tables views table.name)) table.name

abbrev pub unknown_rels : List TableDef → List ViewDef → Stmt → List (List ℕ)
unknown_rels tables views (CreateView name items refs c groups) = unknown_refs tables views refs
unknown_rels tables views (Insert table tuples) = unknown_table tables views table
unknown_rels tables views (Update table sets c) = unknown_table tables views table
unknown_rels tables views (Delete table c) = unknown_table tables views table
unknown_rels tables views (Select list refs c order) = unknown_refs tables views refs
unknown_rels tables views other = []

-- a qualifier that is no alias
abbrev pub unknown_qualifier : List Alias → Option Named → List (List ℕ)
unknown_qualifier sources None = []
unknown_qualifier sources (Some q) = shown_unless (list_any (λ s. bytes_eq q.name s.name) sources) q.name

-- what is unknown of a column: its qualifier, or the column itself
abbrev pub unknown_in : List Alias → ColName → List (List ℕ)
unknown_in sources col = unknown_qualifier sources col.qualifier ++ shown_unless (not (is_nil (places sources col))) col.name.name

abbrev pub unknown_columns : List Alias → List ColName → List (List ℕ)
unknown_columns sources cols = flat_map (unknown_in sources) cols

abbrev pub is_column : List ColumnTree → List ℕ → Bool
is_column cols name = list_any (λ c. bytes_eq name c.name.name) cols

-- the key columns that are not among a new table's columns
abbrev pub unknown_key : List ColumnTree → List Named → List (List ℕ)
unknown_key cols key = flat_map (λ k. shown_unless (is_column cols k.name) k.name) key

abbrev pub unknown_keys : Stmt → List (List ℕ)
unknown_keys (CreateTable name cols key) = unknown_key cols key
unknown_keys other = []

abbrev pub unknown : List TableDef → List ViewDef → Stmt → List (List ℕ)
unknown tables views stmt = unknown_rels tables views stmt ++ (unknown_columns (sources_of tables views stmt) (columns_in stmt) ++ unknown_keys stmt)
