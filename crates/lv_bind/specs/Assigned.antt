-- Fault 11: SET names a key column.
use Rattle.std.specs.Prelude.{ℕ, not, nat_eq, List, []}
use Rattle.std.specs.List.{flat_map, list_any}
use Rattle.lv_parser.specs.declared.tree.Assign.{Assign}
use Rattle.lv_parser.specs.declared.tree.Stmt.{Stmt}
use Rattle.lv_parser.specs.declared.tree.Stmt.TheVariants.{Update}
use Rattle.lv_schema.specs.declared.table.TableDef.{TableDef}
use Rattle.lv_schema.specs.declared.view.ViewDef.{ViewDef}
use Rattle.lv_schema.specs.Catalog.{rel_named}
use Rattle.lv_schema.specs.World.{table_at}
use Rattle.lv_bind.specs.Binding.{table_number}
use Rattle.lv_bind.specs.Pieces.{unqualified}
use Rattle.lv_bind.specs.Sources.{Alias, place_of, sources_of, shown_unless}

abbrev pub assigned_keys : List Alias → List ℕ → List Assign → List (List ℕ)
assigned_keys sources key sets = flat_map (λ a. shown_unless (not (list_any (nat_eq (place_of sources (unqualified a.column)).column) key)) a.column.name) sets

-- a statement with these aliases
abbrev pub assigned_among : List TableDef → List ViewDef → List Alias → Stmt → List (List ℕ)
assigned_among tables views sources (Update table sets c) = assigned_keys sources (table_at tables (table_number (rel_named tables views table.name))).key sets
assigned_among tables views sources other = []

abbrev pub assigned : List TableDef → List ViewDef → Stmt → List (List ℕ)
assigned tables views stmt = assigned_among tables views (sources_of tables views stmt) stmt
