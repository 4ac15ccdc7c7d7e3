-- Fault 3: columns that fit more than one alias.
use Rattle.std.specs.Prelude.{ℕ, Bool, true, false, not, List}
use Rattle.std.specs.List.{flat_map}
use Rattle.lv_parser.specs.declared.tree.ColName.{ColName}
use Rattle.lv_parser.specs.declared.tree.Stmt.{Stmt}
use Rattle.lv_schema.specs.declared.table.TableDef.{TableDef}
use Rattle.lv_schema.specs.declared.view.ViewDef.{ViewDef}
use Rattle.lv_bind.specs.declared.sources.Fit.{Fit}
use Rattle.lv_bind.specs.declared.sources.Fit.TheVariants.{Nothing, One, Several}
use Rattle.lv_bind.specs.Pieces.{columns_in}
use Rattle.lv_bind.specs.Sources.{Alias, places, fit_of, sources_of, shown_unless}

abbrev pub is_several : Fit → Bool
is_several Nothing = false
is_several (One place) = false
is_several (Several place) = true

abbrev pub ambiguous_columns : List Alias → List ColName → List (List ℕ)
ambiguous_columns sources cols = flat_map (λ col. shown_unless (not (is_several (fit_of (places sources col)))) col.name.name) cols

abbrev pub ambiguous : List TableDef → List ViewDef → Stmt → List (List ℕ)
ambiguous tables views stmt = ambiguous_columns (sources_of tables views stmt) (columns_in stmt)
