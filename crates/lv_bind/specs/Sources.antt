-- The aliases of a statement, and the places that a column fits.
use Rattle.std.specs.Prelude.{◌≤◌, ℕ, suc, Bool, true, cond, List, [], ◌∷◌, map, length, position, slice_index_or, unwrap_or, Option, Some, None}
use Rattle.std.specs.List.{cons_option, AllByRecursion}
use Rattle.std.specs.Option.{option_map, option_map_or}
use Rattle.std.specs.Str.{bytes_eq}
use Rattle.lv_parser.specs.declared.tree.ColName.{ColName}
use Rattle.lv_parser.specs.declared.tree.Named.{Named}
use Rattle.lv_parser.specs.declared.tree.RefTree.{RefTree}
use Rattle.lv_parser.specs.declared.tree.Stmt.{Stmt}
use Rattle.lv_parser.specs.declared.tree.Stmt.TheVariants.{CreateView, Insert, Update, Delete, Select}
use Rattle.lv_schema.specs.declared.query.Rel.{Rel}
use Rattle.lv_schema.specs.declared.table.Column.{Column}
use Rattle.lv_schema.specs.declared.table.Kind.{Kind}
use Rattle.lv_schema.specs.declared.table.Kind.TheVariants.{Big}
use Rattle.lv_schema.specs.declared.table.TableDef.{TableDef}
use Rattle.lv_schema.specs.declared.view.ViewDef.{ViewDef}
use Rattle.lv_bind.specs.declared.sources.Fit.{Fit}
use Rattle.lv_bind.specs.declared.sources.Fit.TheVariants.{Nothing, One, Several}
use Rattle.lv_bind.specs.declared.sources.Place.{Place}
use Rattle.lv_schema.specs.Bound.{rel_columns}
use Rattle.lv_schema.specs.Catalog.{rel_named}
pub use Rattle.lv_schema.specs.Bound.{first}

-- the name, unless all is well
abbrev pub shown_unless : {A : Type 0} → Bool → A → List A
shown_unless well name = cond well [] (name ∷ [])

-- one alias: its name, and the columns of the table or view that it stands for
pub record Alias : Type 0 where
  pub name : List ℕ
  pub columns : List Column

-- aliases of at most 16 columns each
abbrev pub AreNarrow : List Alias → Type 0
AreNarrow = AllByRecursion (λ s. length s.columns ≤ 16)

-- the columns of what a name stands for, none where it stands for nothing
abbrev pub columns_of : List TableDef → List ViewDef → Option Rel → List Column
columns_of tables views rel = option_map_or (rel_columns tables views) rel []

-- an alias is the table's name where none is given
abbrev pub alias_of : RefTree → Named
alias_of ref = unwrap_or ref.alias ref.name

abbrev pub source_of : List TableDef → List ViewDef → RefTree → Alias
source_of tables views ref = record { name = (alias_of ref).name; columns = columns_of tables views (rel_named tables views ref.name.name) }

-- what the table that a statement changes stands for
abbrev pub target_of : List TableDef → List ViewDef → Stmt → Option Rel
target_of tables views (Insert table tuples) = rel_named tables views table.name
target_of tables views (Update table sets c) = rel_named tables views table.name
target_of tables views (Delete table c) = rel_named tables views table.name
target_of tables views other = None

-- UPDATE and DELETE have one alias, which is the table's name
abbrev pub table_source : List TableDef → List ViewDef → Named → Alias
table_source tables views table = record { name = table.name; columns = columns_of tables views (rel_named tables views table.name) }

-- the aliases of a statement, in the order of FROM
abbrev pub sources_of : List TableDef → List ViewDef → Stmt → List Alias
sources_of tables views (CreateView name items refs c groups) = map (source_of tables views) refs
sources_of tables views (Update table sets c) = table_source tables views table ∷ []
sources_of tables views (Delete table c) = table_source tables views table ∷ []
sources_of tables views (Select list refs c order) = map (source_of tables views) refs
sources_of tables views other = []

-- whether a column with this qualifier may be one of this alias
abbrev pub goes_by : Option Named → List ℕ → Bool
goes_by None alias = true
goes_by (Some qualifier) alias = bytes_eq qualifier.name alias

-- the place of a name among columns
abbrev pub column_named : List ℕ → List Column → Option ℕ
column_named name columns = position (λ c. bytes_eq name c.name) columns

-- the place that a column fits in the alias of this number, if it fits one
abbrev pub place_at : ℕ → ℕ → Place
place_at alias column = record { alias = alias; column = column }

abbrev pub place_in : ℕ → Alias → ColName → Option Place
place_in n source col = cond (goes_by col.qualifier source.name) (option_map (place_at n) (column_named col.name.name source.columns)) None

-- the places that a column fits, where the aliases are numbered from n
abbrev pub places_from : ℕ → List Alias → ColName → List Place
places_from n [] col = []
places_from n (source ∷ more) col = cons_option (place_in n source col) (places_from (suc n) more col)

abbrev pub places : List Alias → ColName → List Place
places sources col = places_from 0 sources col

-- what that means: no place, one, or several, of which the first is told
abbrev pub fit_of : List Place → Fit
fit_of [] = Nothing
fit_of (place ∷ []) = One place
fit_of (place ∷ next ∷ more) = Several place

-- where a column is, once it fits one place
abbrev pub place_of : List Alias → ColName → Place
place_of sources col = unwrap_or (first (places sources col)) (place_at 0 0)

abbrev pub no_alias : Alias
no_alias = record { name = []; columns = [] }

abbrev pub no_column : Column
no_column = record { name = []; kind = Big }

-- the kind of a column of an alias, that of sums where there is none
abbrev pub kind_at : List Alias → Place → Kind
kind_at sources place = (slice_index_or (slice_index_or sources place.alias no_alias).columns place.column no_column).kind
