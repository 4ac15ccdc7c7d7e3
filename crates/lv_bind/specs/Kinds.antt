-- Fault 5: a number where a text belongs, or the other way round, and tuples of another length than the table. The
-- place is the byte of the right side, the value, the tuple, the summed column or the assigned value.
use Rattle.std.specs.Prelude.{ℕ, Bool, true, false, not, ◌&&◌, ◌==◌, List, [], ◌∷◌, ◌++◌, length, Option, Some, None}
use Rattle.std.specs.List.{flat_map}
use Rattle.std.specs.Option.{option_map_or}
use Rattle.lv_values.specs.declared.value.Value.{Value}
use Rattle.lv_values.specs.declared.value.Value.TheVariants as v
use Rattle.lv_parser.specs.declared.tree.Assign.{Assign}
use Rattle.lv_parser.specs.declared.tree.AssignValue.{AssignValue}
use Rattle.lv_parser.specs.declared.tree.AssignValue.TheVariants as value
use Rattle.lv_parser.specs.declared.tree.ColName.{ColName}
use Rattle.lv_parser.specs.declared.tree.ItemTree.{ItemTree}
use Rattle.lv_parser.specs.declared.tree.ItemTree.TheVariants as item
use Rattle.lv_parser.specs.declared.tree.Literal.{Literal}
use Rattle.lv_parser.specs.declared.tree.OperandTree.{OperandTree}
use Rattle.lv_parser.specs.declared.tree.OperandTree.TheVariants as side
use Rattle.lv_parser.specs.declared.tree.Stmt.{Stmt}
use Rattle.lv_parser.specs.declared.tree.Stmt.TheVariants.{CreateView, Insert, Update, Delete, Select}
use Rattle.lv_parser.specs.declared.tree.Tuple.{Tuple}
use Rattle.lv_schema.specs.declared.query.Rel.{Rel}
use Rattle.lv_schema.specs.declared.query.Rel.TheVariants.{Table, View}
use Rattle.lv_schema.specs.declared.table.Column.{Column}
use Rattle.lv_schema.specs.declared.table.Kind.{Kind}
use Rattle.lv_schema.specs.declared.table.TableDef.{TableDef}
use Rattle.lv_schema.specs.declared.view.ViewDef.{ViewDef}
use Rattle.lv_schema.specs.Bound.{is_text}
use Rattle.lv_schema.specs.Catalog.{rel_named}
use Rattle.lv_schema.specs.World.{table_at}
use Rattle.lv_bind.specs.Pieces.{Sides, comparisons_in, unqualified}
use Rattle.lv_bind.specs.Sources.{Alias, place_of, kind_at, sources_of, shown_unless}

abbrev pub both_or_none : Bool → Bool → Bool
both_or_none true b = b
both_or_none false b = not b

abbrev pub value_is_text : Value → Bool
value_is_text (v.Num n) = false
value_is_text (v.Text t) = true

-- the kind of a column that a statement names
abbrev pub kind_of : List Alias → ColName → Kind
kind_of sources col = kind_at sources (place_of sources col)

-- the byte of a column is that of its qualifier, where it has one
abbrev pub column_byte : ColName → ℕ
column_byte col = option_map_or (λ q. q.byte) col.qualifier col.name.byte

abbrev pub side_is_text : List Alias → OperandTree → Bool
side_is_text sources (side.Column col) = is_text (kind_of sources col)
side_is_text sources (side.Literal l) = value_is_text l.value

abbrev pub side_byte : OperandTree → ℕ
side_byte (side.Column col) = column_byte col
side_byte (side.Literal l) = l.byte

-- comparisons of a number and a text
abbrev pub compared_kinds : List Alias → List Sides → List ℕ
compared_kinds sources = flat_map (λ sides. shown_unless (both_or_none (side_is_text sources sides.0) (side_is_text sources sides.1)) (side_byte sides.1))

-- sums of texts
abbrev pub item_kinds : List Alias → ItemTree → List ℕ
item_kinds sources (item.Plain col output) = []
item_kinds sources (item.Sum col output) = shown_unless (not (is_text (kind_of sources col))) (column_byte col)
item_kinds sources (item.Count output) = []

-- whether a column of this kind may hold the value
abbrev pub literal_fits : Kind → Literal → Bool
literal_fits kind l = both_or_none (is_text kind) (value_is_text l.value)

-- values that their columns do not hold
abbrev pub value_kinds : List Column → List Literal → List ℕ
value_kinds columns [] = []
value_kinds [] (l ∷ ls) = []
value_kinds (c ∷ cs) (l ∷ ls) = shown_unless (literal_fits c.kind l) l.byte ++ value_kinds cs ls

-- a tuple of another length, and then its values
abbrev pub tuple_kinds : List Column → Tuple → List ℕ
tuple_kinds columns t = shown_unless (length t.values == length columns) t.byte ++ value_kinds columns t.values

-- what may be assigned to a column of this kind: a value or a column of the same, and a sum of numbers to a number
abbrev pub assign_fits : List Alias → Kind → AssignValue → Bool
assign_fits sources kind (value.Literal l) = literal_fits kind l
assign_fits sources kind (value.Column col) = both_or_none (is_text kind) (is_text (kind_of sources (unqualified col)))
assign_fits sources kind (value.Plus col amount) = not (is_text kind) && not (is_text (kind_of sources (unqualified col)))

abbrev pub assign_byte : AssignValue → ℕ
assign_byte (value.Literal l) = l.byte
assign_byte (value.Column col) = col.byte
assign_byte (value.Plus col amount) = col.byte

abbrev pub assign_kinds : List Alias → Assign → List ℕ
assign_kinds sources a = shown_unless (assign_fits sources (kind_of sources (unqualified a.column)) a.value) (assign_byte a.value)

-- the columns of the table of an INSERT
abbrev pub insert_columns : List TableDef → Option Rel → List Column
insert_columns tables None = []
insert_columns tables (Some (Table t)) = (table_at tables t).columns
insert_columns tables (Some (View v)) = []

-- a statement with these aliases and comparisons
abbrev pub kinds_among : List TableDef → List ViewDef → List Alias → List Sides → Stmt → List ℕ
kinds_among tables views sources sides (CreateView name items refs c groups) = flat_map (item_kinds sources) items ++ compared_kinds sources sides
kinds_among tables views sources sides (Insert table tuples) = flat_map (tuple_kinds (insert_columns tables (rel_named tables views table.name))) tuples
kinds_among tables views sources sides (Update table sets c) = flat_map (assign_kinds sources) sets ++ compared_kinds sources sides
kinds_among tables views sources sides (Delete table c) = compared_kinds sources sides
kinds_among tables views sources sides (Select list refs c order) = compared_kinds sources sides
kinds_among tables views sources sides other = []

abbrev pub kinds : List TableDef → List ViewDef → Stmt → List ℕ
kinds tables views stmt = kinds_among tables views (sources_of tables views stmt) (comparisons_in stmt) stmt
