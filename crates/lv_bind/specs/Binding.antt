-- The bound statement: names are numbers.
use Rattle.std.specs.Prelude.{◌≤◌, ℕ, suc, nat_lt, List, [], ◌∷◌, ◌++◌, map, length, position, unwrap_or, Option, Some, None, Bool}
use Rattle.std.specs.List.{range_with_len}
use Rattle.std.specs.Str.{bytes_eq}
use Rattle.lv_values.specs.declared.value.Value.{Value}
use Rattle.lv_values.specs.declared.value.Value.TheVariants as v
use Rattle.lv_parser.specs.declared.tree.Assign.{Assign}
use Rattle.lv_parser.specs.declared.tree.AssignValue.{AssignValue}
use Rattle.lv_parser.specs.declared.tree.AssignValue.TheVariants as value
use Rattle.lv_parser.specs.declared.tree.ColName.{ColName}
use Rattle.lv_parser.specs.declared.tree.ColumnKind.{ColumnKind}
use Rattle.lv_parser.specs.declared.tree.ColumnKind.TheVariants as kind
use Rattle.lv_parser.specs.declared.tree.ColumnTree.{ColumnTree}
use Rattle.lv_parser.specs.declared.tree.CondTree.{CondTree}
use Rattle.lv_parser.specs.declared.tree.CondTree.TheOpen.{CondTree-F, True, Cmp, And, Or, Not}
use Rattle.lv_parser.specs.declared.tree.CondTree.TheFolds.{fold-CondTree}
use Rattle.lv_parser.specs.declared.tree.ItemTree.{ItemTree}
use Rattle.lv_parser.specs.declared.tree.ItemTree.TheVariants as item
use Rattle.lv_parser.specs.declared.tree.Named.{Named}
use Rattle.lv_parser.specs.declared.tree.OperandTree.{OperandTree}
use Rattle.lv_parser.specs.declared.tree.OperandTree.TheVariants as side
use Rattle.lv_parser.specs.declared.tree.RefTree.{RefTree}
use Rattle.lv_parser.specs.declared.tree.Sign.{Sign}
use Rattle.lv_parser.specs.declared.tree.Sign.TheVariants as sign
use Rattle.lv_parser.specs.declared.tree.Stmt.{Stmt}
use Rattle.lv_parser.specs.declared.tree.Stmt.TheVariants as stmt
use Rattle.lv_parser.specs.declared.tree.Tuple.{Tuple}
use Rattle.lv_schema.specs.declared.bound.Bound.{Bound}
use Rattle.lv_schema.specs.declared.bound.Bound.TheVariants as bound
use Rattle.lv_schema.specs.declared.change.Change.TheVariants as change
use Rattle.lv_schema.specs.declared.change.Set.{Set}
use Rattle.lv_schema.specs.declared.change.SetValue.{SetValue}
use Rattle.lv_schema.specs.declared.change.SetValue.TheVariants as set
use Rattle.lv_schema.specs.declared.cond.Col.{Col}
use Rattle.lv_schema.specs.declared.cond.Cond.{Cond}
use Rattle.lv_schema.specs.declared.cond.Cond.TheVariants as c
use Rattle.lv_schema.specs.declared.cond.Op.{Op}
use Rattle.lv_schema.specs.declared.cond.Op.TheVariants as op
use Rattle.lv_schema.specs.declared.cond.Operand.{Operand}
use Rattle.lv_schema.specs.declared.cond.Operand.TheVariants as operand
use Rattle.lv_schema.specs.declared.query.OrderCol.{OrderCol}
use Rattle.lv_schema.specs.declared.query.Rel.{Rel}
use Rattle.lv_schema.specs.declared.query.Rel.TheVariants.{Table, View}
use Rattle.lv_schema.specs.declared.table.Column.{Column}
use Rattle.lv_schema.specs.declared.table.Kind.{Kind}
use Rattle.lv_schema.specs.declared.table.Kind.TheVariants.{Int, Text}
use Rattle.lv_schema.specs.declared.table.TableDef.{TableDef}
use Rattle.lv_schema.specs.declared.view.Item.{Item}
use Rattle.lv_schema.specs.declared.view.Item.TheVariants.{Plain, Sum, Count}
use Rattle.lv_schema.specs.declared.view.ViewDef.{ViewDef}
use Rattle.lv_schema.specs.Catalog.{rel_named}
use Rattle.lv_bind.specs.declared.sources.Place.{Place}
use Rattle.lv_bind.specs.Pieces.{unqualified}
use Rattle.lv_bind.specs.Sources.{Alias, AreNarrow, place_of}

-- aliases and columns that are few enough to be numbered in a byte
pub record IsNarrow (sources : List Alias) : Type 0 where
  pub few : length sources ≤ 4
  pub narrow : AreNarrow sources

abbrev pub col_at : Place → Col
col_at place = record { alias = place.alias; column = place.column }

abbrev pub bound_col : List Alias → ColName → Col
bound_col sources col = col_at (place_of sources col)

abbrev pub bound_literal : Value → Operand
bound_literal (v.Num n) = operand.Number n
bound_literal (v.Text t) = operand.Text t

abbrev pub bound_side : List Alias → OperandTree → Operand
bound_side sources (side.Column col) = operand.Column (bound_col sources col)
bound_side sources (side.Literal l) = bound_literal l.value

abbrev pub bound_op : Sign → Op
bound_op sign.Eq = op.Eq
bound_op sign.Ne = op.Ne
bound_op sign.Lt = op.Lt
bound_op sign.Le = op.Le
bound_op sign.Gt = op.Gt
bound_op sign.Ge = op.Ge

abbrev pub cond_step : List Alias → CondTree-F Cond → Cond
cond_step sources True = c.True
cond_step sources (Cmp sign left right) = c.Cmp (bound_op sign) (bound_side sources left) (bound_side sources right)
cond_step sources (And parts) = c.And parts
cond_step sources (Or parts) = c.Or parts
cond_step sources (Not part) = c.Not part

abbrev pub bound_cond : List Alias → CondTree → Cond
bound_cond sources = fold-CondTree Cond (cond_step sources)

-- the number of a table, and what an alias stands for
abbrev pub table_number : Option Rel → ℕ
table_number None = 0
table_number (Some (Table t)) = t
table_number (Some (View v)) = 0

abbrev pub rel_of : Option Rel → Rel
rel_of rel = unwrap_or rel (Table 0)

abbrev pub bound_rels : List TableDef → List ViewDef → List RefTree → List Rel
bound_rels tables views refs = map (λ r. rel_of (rel_named tables views r.name.name)) refs

-- the rows of an INSERT
abbrev pub bound_rows : List Tuple → List (List Value)
bound_rows tuples = map (λ t. map (λ l. l.value) t.values) tuples

-- a column of the one alias of an UPDATE
abbrev pub bound_value : List Alias → AssignValue → SetValue
bound_value sources (value.Literal l) = set.Literal l.value
bound_value sources (value.Column col) = set.Column (place_of sources (unqualified col)).column
bound_value sources (value.Plus col amount) = set.Plus (place_of sources (unqualified col)).column amount

abbrev pub bound_set : List Alias → Assign → Set
bound_set sources a = record { column = (place_of sources (unqualified a.column)).column; value = bound_value sources a.value }

-- all columns of all aliases, where they are numbered from n
abbrev pub columns_from : ℕ → List Alias → List Col
columns_from n [] = []
columns_from n (s ∷ more) = map (λ k. record { alias = n; column = k }) (range_with_len 0 (length s.columns)) ++ columns_from (suc n) more

abbrev pub bound_list : List Alias → Option (List ColName) → List Col
bound_list sources None = columns_from 0 sources
bound_list sources (Some cols) = map (bound_col sources) cols

abbrev pub bound_order : List Alias → List (ColName × Bool) → List OrderCol
bound_order sources order = map (λ by. record { col = bound_col sources by.0; descending = by.1 }) order

-- CREATE TABLE
abbrev pub bound_kind : ColumnKind → Kind
bound_kind kind.Int = Int
bound_kind kind.Text = Text

abbrev pub bound_column : ColumnTree → Column
bound_column c = record { name = c.name.name; kind = bound_kind c.kind }

-- the place of a name among new columns
abbrev pub key_place : List ColumnTree → List ℕ → ℕ
key_place cols name = unwrap_or (position (λ c. bytes_eq name c.name.name) cols) 0

abbrev pub bound_table : List TableDef → Named → List ColumnTree → List Named → TableDef
bound_table tables name cols key = record { no = length tables; name = name.name; columns = map bound_column cols; key = map (λ k. key_place cols k.name) key }

-- CREATE VIEW
abbrev pub bound_item : List Alias → ItemTree → Item
bound_item sources (item.Plain col output) = Plain (bound_col sources col) (unwrap_or output col.name).name
bound_item sources (item.Sum col output) = Sum (bound_col sources col) output.name
bound_item sources (item.Count output) = Count output.name

abbrev pub table_numbers : List TableDef → List ViewDef → List RefTree → List ℕ
table_numbers tables views refs = map (λ r. table_number (rel_named tables views r.name.name)) refs

abbrev pub bound_view : List TableDef → List ViewDef → List Alias → Named → List ItemTree → List RefTree → CondTree → List ColName → ViewDef
bound_view tables views sources name items refs tree groups = record {
  no = length views;
  name = name.name;
  created = 0;
  tables = table_numbers tables views refs;
  cond = bound_cond sources tree;
  items = map (bound_item sources) items;
  grouped = nat_lt 0 (length groups);
  groups = map (bound_col sources) groups;
}

-- a statement with these aliases, once nothing refuses it
abbrev pub bound_among : List TableDef → List ViewDef → List Alias → Stmt → Bound
bound_among tables views sources (stmt.CreateTable name cols key) = bound.Table (bound_table tables name cols key)
bound_among tables views sources (stmt.CreateView name items refs c groups) = bound.View (bound_view tables views sources name items refs c groups)
bound_among tables views sources (stmt.Insert table tuples) = bound.Change (change.Insert (table_number (rel_named tables views table.name)) (bound_rows tuples))
bound_among tables views sources (stmt.Update table sets c) =
    bound.Change (change.Update (table_number (rel_named tables views table.name)) (map (bound_set sources) sets) (bound_cond sources c))
bound_among tables views sources (stmt.Delete table c) = bound.Change (change.Delete (table_number (rel_named tables views table.name)) (bound_cond sources c))
bound_among tables views sources (stmt.Select list refs c order) = bound.Query (record {
  rels = bound_rels tables views refs;
  cond = bound_cond sources c;
  list = bound_list sources list;
  order = bound_order sources order;
})
bound_among tables views sources stmt.Begin = bound.Begin
bound_among tables views sources stmt.Commit = bound.Commit
bound_among tables views sources stmt.Rollback = bound.Rollback
bound_among tables views sources stmt.ShowTasks = bound.Tasks

-- new tables of few columns, and views of few aliases
abbrev pub IsSmallTable : Stmt → Type 0
IsSmallTable (stmt.CreateTable name cols key) = length cols ≤ 16
IsSmallTable (stmt.CreateView name items refs c groups) = Unit {0}
IsSmallTable (stmt.Insert table tuples) = Unit {0}
IsSmallTable (stmt.Update table sets c) = Unit {0}
IsSmallTable (stmt.Delete table c) = Unit {0}
IsSmallTable (stmt.Select list refs c order) = Unit {0}
IsSmallTable stmt.Begin = Unit {0}
IsSmallTable stmt.Commit = Unit {0}
IsSmallTable stmt.Rollback = Unit {0}
IsSmallTable stmt.ShowTasks = Unit {0}

abbrev pub IsSmallView : Bound → Type 0
IsSmallView (bound.Table def) = Unit {0}
IsSmallView (bound.View def) = length def.tables ≤ 4
IsSmallView (bound.Change change) = Unit {0}
IsSmallView (bound.Query query) = Unit {0}
IsSmallView bound.Begin = Unit {0}
IsSmallView bound.Commit = Unit {0}
IsSmallView bound.Rollback = Unit {0}
IsSmallView bound.Tasks = Unit {0}
