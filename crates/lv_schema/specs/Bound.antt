-- What it means that a statement is bound against a schema: what it names is in use, its columns are in range, kinds
-- agree, and it is inside the limits.
use Rattle.std.specs.Prelude.{◌≡◌, ℕ, ◌+◌, ◌^◌, ◌<◌, ◌≤◌, max, nat_abs, Bool, true, false, not, cond, ◌&&◌, ◌==◌, nat_eq, nat_lt, nat_le, if◌then◌else◌, List, [], ◌∷◌, ◌++◌, map, length, sum, slice_get, slice_index_or, Option, Some, None, is_some, option_map}
use Rattle.std.specs.List.{list_all, list_any, flat_map, count_by, enumerate_from}
use Rattle.std.specs.Str.{bytes_eq}
use Rattle.lv_values.specs.Names.{is_name}
use Rattle.lv_schema.specs.declared.bound.Bound.{Bound}
use Rattle.lv_schema.specs.declared.bound.Bound.TheVariants as bound
use Rattle.lv_schema.specs.declared.change.Change.{Change}
use Rattle.lv_schema.specs.declared.change.Change.TheVariants.{Insert, Update, Delete}
use Rattle.lv_schema.specs.declared.change.Set.{Set}
use Rattle.lv_schema.specs.declared.change.SetValue.{SetValue}
use Rattle.lv_schema.specs.declared.change.SetValue.TheVariants.{Literal, Column as OfColumn, Plus}
use Rattle.lv_schema.specs.declared.cond.Col.{Col}
use Rattle.lv_schema.specs.declared.cond.Cond.{Cond}
use Rattle.lv_schema.specs.declared.cond.Cond.TheOpen.{Cond-F, True, Cmp, And, Or, Not}
use Rattle.lv_schema.specs.declared.cond.Cond.TheFolds.{fold-Cond}
use Rattle.lv_schema.specs.declared.cond.Operand.{Operand}
use Rattle.lv_schema.specs.declared.cond.Operand.TheVariants.{Column as InColumn, Number, Text as Literally}
use Rattle.lv_schema.specs.declared.fault.ProfileRule.{ProfileRule}
use Rattle.lv_schema.specs.declared.fault.ProfileRule.TheVariants as rule
use Rattle.lv_schema.specs.declared.query.Query.{Query}
use Rattle.lv_schema.specs.declared.query.Rel.{Rel}
use Rattle.lv_schema.specs.declared.query.Rel.TheVariants as rel
use Rattle.lv_schema.specs.declared.table.Column.{Column}
use Rattle.lv_schema.specs.declared.table.Kind.{Kind}
use Rattle.lv_schema.specs.declared.table.Kind.TheVariants.{Int, Text, Big}
use Rattle.lv_schema.specs.declared.table.TableDef.{TableDef}
use Rattle.lv_schema.specs.declared.view.Item.{Item}
use Rattle.lv_schema.specs.declared.view.Item.TheVariants.{Plain, Sum, Count}
use Rattle.lv_schema.specs.declared.view.ViewDef.{ViewDef}
use Rattle.lv_schema.specs.Databases.{row_fits, value_fits, is_line}
use Rattle.lv_schema.specs.Differences.{summed_columns}
use Rattle.lv_schema.specs.JoinViews.{plain_columns}
use Rattle.lv_schema.specs.Names.{is_free}
use Rattle.lv_schema.specs.Once.{are_apart}
use Rattle.lv_schema.specs.World.{table_at, view_at}

abbrev pub same_col : Col → Col → Bool
same_col a b = (a.alias == b.alias) && (a.column == b.column)

abbrev pub has_col : Col → List Col → Bool
has_col col cols = list_any (same_col col) cols

-- the columns of each alias, and the kind of a column, which there is where the column is in range
abbrev pub kind_at : List (List Column) → Col → Option Kind
kind_at aliases col = option_map (λ c. c.kind) (slice_get (slice_index_or aliases col.alias []) col.column)

abbrev pub is_in_range : List (List Column) → Col → Bool
is_in_range aliases col = is_some (kind_at aliases col)

-- the columns of a table, and of a view over the columns of its aliases
abbrev pub item_column : List (List Column) → Item → Column
item_column aliases (Plain col name) = slice_index_or (slice_index_or aliases col.alias []) col.column (record { name = name; kind = Big })
item_column aliases (Sum col name) = record { name = name; kind = Big }
item_column aliases (Count name) = record { name = name; kind = Big }

abbrev pub item_name : Item → List ℕ
item_name (Plain col name) = name
item_name (Sum col name) = name
item_name (Count name) = name

abbrev pub listed_column : List (List Column) → Item → Column
listed_column aliases item = record (item_column aliases item) { name = item_name item }

abbrev pub alias_columns : List TableDef → List ℕ → List (List Column)
alias_columns tables numbers = map (λ t. (table_at tables t).columns) numbers

abbrev pub view_columns : List TableDef → ViewDef → List Column
view_columns tables view = map (listed_column (alias_columns tables view.tables)) view.items

abbrev pub rel_columns : List TableDef → List ViewDef → Rel → List Column
rel_columns tables views (rel.Table t) = (table_at tables t).columns
rel_columns tables views (rel.View v) = view_columns tables (view_at views v)

-- whether a kind is that of texts
abbrev pub is_text : Kind → Bool
is_text Int = false
is_text Text = true
is_text Big = false

-- whether an operand is a text, if its column is in range and its text inside the limit
abbrev pub operand_text : List (List Column) → Operand → Option Bool
operand_text aliases (InColumn col) = option_map is_text (kind_at aliases col)
operand_text aliases (Number n) = Some false
operand_text aliases (Literally t) = if is_line t then Some true else None

-- whether two operands may be compared: both are texts, or both are numbers
abbrev pub both_are : Option Bool → Option Bool → Bool
both_are None b = false
both_are (Some a) None = false
both_are (Some true) (Some b) = b
both_are (Some false) (Some b) = not b

-- whether each comparison may be made
abbrev pub compares_step : List (List Column) → Cond-F Bool → Bool
compares_step aliases True = true
compares_step aliases (Cmp op left right) = both_are (operand_text aliases left) (operand_text aliases right)
compares_step aliases (And parts) = list_all (λ part. part) parts
compares_step aliases (Or parts) = list_all (λ part. part) parts
compares_step aliases (Not part) = part

abbrev pub compares : List (List Column) → Cond → Bool
compares aliases = fold-Cond Bool (compares_step aliases)

-- how many comparisons a condition has
abbrev pub comparisons_step : Cond-F ℕ → ℕ
comparisons_step True = 0
comparisons_step (Cmp op left right) = 1
comparisons_step (And parts) = sum parts
comparisons_step (Or parts) = sum parts
comparisons_step (Not part) = part

abbrev pub comparisons : Cond → ℕ
comparisons = fold-Cond ℕ comparisons_step

-- how deep And, Or and Not nest
abbrev pub deepest : List ℕ → ℕ
deepest [] = 0
deepest (n ∷ ns) = max n (deepest ns)

abbrev pub depth_step : Cond-F ℕ → ℕ
depth_step True = 0
depth_step (Cmp op left right) = 0
depth_step (And parts) = 1 + deepest parts
depth_step (Or parts) = 1 + deepest parts
depth_step (Not part) = 1 + part

abbrev pub depth : Cond → ℕ
depth = fold-Cond ℕ depth_step

-- whether each And and Or has two parts or more, as many as a byte can count
abbrev pub is_some_parts : List Bool → Bool
is_some_parts parts = nat_le 2 (length parts) && nat_le (length parts) 255 && list_all (λ part. part) parts

abbrev pub branches_step : Cond-F Bool → Bool
branches_step True = true
branches_step (Cmp op left right) = true
branches_step (And parts) = is_some_parts parts
branches_step (Or parts) = is_some_parts parts
branches_step (Not part) = part

abbrev pub branches : Cond → Bool
branches = fold-Cond Bool branches_step

-- a condition over these aliases
pub record IsBoundCond (aliases : List (List Column)) (c : Cond) : Type 0 where
  pub compares_well : compares aliases c ≡ true
  pub few : comparisons c ≤ 16

-- a condition that the journal can keep
pub record IsKeptCond (c : Cond) : Type 0 where
  pub branches_well : branches c ≡ true
  pub shallow : depth c ≤ 130

-- CREATE TABLE
abbrev pub is_table_kind : Kind → Bool
is_table_kind Int = true
is_table_kind Text = true
is_table_kind Big = false

pub record IsBoundTable (tables : List TableDef) (views : List ViewDef) (def : TableDef) : Type 0 where
  pub next : def.no ≡ length tables
  pub room : length tables < 32
  pub named : is_name def.name ≡ true
  pub free : is_free tables views def.name ≡ true
  pub some_columns : 0 < length def.columns
  pub few_columns : length def.columns ≤ 16
  pub columns_named : list_all (λ c. is_name c.name) def.columns ≡ true
  pub columns_apart : are_apart bytes_eq (map (λ c. c.name) def.columns) ≡ true
  pub kinds : list_all (λ c. is_table_kind c.kind) def.columns ≡ true
  pub some_key : 0 < length def.key
  pub key_apart : are_apart nat_eq def.key ≡ true
  pub key_in_range : list_all (λ k. nat_lt k (length def.columns)) def.key ≡ true

-- CREATE VIEW
abbrev pub is_count : Item → Bool
is_count (Plain col name) = false
is_count (Sum col name) = false
is_count (Count name) = true

abbrev pub is_plain : Item → Bool
is_plain (Plain col name) = true
is_plain (Sum col name) = false
is_plain (Count name) = false

abbrev pub is_int_column : List (List Column) → Col → Bool
is_int_column aliases col = by (kind_at aliases col)
  where
    by : Option Kind → Bool
    by None = false
    by (Some Int) = true
    by (Some Text) = false
    by (Some Big) = false

-- the key columns of each alias
abbrev pub key_cols : List TableDef → ℕ × ℕ → List Col
key_cols tables at = map (λ k. record { alias = at.0; column = k }) (table_at tables at.1).key

abbrev pub all_key_cols : List TableDef → List ℕ → List Col
all_key_cols tables numbers = flat_map (key_cols tables) (enumerate_from 0 numbers)

-- whether each of these columns is among those
abbrev pub are_among : List Col → List Col → Bool
are_among cols others = list_all (λ col. has_col col others) cols

-- The rules on what a view may be, each over its list and its GROUP BY columns, and in the order in which a broken one
-- is shown. Without GROUP BY there are columns alone; with it each listed column is grouped and each grouped column listed.
abbrev pub keeps_group : List Item → List Col → Bool
keeps_group items [] = list_all is_plain items
keeps_group items (g ∷ groups) = are_among (plain_columns items) (g ∷ groups) && are_among (g ∷ groups) (plain_columns items)

-- with GROUP BY there is exactly one COUNT(*)
abbrev pub keeps_count : List Item → List Col → Bool
keeps_count items [] = true
keeps_count items (g ∷ groups) = count_by is_count items == 1

-- without GROUP BY each key column of each alias is listed
abbrev pub keeps_key : List TableDef → List ℕ → List Item → List Col → Bool
keeps_key tables numbers items [] = are_among (all_key_cols tables numbers) (plain_columns items)
keeps_key tables numbers items (g ∷ groups) = true

-- the first of a list
abbrev pub first : {A : Type 0} → List A → Option A
first [] = None
first (x ∷ xs) = Some x

-- the rule, where it is broken
abbrev pub broken : Bool → ProfileRule → List ProfileRule
broken keeps which = cond keeps [] (which ∷ [])

abbrev pub broken_rules : List TableDef → ViewDef → List ProfileRule
broken_rules tables view =
    broken (keeps_group view.items view.groups) rule.Group
    ++ (broken (keeps_count view.items view.groups) rule.Count ++ broken (keeps_key tables view.tables view.items view.groups) rule.Key)

-- a view breaks none of them, and is grouped where it has GROUP BY columns
pub record IsProfile (tables : List TableDef) (view : ViewDef) : Type 0 where
  pub grouped : view.grouped ≡ nat_lt 0 (length view.groups)
  pub keeps : broken_rules tables view ≡ []

pub record IsBoundView (tables : List TableDef) (views : List ViewDef) (view : ViewDef) : Type 0 where
  pub next : view.no ≡ length views
  pub room : length views < 32
  pub named : is_name view.name ≡ true
  pub free : is_free tables views view.name ≡ true
  pub some_aliases : 0 < length view.tables
  pub few_aliases : length view.tables ≤ 4
  pub in_use : list_all (λ t. nat_lt t (length tables)) view.tables ≡ true
  pub bound_cond : IsBoundCond (alias_columns tables view.tables) view.cond
  pub kept_cond : IsKeptCond view.cond
  pub some_items : 0 < length view.items
  pub few_items : length view.items ≤ 16
  pub items_named : list_all is_name (map item_name view.items) ≡ true
  pub items_apart : are_apart bytes_eq (map item_name view.items) ≡ true
  pub plain_in_range : list_all (is_in_range (alias_columns tables view.tables)) (plain_columns view.items) ≡ true
  pub sums_are_ints : list_all (is_int_column (alias_columns tables view.tables)) (summed_columns view) ≡ true
  pub groups_in_range : list_all (is_in_range (alias_columns tables view.tables)) view.groups ≡ true
  pub few_groups : length view.groups ≤ 16
  pub profile : IsProfile tables view

-- INSERT, UPDATE and DELETE
abbrev pub same_kind : Kind → Kind → Bool
same_kind Int k = not (is_text k)
same_kind Big k = not (is_text k)
same_kind Text k = is_text k

-- whether a column of this kind may be set to it, among the columns of its table
abbrev pub has_kind : Kind → Option Column → Bool
has_kind kind None = false
has_kind kind (Some c) = same_kind kind c.kind

abbrev pub set_fits : List Column → Kind → SetValue → Bool
set_fits columns kind (Literal v) = value_fits kind v
set_fits columns kind (OfColumn c) = has_kind kind (slice_get columns c)
set_fits columns kind (Plus c amount) = not (is_text kind) && has_kind kind (slice_get columns c) && nat_lt (nat_abs amount) (10 ^ 38)

abbrev pub column_set : List Column → Option Column → SetValue → Bool
column_set columns None value = false
column_set columns (Some c) value = set_fits columns c.kind value

abbrev pub is_bound_set : TableDef → Set → Bool
is_bound_set def s = column_set def.columns (slice_get def.columns s.column) s.value && not (list_any (λ k. k == s.column) def.key)

abbrev pub IsBoundChange : List TableDef → Change → Type 0
IsBoundChange tables (Insert table rows) =
    (table < length tables) × (length rows ≤ 1000) × (list_all (row_fits (table_at tables table).columns) rows ≡ true)
IsBoundChange tables (Update table sets c) =
    (table < length tables) × (list_all (is_bound_set (table_at tables table)) sets ≡ true) × (are_apart nat_eq (map (λ s. s.column) sets) ≡ true)
    × IsBoundCond ((table_at tables table).columns ∷ []) c
IsBoundChange tables (Delete table c) = (table < length tables) × IsBoundCond ((table_at tables table).columns ∷ []) c

-- SELECT
abbrev pub rel_in_use : List TableDef → List ViewDef → Rel → Bool
rel_in_use tables views (rel.Table t) = nat_lt t (length tables)
rel_in_use tables views (rel.View v) = nat_lt v (length views)

pub record IsBoundQuery (tables : List TableDef) (views : List ViewDef) (query : Query) : Type 0 where
  pub some_aliases : 0 < length query.rels
  pub few_aliases : length query.rels ≤ 4
  pub in_use : list_all (rel_in_use tables views) query.rels ≡ true
  pub bound_cond : IsBoundCond (map (rel_columns tables views) query.rels) query.cond
  pub some_list : 0 < length query.list
  pub few_list : length query.list ≤ 64
  pub list_in_range : list_all (is_in_range (map (rel_columns tables views) query.rels)) query.list ≡ true
  pub few_order : length query.order ≤ 16
  pub order_in_range : list_all (λ by. is_in_range (map (rel_columns tables views) query.rels) by.col) query.order ≡ true

-- any statement
abbrev pub IsBound : List TableDef → List ViewDef → Bound → Type 0
IsBound tables views (bound.Table def) = IsBoundTable tables views def
IsBound tables views (bound.View view) = IsBoundView tables views view
IsBound tables views (bound.Change change) = IsBoundChange tables change
IsBound tables views (bound.Query query) = IsBoundQuery tables views query
IsBound tables views (bound.Begin) = Unit {0}
IsBound tables views (bound.Commit) = Unit {0}
IsBound tables views (bound.Rollback) = Unit {0}
IsBound tables views (bound.Tasks) = Unit {0}
