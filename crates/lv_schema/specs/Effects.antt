-- What INSERT, UPDATE and DELETE do to a database: the refusals, the actions, and the rows after them.
use Rattle.std.specs.Prelude.{ℕ, ◌+◌, nat_lt, ℤ, ◌+ℤ◌, Bool, not, cond, List, [], ◌∷◌, map, filter, length, slice_get, slice_set, Option, Some, None, Result, Ok, Err}
use Rattle.std.specs.List.{list_any, filter_map, flat_map, fold}
use Rattle.lv_values.specs.declared.value.Value.{Value}
use Rattle.lv_values.specs.declared.value.Value.TheVariants.{Num}
use Rattle.lv_values.specs.Ascending.{placed}
use Rattle.lv_values.specs.Order.{number_of, row_eq}
use Rattle.lv_values.specs.Rows.{value_in, values_at, key_cmp}
use Rattle.lv_schema.specs.declared.action.Action.{Action}
use Rattle.lv_schema.specs.declared.action.ActionKind.{ActionKind}
use Rattle.lv_schema.specs.declared.action.ActionKind.TheVariants as kind
use Rattle.lv_schema.specs.declared.change.Change.{Change}
use Rattle.lv_schema.specs.declared.change.Change.TheVariants.{Insert, Update, Delete}
use Rattle.lv_schema.specs.declared.change.Set.{Set}
use Rattle.lv_schema.specs.declared.change.SetValue.{SetValue}
use Rattle.lv_schema.specs.declared.change.SetValue.TheVariants.{Literal, Column, Plus}
use Rattle.lv_schema.specs.declared.cond.Cond.{Cond}
use Rattle.lv_schema.specs.declared.fault.Fault.{Fault}
use Rattle.lv_schema.specs.declared.fault.Fault.TheVariants.{Range, Duplicate, TableFull}
use Rattle.lv_schema.specs.declared.table.TableDef.{TableDef}
use Rattle.lv_schema.specs.Databases.{Db, rows_of, is_int}
use Rattle.lv_schema.specs.Truth.{holds}
use Rattle.lv_schema.specs.World.{table_at}

-- the rows that a condition keeps, in the order of their keys
abbrev pub matching : Cond → List (List Value) → List (List Value)
matching c rows = filter (λ row. holds c (row ∷ [])) rows

-- whether two rows have the same key, and whether a row's key is among those of others
abbrev pub same_key : List ℕ → List Value → List Value → Bool
same_key key a b = row_eq (values_at key a) (values_at key b)

abbrev pub has_key : List ℕ → List Value → List (List Value) → Bool
has_key key row rows = list_any (same_key key row) rows

-- what a SET gives of the old row
abbrev pub set_value : List Value → SetValue → Value
set_value old (Literal v) = v
set_value old (Column c) = value_in old c
set_value old (Plus c amount) = Num (number_of (value_in old c) +ℤ amount)

-- the row with each set column replaced; all SETs take from the old row
abbrev pub with_sets : List Value → List Set → List Value → List Value
with_sets old [] row = row
with_sets old (s ∷ sets) row = with_sets old sets (slice_set row s.column (set_value old s.value))

abbrev pub updated : List Set → List Value → List Value
updated sets row = with_sets row sets row

-- a computed number outside signed 64 bits
abbrev pub wide_number : List Value → SetValue → Option ℤ
wide_number old (Literal v) = None
wide_number old (Column c) = None
wide_number old (Plus c amount) = let n = number_of (value_in old c) +ℤ amount in cond (is_int n) None (Some n)

-- the first such number, by the order of the keys and then by place
abbrev pub first_wide : List Set → List (List Value) → Option ℤ
first_wide sets rows = slice_get (flat_map (λ row. filter_map (λ s. wide_number row s.value) sets) rows) 0

-- the key of the first tuple whose key is taken, by a row or by an earlier tuple
abbrev pub first_taken : List ℕ → List (List Value) → List (List Value) → Option (List Value)
first_taken key taken [] = None
first_taken key taken (row ∷ rows) = cond (has_key key row taken) (Some (values_at key row)) (first_taken key (row ∷ taken) rows)

-- the first fault of two
abbrev pub first_fault : Option Fault → Option Fault → Option Fault
first_fault None other = other
first_fault (Some fault) other = Some fault

abbrev pub option_fault : {A : Type 0} → (A → Fault) → Option A → Option Fault
option_fault f None = None
option_fault f (Some a) = Some (f a)

abbrev pub fault_where : Bool → Fault → Option Fault
fault_where b fault = cond b (Some fault) None

-- why a change of a table with these rows is refused
abbrev pub change_fault : TableDef → Change → List (List Value) → Option Fault
change_fault def (Insert table new) rows =
    first_fault (option_fault (Duplicate table) (first_taken def.key rows new)) (fault_where (nat_lt 65535 (length rows + length new)) (TableFull table))
change_fault def (Update table sets c) rows = option_fault Range (first_wide sets (matching c rows))
change_fault def (Delete table c) rows = None

-- the number of rows that a change inserts, updates or deletes
abbrev pub change_count : Change → List (List Value) → ℕ
change_count (Insert table new) rows = length new
change_count (Update table sets c) rows = length (matching c rows)
change_count (Delete table c) rows = length (matching c rows)

-- actions, not numbered yet
abbrev pub inserts : ℕ → List Value → Action
inserts table row = record { table = table; statement = 0; kind = kind.Insert; row = row }

abbrev pub deletes : ℕ → List Value → Action
deletes table row = record { table = table; statement = 0; kind = kind.Delete; row = row }

-- the actions of a change: an UPDATE deletes the old row and inserts the new one, also where they are equal
abbrev pub change_actions : Change → List (List Value) → List Action
change_actions (Insert table new) rows = map (inserts table) new
change_actions (Update table sets c) rows = flat_map (λ row. deletes table row ∷ inserts table (updated sets row) ∷ []) (matching c rows)
change_actions (Delete table c) rows = map (deletes table) (matching c rows)

-- the number of rows, and the actions
pub record Effect : Type 0 where
  pub count : ℕ
  pub actions : List Action

abbrev pub ok_unless : {A : Type 0} → Option Fault → A → Result A Fault
ok_unless None a = Ok a
ok_unless (Some fault) a = Err fault

-- the effect of a change on a table with these rows
abbrev pub effect_on : TableDef → Change → List (List Value) → Result Effect Fault
effect_on def change rows = ok_unless (change_fault def change rows) (record { count = change_count change rows; actions = change_actions change rows })

abbrev pub changed_table : Change → ℕ
changed_table (Insert table new) = table
changed_table (Update table sets c) = table
changed_table (Delete table c) = table

-- the effect of a change on a database
abbrev pub effect_of : List TableDef → Change → Db → Result Effect Fault
effect_of tables change db = effect_on (table_at tables (changed_table change)) change (rows_of db (changed_table change))

-- a table's rows after an action: an inserted row stands in the place of its key, a deleted row is gone
abbrev pub acted_rows : List ℕ → ActionKind → List Value → List (List Value) → List (List Value)
acted_rows key (kind.Insert) row rows = placed (key_cmp key) row rows
acted_rows key (kind.Delete) row rows = filter (λ r. not (same_key key row r)) rows

-- a database after an action, and after actions in their order
abbrev pub acted : List TableDef → Db → Action → Db
acted tables db a = slice_set db a.table (acted_rows (table_at tables a.table).key a.kind a.row (rows_of db a.table))

abbrev pub acted_all : List TableDef → Db → List Action → Db
acted_all tables db actions = fold (acted tables) db actions
