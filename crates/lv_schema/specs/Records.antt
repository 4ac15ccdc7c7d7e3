-- Records of the journal, and how long they are. A number is 1, 2, 4, 8 or 16 bytes, a list its count and its parts.
use Rattle.std.specs.Prelude.{ℕ, ◌+◌, List, length, sum}
use Rattle.std.specs.List.{sum_by}
use Rattle.lv_values.specs.declared.value.Value.{Value}
use Rattle.lv_values.specs.declared.value.Value.TheVariants.{Num, Text as Word}
use Rattle.lv_schema.specs.declared.action.Action.{Action}
use Rattle.lv_schema.specs.declared.cond.Cond.{Cond}
use Rattle.lv_schema.specs.declared.cond.Cond.TheOpen.{Cond-F, True, Cmp, And, Or, Not}
use Rattle.lv_schema.specs.declared.cond.Cond.TheFolds.{fold-Cond}
use Rattle.lv_schema.specs.declared.cond.Operand.{Operand}
use Rattle.lv_schema.specs.declared.cond.Operand.TheVariants.{Column, Number, Text}
use Rattle.lv_schema.specs.declared.rec.Rec.{Rec}
use Rattle.lv_schema.specs.declared.rec.Rec.TheVariants.{Table, View, Commit, Mark}
use Rattle.lv_schema.specs.declared.table.TableDef.{TableDef}
use Rattle.lv_schema.specs.declared.view.Item.{Item}
use Rattle.lv_schema.specs.declared.view.Item.TheVariants.{Plain, Sum, Count}
use Rattle.lv_schema.specs.declared.view.ViewDef.{ViewDef}
use Rattle.lv_schema.specs.World.{Visible, Open, last}

-- a name's length and its bytes; a text's length in two bytes and its bytes
abbrev pub name_size : List ℕ → ℕ
name_size name = 1 + length name

abbrev pub text_size : List ℕ → ℕ
text_size t = 2 + length t

-- a kind, and a number of 64 bits or a text
abbrev pub value_size : Value → ℕ
value_size (Num n) = 9
value_size (Word t) = 1 + text_size t

abbrev pub row_size : List Value → ℕ
row_size row = 1 + sum_by value_size row

-- a kind, and a column, a number of 128 bits or a text
abbrev pub operand_size : Operand → ℕ
operand_size (Column col) = 3
operand_size (Number n) = 17
operand_size (Text t) = 1 + text_size t

abbrev pub cond_step : Cond-F ℕ → ℕ
cond_step True = 1
cond_step (Cmp op left right) = 2 + operand_size left + operand_size right
cond_step (And parts) = 2 + sum parts
cond_step (Or parts) = 2 + sum parts
cond_step (Not part) = 1 + part

abbrev pub cond_size : Cond → ℕ
cond_size = fold-Cond ℕ cond_step

abbrev pub item_size : Item → ℕ
item_size (Plain col name) = 3 + name_size name
item_size (Sum col name) = 3 + name_size name
item_size (Count name) = 1 + name_size name

-- a kind and a name, and then the columns, each with its kind, and the positions of the key
abbrev pub table_size : TableDef → ℕ
table_size def = 1 + name_size def.name + 1 + sum_by (λ c. name_size c.name + 1) def.columns + 1 + length def.key

-- a kind, a name and the commit of the creation, and then the tables, the condition, the list and the groups
abbrev pub view_size : ViewDef → ℕ
view_size def = 1 + name_size def.name + 8 + 1 + length def.tables + cond_size def.cond + 1 + sum_by item_size def.items + 1 + 1 + (length def.groups + length def.groups)

-- a table, the statement's number, a kind, and a row
abbrev pub action_size : Action → ℕ
action_size a = 6 + row_size a.row

-- the number of bytes of a record
abbrev pub record_size : Rec → ℕ
record_size (Table def) = table_size def
record_size (View def) = view_size def
record_size (Commit number actions) = 13 + sum_by action_size actions
record_size (Mark view upto) = 10

-- the record of a table, of a view that is created now, and of a transaction that commits now
abbrev pub table_record : TableDef → Rec
table_record def = Table (record def { no = 0 })

abbrev pub view_record : ViewDef → Visible → Rec
view_record def s = View (record def { no = 0; created = last s })

abbrev pub commit_record : Open → Visible → Rec
commit_record o s = Commit (last s + 1) o.actions
