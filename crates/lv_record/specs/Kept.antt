-- Which records the journal can keep: names are names, lengths and counts are inside the limits, and numbers inside their widths.
use Rattle.std.specs.Prelude.{◌≡◌, ◌<◌, ◌≤◌, ◌^◌, Bool, true, ◌&&◌, nat_lt, nat_le, length, map}
use Rattle.std.specs.List.{list_all}
use Rattle.std.specs.Str.{is_utf8}
use Rattle.lv_values.specs.Names.{is_name}
use Rattle.lv_values.specs.declared.value.Value.{Value}
use Rattle.lv_values.specs.declared.value.Value.TheVariants.{Num, Text as Word}
use Rattle.lv_schema.specs.Bound.{comparisons, item_name, is_table_kind, IsKeptCond}
use Rattle.lv_schema.specs.Databases.{is_big, is_int, is_line}
use Rattle.lv_schema.specs.declared.action.Action.{Action}
use Rattle.lv_schema.specs.declared.cond.Col.{Col}
use Rattle.lv_schema.specs.declared.cond.Cond.{Cond}
use Rattle.lv_schema.specs.declared.cond.Cond.TheOpen.{Cond-F, True, Cmp, And, Or, Not}
use Rattle.lv_schema.specs.declared.cond.Cond.TheFolds.{fold-Cond}
use Rattle.lv_schema.specs.declared.cond.Operand.{Operand}
use Rattle.lv_schema.specs.declared.cond.Operand.TheVariants.{Column, Number, Text}
use Rattle.lv_schema.specs.declared.rec.Rec.{Rec}
use Rattle.lv_schema.specs.declared.rec.Rec.TheVariants as rec
use Rattle.lv_schema.specs.declared.table.TableDef.{TableDef}
use Rattle.lv_schema.specs.declared.view.Item.{Item}
use Rattle.lv_schema.specs.declared.view.Item.TheVariants as item
use Rattle.lv_schema.specs.declared.view.ViewDef.{ViewDef}

-- ---- what the journal can keep

abbrev pub is_kept_value : Value → Bool
is_kept_value (Num z) = is_int z
is_kept_value (Word t) = is_line t

-- of an action of a commit
abbrev pub is_kept_action : Action → Bool
is_kept_action a = nat_lt a.table 256 && (nat_le (length a.row) 16 && list_all is_kept_value a.row)

abbrev pub is_kept_side : Operand → Bool
is_kept_side (Column c) = true
is_kept_side (Number z) = true
is_kept_side (Text t) = is_line t

-- whether each text of a condition is inside the limit
abbrev pub lines_step : Cond-F Bool → Bool
lines_step True = true
lines_step (Cmp op left right) = is_kept_side left && is_kept_side right
lines_step (And parts) = list_all (λ part. part) parts
lines_step (Or parts) = list_all (λ part. part) parts
lines_step (Not part) = part

abbrev pub has_lines : Cond → Bool
has_lines = fold-Cond Bool lines_step

pub record IsKeptTable (def : TableDef) : Type 0 where
  pub no_number : def.no ≡ 0
  pub named : is_name def.name ≡ true
  pub few_columns : length def.columns ≤ 16
  pub columns_named : list_all (λ c. is_name c.name) def.columns ≡ true
  pub kinds : list_all (λ c. is_table_kind c.kind) def.columns ≡ true
  pub few_keys : length def.key ≤ 16

pub record IsKeptView (def : ViewDef) : Type 0 where
  pub no_number : def.no ≡ 0
  pub named : is_name def.name ≡ true
  pub few_aliases : length def.tables ≤ 4
  pub tables : list_all (λ t. nat_lt t 256) def.tables ≡ true
  pub kept_cond : IsKeptCond def.cond
  pub few_comparisons : comparisons def.cond ≤ 16
  pub lines : has_lines def.cond ≡ true
  pub few_items : length def.items ≤ 16
  pub items_named : list_all is_name (map item_name def.items) ≡ true
  pub few_groups : length def.groups ≤ 16

-- a record that the journal can keep
abbrev pub IsKept : Rec → Type 0
IsKept (rec.Table def) = IsKeptTable def
IsKept (rec.View def) = IsKeptView def
IsKept (rec.Commit number actions) = list_all is_kept_action actions ≡ true
IsKept (rec.Mark view upto) = view < 256

-- a commit has no more actions than four bytes can count
abbrev pub HasFewActions : Rec → Type 0
HasFewActions (rec.Table def) = Unit {0}
HasFewActions (rec.View def) = Unit {0}
HasFewActions (rec.Commit number actions) = length actions < 2 ^ 32
HasFewActions (rec.Mark view upto) = Unit {0}

-- ---- what the types say of a record in memory: numbers have their widths, and texts are UTF-8

abbrev pub is_typed_value : Value → Bool
is_typed_value (Num z) = true
is_typed_value (Word t) = is_utf8 t

abbrev pub is_typed_action : Action → Bool
is_typed_action a = nat_lt a.statement (2 ^ 32) && list_all is_typed_value a.row

abbrev pub is_typed_col : Col → Bool
is_typed_col c = nat_lt c.alias 256 && nat_lt c.column 256

abbrev pub is_typed_side : Operand → Bool
is_typed_side (Column c) = is_typed_col c
is_typed_side (Number z) = is_big z
is_typed_side (Text t) = is_utf8 t

abbrev pub typed_step : Cond-F Bool → Bool
typed_step True = true
typed_step (Cmp op left right) = is_typed_side left && is_typed_side right
typed_step (And parts) = list_all (λ part. part) parts
typed_step (Or parts) = list_all (λ part. part) parts
typed_step (Not part) = part

abbrev pub is_typed_cond : Cond → Bool
is_typed_cond = fold-Cond Bool typed_step

abbrev pub is_typed_item : Item → Bool
is_typed_item (item.Plain c name) = is_typed_col c && is_utf8 name
is_typed_item (item.Sum c name) = is_typed_col c && is_utf8 name
is_typed_item (item.Count name) = is_utf8 name

abbrev pub is_typed_table : TableDef → Bool
is_typed_table def = is_utf8 def.name && (list_all (λ c. is_utf8 c.name) def.columns && list_all (λ k. nat_lt k 256) def.key)

abbrev pub is_typed_view : ViewDef → Bool
is_typed_view def =
    is_utf8 def.name
    && (nat_lt def.created (2 ^ 64) && (is_typed_cond def.cond && (list_all is_typed_item def.items && list_all is_typed_col def.groups)))

abbrev pub is_typed : Rec → Bool
is_typed (rec.Table def) = is_typed_table def
is_typed (rec.View def) = is_typed_view def
is_typed (rec.Commit number actions) = nat_lt number (2 ^ 64) && list_all is_typed_action actions
is_typed (rec.Mark view upto) = nat_lt upto (2 ^ 64)
