-- Steps of a view from one database to another, and those that keep links: no other alias can tell the rows before from
-- those after.
use Rattle.std.specs.Prelude.{◌≡◌, ◌⊎◌, ◌≤◌, ℕ, Bool, true, false, ◌&&◌, ◌==◌, cond, List, [], ◌∷◌, ◌++◌, length, map, Some, slice_get}
use Rattle.std.specs.List.{list_any, AllByRecursion}
use Rattle.lv_values.specs.declared.value.Value.{Value}
use Rattle.lv_values.specs.Order.{row_eq}
use Rattle.lv_values.specs.Rows.{values_at}
use Rattle.lv_schema.specs.declared.action.Action.{Action}
use Rattle.lv_schema.specs.declared.action.ActionKind.{ActionKind}
use Rattle.lv_schema.specs.declared.action.ActionKind.TheVariants.{Insert, Delete}
use Rattle.lv_schema.specs.declared.cond.Col.{Col}
use Rattle.lv_schema.specs.declared.part.Part.{Part}
use Rattle.lv_schema.specs.declared.table.TableDef.{TableDef}
use Rattle.lv_schema.specs.Databases.{Db, rows_of}
use Rattle.lv_schema.specs.Nets.{net_of}
use Rattle.lv_schema.specs.World.{table_at}
use Rattle.lv_reach.specs.declared.link.Link.{Link}

-- the part of rows from what they are to what they become
abbrev pub part_from : List (List Value) → List (List Value) → Part
part_from before after = let net = net_of before after in record { old = before; minus = net.minus; plus = net.plus }

-- the part of a table from one database to another, and those of the tables of a view
abbrev pub part_of : Db → Db → ℕ → Part
part_of before after table = part_from (rows_of before table) (rows_of after table)

abbrev pub parts_of : List ℕ → Db → Db → List Part
parts_of tables before after = map (part_of before after) tables

-- a column, where it is one of this alias; the columns of an alias that a link names, and those that links name
abbrev pub if_of : ℕ → Col → List ℕ
if_of alias col = cond (col.alias == alias) (col.column ∷ []) []

abbrev pub named_columns : Link → ℕ → List ℕ
named_columns link alias = if_of alias link.left ++ if_of alias link.right

abbrev pub linked_columns : List Link → ℕ → List ℕ
linked_columns [] alias = []
linked_columns (link ∷ links) alias = named_columns link alias ++ linked_columns links alias

-- whether a row has the key of another, and its values in some columns
abbrev pub stands_for : List ℕ → List ℕ → List Value → List Value → Bool
stands_for key columns row new = row_eq (values_at key row) (values_at key new) && row_eq (values_at columns row) (values_at columns new)

-- each of these rows has among the others one that stands for it
abbrev pub HaveStandIns : List ℕ → List ℕ → List (List Value) → List (List Value) → Type 0
HaveStandIns key columns rows others = AllByRecursion (λ row. list_any (stands_for key columns row) others ≡ true) rows

-- a view of one table, which has no links: its steps look no row up
abbrev pub IsOfOneTable : List Link → List ℕ → Type 0
IsOfOneTable links tables = (links ≡ []) × (length tables ≤ 1)

-- each row of an alias's table stays, or becomes one of the same key with the same values in the linked columns
abbrev pub AliasesKeepLinks : List Link → List TableDef → List ℕ → Db → Db → Type 0
AliasesKeepLinks links defs tables before after =
    (alias table : ℕ) → slice_get tables alias ≡ Some table → HaveStandIns (table_at defs table).key (linked_columns links alias) (rows_of before table) (rows_of after table)

-- A step keeps links: no row of any alias goes for good, and none agrees with other rows than before; or there are no other
-- aliases.
abbrev pub KeepsLinks : List Link → List TableDef → List ℕ → Db → Db → Type 0
KeepsLinks links defs tables before after = IsOfOneTable links tables ⊎ AliasesKeepLinks links defs tables before after

-- whether a row goes, and whether an action takes a row of a table away
abbrev pub is_delete : ActionKind → Bool
is_delete Insert = false
is_delete Delete = true

abbrev pub takes_from : ℕ → Action → Bool
takes_from table a = (table == a.table) && is_delete a.kind

-- whether the rows of the one list have stand-ins among those of the other, in their order
abbrev pub are_met : List ℕ → List ℕ → List (List Value) → List (List Value) → Bool
are_met key columns [] others = true
are_met key columns (row ∷ rows) [] = false
are_met key columns (row ∷ rows) (new ∷ others) = cond (stands_for key columns row new) (are_met key columns rows others) (are_met key columns (row ∷ rows) others)
