-- The net change from one database to another: for each table the rows that go and those that come.
use Rattle.std.specs.Prelude.{ℕ, Bool, not, List, [], ◌∷◌, ◌++◌, filter}
use Rattle.std.specs.List.{list_any}
use Rattle.lv_values.specs.declared.value.Value.{Value}
use Rattle.lv_values.specs.Ascending.{ascending}
use Rattle.lv_values.specs.Order.{row_eq}
use Rattle.lv_values.specs.Rows.{key_cmp}
use Rattle.lv_schema.specs.declared.net.Net.{Net}
use Rattle.lv_schema.specs.declared.table.TableDef.{TableDef}
use Rattle.lv_schema.specs.Databases.{Db}

-- whether a row is among the rows
abbrev pub has_row : List Value → List (List Value) → Bool
has_row row rows = list_any (row_eq row) rows

-- the rows that the others lack
abbrev pub lacking : List (List Value) → List (List Value) → List (List Value)
lacking rows others = filter (λ row. not (has_row row others)) rows

-- of a table
abbrev pub net_of : List (List Value) → List (List Value) → Net
net_of before after = record { minus = lacking before after; plus = lacking after before }

-- of each table
abbrev pub nets_of : Db → Db → List Net
nets_of [] [] = []
nets_of [] (after ∷ db') = net_of [] after ∷ nets_of [] db'
nets_of (before ∷ db) [] = net_of before [] ∷ nets_of db []
nets_of (before ∷ db) (after ∷ db') = net_of before after ∷ nets_of db db'

-- a table with a net change, in the order of its keys, and each table
abbrev pub with_net : List ℕ → Net → List (List Value) → List (List Value)
with_net key net rows = ascending (key_cmp key) (lacking rows net.minus ++ net.plus)

abbrev pub with_nets : List TableDef → List Net → Db → Db
with_nets (def ∷ defs) (net ∷ nets) (rows ∷ db) = with_net def.key net rows ∷ with_nets defs nets db
with_nets defs nets db = []
