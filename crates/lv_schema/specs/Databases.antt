-- Databases: the rows of each table.
use Rattle.std.specs.Prelude.{◌≡◌, ℕ, ◌^◌, ◌≤◌, ℤ, pos, neg_ℤ, int_le, int_lt, Bool, true, false, not, ◌&&◌, ◌==◌, nat_le, List, [], ◌∷◌, length, slice_index_or}
use Rattle.std.specs.List.{list_any, AllByRecursion, AllZip}
use Rattle.lv_values.specs.declared.value.Value.{Value}
use Rattle.lv_values.specs.declared.value.Value.TheVariants.{Num, Text as Word}
use Rattle.lv_values.specs.Rows.{key_cmp}
use Rattle.lv_schema.specs.declared.table.Kind.{Kind}
use Rattle.lv_schema.specs.declared.table.Kind.TheVariants.{Int, Text, Big}
use Rattle.lv_schema.specs.declared.table.Column.{Column}
use Rattle.lv_schema.specs.declared.table.TableDef.{TableDef}
use Rattle.lv_schema.specs.Once.{Ascends}

-- for each table, at the place of its number, its rows
abbrev pub Db : Type 0
Db = List (List (List Value))

-- the rows of the table with this number
abbrev pub rows_of : Db → ℕ → List (List Value)
rows_of db table = slice_index_or db table []

-- inside signed 64 bits, and inside signed 128 bits
abbrev pub is_int : ℤ → Bool
is_int n = int_le (neg_ℤ (pos (2 ^ 63))) n && int_lt n (pos (2 ^ 63))

abbrev pub is_big : ℤ → Bool
is_big n = int_le (neg_ℤ (pos (2 ^ 127))) n && int_lt n (pos (2 ^ 127))

-- at most 256 bytes, none of them a line feed
abbrev pub is_line : List ℕ → Bool
is_line t = nat_le (length t) 256 && not (list_any (λ b. b == 10) t)

-- whether a column of this kind may hold the value
abbrev pub value_fits : Kind → Value → Bool
value_fits Int (Num n) = is_int n
value_fits Big (Num n) = is_big n
value_fits Text (Num n) = false
value_fits Int (Word t) = false
value_fits Big (Word t) = false
value_fits Text (Word t) = is_line t

-- whether the row has one value for each column, which the column may hold
abbrev pub row_fits : List Column → List Value → Bool
row_fits [] [] = true
row_fits [] (v ∷ vs) = false
row_fits (c ∷ cs) [] = false
row_fits (c ∷ cs) (v ∷ vs) = value_fits c.kind v && row_fits cs vs

-- the rows of a table: they fit its columns, they ascend by their keys, which are distinct, and they are few enough
pub record IsTable (def : TableDef) (rows : List (List Value)) : Type 0 where
  pub fits : AllByRecursion (λ row. row_fits def.columns row ≡ true) rows
  pub keyed : Ascends (key_cmp def.key) rows
  pub few : length rows ≤ 65535

-- a database of these tables
abbrev pub IsDatabase : List TableDef → Db → Type 0
IsDatabase tables db = AllZip IsTable tables db
