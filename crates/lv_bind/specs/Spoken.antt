-- What the statement of every line keeps, whatever its names mean: names are names but for their length, lists are not
-- empty, chains have two parts or more, conditions nest only so deep, and no text holds a line feed.
use Rattle.std.specs.Prelude.{◌≡◌, ◌<◌, ◌≤◌, ◌+◌, ◌^◌, ℕ, nat_abs, nat_le, Bool, true, not, ◌&&◌, ◌==◌, nat_lt, List, map, length, Option, Some, None, unwrap_or}
use Rattle.std.specs.List.{list_all, list_any}
use Rattle.lv_values.specs.Names.{is_word, has_name, keywords}
use Rattle.lv_values.specs.declared.value.Value.{Value}
use Rattle.lv_values.specs.declared.value.Value.TheVariants as v
use Rattle.lv_parser.specs.declared.tree.AssignValue.{AssignValue}
use Rattle.lv_parser.specs.declared.tree.AssignValue.TheVariants as value
use Rattle.lv_parser.specs.declared.tree.ColName.{ColName}
use Rattle.lv_parser.specs.declared.tree.CondTree.{CondTree}
use Rattle.lv_parser.specs.declared.tree.CondTree.TheOpen.{CondTree-F, True, Cmp, And, Or, Not}
use Rattle.lv_parser.specs.declared.tree.CondTree.TheFolds.{fold-CondTree}
use Rattle.lv_parser.specs.declared.tree.ItemTree.{ItemTree}
use Rattle.lv_parser.specs.declared.tree.ItemTree.TheVariants as item
use Rattle.lv_parser.specs.declared.tree.OperandTree.{OperandTree}
use Rattle.lv_parser.specs.declared.tree.OperandTree.TheVariants as side
use Rattle.lv_parser.specs.declared.tree.Stmt.{Stmt}
use Rattle.lv_parser.specs.declared.tree.Stmt.TheVariants as stmt
use Rattle.lv_parser.specs.declared.tree.Tuple.{Tuple}
use Rattle.lv_schema.specs.Bound.{deepest}
use Rattle.lv_bind.specs.Whole.{IsWhole}
use Rattle.lv_bind.specs.Pieces.{sides_of}

-- a name of any length
abbrev pub is_spoken_name : List ℕ → Bool
is_spoken_name name = is_word name && not (has_name name keywords)

abbrev pub is_in_line : List ℕ → Bool
is_in_line t = not (list_any (λ b. b == 10) t)

abbrev pub value_in_line : Value → Bool
value_in_line (v.Num n) = true
value_in_line (v.Text t) = is_in_line t

abbrev pub tuple_in_line : Tuple → Bool
tuple_in_line t = list_all (λ l. value_in_line l.value) t.values

abbrev pub assigned_in_line : AssignValue → Bool
assigned_in_line (value.Literal l) = value_in_line l.value
assigned_in_line (value.Column col) = true
assigned_in_line (value.Plus col amount) = nat_lt (nat_abs amount) (10 ^ 38)

abbrev pub side_in_line : OperandTree → Bool
side_in_line (side.Column col) = true
side_in_line (side.Literal l) = value_in_line l.value

-- conditions
abbrev pub texts_step : CondTree-F Bool → Bool
texts_step True = true
texts_step (Cmp sign left right) = side_in_line left && side_in_line right
texts_step (And parts) = list_all (λ part. part) parts
texts_step (Or parts) = list_all (λ part. part) parts
texts_step (Not part) = part

abbrev pub cond_in_line : CondTree → Bool
cond_in_line = fold-CondTree Bool texts_step

abbrev pub chains_step : CondTree-F Bool → Bool
chains_step True = true
chains_step (Cmp sign left right) = true
chains_step (And parts) = nat_le 2 (length parts) && list_all (λ part. part) parts
chains_step (Or parts) = nat_le 2 (length parts) && list_all (λ part. part) parts
chains_step (Not part) = part

abbrev pub is_chained : CondTree → Bool
is_chained = fold-CondTree Bool chains_step

abbrev pub nesting_step : CondTree-F ℕ → ℕ
nesting_step True = 0
nesting_step (Cmp sign left right) = 0
nesting_step (And parts) = 1 + deepest parts
nesting_step (Or parts) = 1 + deepest parts
nesting_step (Not part) = 1 + part

abbrev pub nesting : CondTree → ℕ
nesting = fold-CondTree ℕ nesting_step

-- Parentheses and NOT nest at most 64 deep. Each level of parentheses can hold an Or of Ands, a whole condition one more,
-- and the conditions after ON and WHERE are one And: 131 levels. Each And and Or has two parts, so each adds a
-- comparison, and beside them only NOT makes a level. A part of a chain or of NOT is never missing.
pub record IsSpokenCond (c : CondTree) : Type 0 where
  pub in_line : cond_in_line c ≡ true
  pub chained : is_chained c ≡ true
  pub shallow : nesting c ≤ 131
  pub compared : nesting c ≤ 64 + length (sides_of c)
  pub whole : IsWhole c

-- the name that an item of a view's list gets
abbrev pub output_name : ItemTree → List ℕ
output_name (item.Plain col output) = (unwrap_or output col.name).name
output_name (item.Sum col output) = output.name
output_name (item.Count output) = output.name

abbrev pub IsSomeList : Option (List ColName) → Type 0
IsSomeList None = Unit {0}
IsSomeList (Some cols) = 0 < length cols

abbrev pub IsSpoken : Stmt → Type 0
IsSpoken (stmt.CreateTable name cols key) =
    (is_spoken_name name.name ≡ true) × (0 < length cols) × (list_all (λ c. is_spoken_name c.name.name) cols ≡ true) × (0 < length key)
IsSpoken (stmt.CreateView name items refs c groups) =
    (is_spoken_name name.name ≡ true) × (0 < length items) × (list_all is_spoken_name (map output_name items) ≡ true) × (0 < length refs) × IsSpokenCond c
IsSpoken (stmt.Insert table tuples) = (0 < length tuples) × (list_all tuple_in_line tuples ≡ true)
IsSpoken (stmt.Update table sets c) = (0 < length sets) × (list_all (λ a. assigned_in_line a.value) sets ≡ true) × IsSpokenCond c
IsSpoken (stmt.Delete table c) = IsSpokenCond c
IsSpoken (stmt.Select list refs c order) = IsSomeList list × (0 < length refs) × IsSpokenCond c
IsSpoken stmt.Begin = Unit {0}
IsSpoken stmt.Commit = Unit {0}
IsSpoken stmt.Rollback = Unit {0}
IsSpoken stmt.ShowTasks = Unit {0}
