-- What a condition fixes: a column, or a key, that is the same in every row that it keeps.
use Rattle.std.specs.Prelude.{◌≡◌, ◌==◌, ℕ, Bool, true, false, ◌&&◌, ◌||◌, List, [], ◌∷◌}
use Rattle.std.specs.List.{list_all, list_any}
use Rattle.lv_values.specs.declared.value.Value.{Value}
use Rattle.lv_values.specs.Order.{value_eq}
use Rattle.lv_values.specs.Rows.{value_in, values_at}
use Rattle.lv_schema.specs.declared.cond.Cond.{Cond}
use Rattle.lv_schema.specs.declared.cond.Cond.TheOpen.{Cond-F, True, Cmp, And, Or, Not}
use Rattle.lv_schema.specs.declared.cond.Cond.TheFolds.{fold-Cond}
use Rattle.lv_schema.specs.declared.cond.Op.{Op}
use Rattle.lv_schema.specs.declared.cond.Op.TheVariants.{Eq, Ne, Lt, Le, Gt, Ge}
use Rattle.lv_schema.specs.declared.cond.Operand.{Operand}
use Rattle.lv_schema.specs.declared.cond.Operand.TheVariants.{Column, Number, Text}
use Rattle.lv_schema.specs.Truth.{holds, operand_value}

-- each row that the condition keeps has the value in the column
abbrev pub Fixes : ℕ → Cond → Value → Type 0
Fixes column c v = (row : List Value) → holds c (row ∷ []) ≡ true → value_in row column ≡ v

-- each row that all parts keep has it
abbrev pub PartsFix : ℕ → List Cond → Value → Type 0
PartsFix column parts v = (row : List Value) → list_all (λ part. holds part (row ∷ [])) parts ≡ true → value_in row column ≡ v

-- each row of which the two sides are equal has it
abbrev pub SidesFix : ℕ → Operand → Operand → Value → Type 0
SidesFix column left right v = (row : List Value) → value_eq (operand_value (row ∷ []) left) (operand_value (row ∷ []) right) ≡ true → value_in row column ≡ v

-- each row that the condition keeps has these values at the positions
abbrev pub FixesKey : List ℕ → Cond → List Value → Type 0
FixesKey positions c key = (row : List Value) → holds c (row ∷ []) ≡ true → values_at positions row ≡ key

-- the value of an operand that names no column
abbrev pub literal_value : Operand → Value
literal_value operand = operand_value [] operand

-- ---- what a condition says
-- whether an operand is this column of the only table, and whether it is a literal
abbrev pub is_column : ℕ → Operand → Bool
is_column column (Column col) = (col.alias == 0) && (col.column == column)
is_column column (Number n) = false
is_column column (Text t) = false

abbrev pub is_literal : Operand → Bool
is_literal (Column col) = false
is_literal (Number n) = true
is_literal (Text t) = true

-- whether one side is the column and the other one a literal
abbrev pub compares : ℕ → Operand → Operand → Bool
compares column left right = (is_column column left && is_literal right) || (is_column column right && is_literal left)

abbrev pub is_equality : Op → Bool
is_equality Eq = true
is_equality Ne = false
is_equality Lt = false
is_equality Le = false
is_equality Gt = false
is_equality Ge = false

-- one node, with what each part says in its place
abbrev pub says_step : ℕ → Cond-F Bool → Bool
says_step column True = false
says_step column (Cmp op left right) = is_equality op && compares column left right
says_step column (And parts) = list_any (λ b. b) parts
says_step column (Or parts) = false
says_step column (Not part) = false

-- whether the condition says that the column equals a literal, by itself or by one of the parts that all have to hold
abbrev pub says_column : Cond → ℕ → Bool
says_column c column = fold-Cond Bool (says_step column) c

-- whether it says so of each column of a key
abbrev pub says_key : Cond → List ℕ → Bool
says_key c positions = list_all (says_column c) positions
