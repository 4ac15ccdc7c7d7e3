-- What a condition bounds: a column that has no value below, or none above, another in any row that it keeps.
use Rattle.std.specs.Prelude.{◌≡◌, ℕ, Bool, true, false, cond, ◌&&◌, List, [], ◌∷◌, map, Option, Some, None, option_map}
use Rattle.std.specs.Option.{option_or}
use Rattle.std.specs.List.{list_all}
use Rattle.std.specs.Ordering.{is_gt, is_lt}
use Rattle.lv_values.specs.declared.value.Value.{Value}
use Rattle.lv_values.specs.Order.{value_cmp}
use Rattle.lv_values.specs.Rows.{value_in}
use Rattle.lv_schema.specs.declared.cond.Cond.{Cond}
use Rattle.lv_schema.specs.declared.cond.Cond.TheOpen.{Cond-F, True, Cmp, And, Or, Not}
use Rattle.lv_schema.specs.declared.cond.Cond.TheFolds.{fold-Cond}
use Rattle.lv_schema.specs.declared.cond.Op.{Op}
use Rattle.lv_schema.specs.declared.cond.Op.TheVariants.{Eq, Ne, Lt, Le, Gt, Ge}
use Rattle.lv_schema.specs.declared.cond.Operand.{Operand}
use Rattle.lv_schema.specs.Truth.{holds, op_holds, operand_value}
use Rattle.lv_versions.specs.Versions.{IsHigh, IsLow, rows_within}
use Rattle.lv_effect.specs.declared.bounding.Side.{Side}
use Rattle.lv_effect.specs.declared.bounding.Side.TheVariants.{Low, High}
use Rattle.lv_effect.specs.FixedKeys.{is_column, is_literal, literal_value}

-- a value is no less than a bound, or no greater
abbrev pub IsWithin : Side → Value → Value → Type 0
IsWithin Low bound v = is_lt (value_cmp v bound) ≡ false
IsWithin High bound v = is_gt (value_cmp v bound) ≡ false

-- in each row that the condition keeps the column is
abbrev pub Bounds : Side → ℕ → Cond → Value → Type 0
Bounds side column c bound = (row : List Value) → holds c (row ∷ []) ≡ true → IsWithin side bound (value_in row column)

-- in each row that all parts keep
abbrev pub PartsBound : Side → ℕ → List Cond → Value → Type 0
PartsBound side column parts bound = (row : List Value) → list_all (λ part. holds part (row ∷ [])) parts ≡ true → IsWithin side bound (value_in row column)

-- in each row for which the two sides meet the sign
abbrev pub SidesBound : Side → ℕ → Op → Operand → Operand → Value → Type 0
SidesBound side column op left right bound = (row : List Value) → op_holds op (value_cmp (operand_value (row ∷ []) left) (operand_value (row ∷ []) right)) ≡ true → IsWithin side bound (value_in row column)

-- ---- what a condition says
abbrev pub other_side : Side → Side
other_side Low = High
other_side High = Low

-- whether a sign bounds its left by its right
abbrev pub bounds : Side → Op → Bool
bounds Low Eq = true
bounds Low Ne = false
bounds Low Lt = false
bounds Low Le = false
bounds Low Gt = true
bounds Low Ge = true
bounds High Eq = true
bounds High Ne = false
bounds High Lt = true
bounds High Le = true
bounds High Gt = false
bounds High Ge = false

-- the value by which a comparison bounds the column: of the column on the left the literal on the right, or else of the
-- column on the right the literal on the left
abbrev pub bound_of_sides : Side → ℕ → Op → Operand → Operand → Option Value
bound_of_sides side column op left right =
    cond (is_column column left && is_literal right && bounds side op) (Some (literal_value right))
    (cond (is_column column right && is_literal left && bounds (other_side side) op) (Some (literal_value left)) None)

-- the first value that there is
abbrev pub first_there : List (Option Value) → Option Value
first_there [] = None
first_there (found ∷ more) = option_or found (first_there more)

-- one node, with the value that each part gives in its place
abbrev pub bound_step : Side → ℕ → Cond-F (Option Value) → Option Value
bound_step side column True = None
bound_step side column (Cmp op left right) = bound_of_sides side column op left right
bound_step side column (And parts) = first_there parts
bound_step side column (Or parts) = None
bound_step side column (Not part) = None

-- the value by which a condition bounds the column: its own, or that of the first of the parts that all have to hold which
-- gives one
abbrev pub bound_of : Side → Cond → ℕ → Option Value
bound_of side c column = fold-Cond (Option Value) (bound_step side column) c

-- and that of the first part that gives one
abbrev pub bound_in : Side → List Cond → ℕ → Option Value
bound_in side parts column = first_there (map (λ part. bound_of side part column) parts)

-- the value by which it bounds the first column of a key, alone in a row
abbrev pub first_bound_of : Side → Cond → List ℕ → Option (List Value)
first_bound_of side c [] = None
first_bound_of side c (first ∷ key) = option_map (λ value. value ∷ []) (bound_of side c first)

-- the rows whose first key column is between the values by which the condition bounds it
abbrev pub rows_bounded : Cond → List ℕ → List (List Value) → List (List Value)
rows_bounded c key rows = rows_within key (first_bound_of Low c key) (first_bound_of High c key) rows

-- first key values that bound those of each row that the condition keeps
abbrev pub FirstBound : Side → Cond → List ℕ → List Value → Type 0
FirstBound Low c key values = IsLow key values (λ row. holds c (row ∷ []))
FirstBound High c key values = IsHigh key values (λ row. holds c (row ∷ []))
