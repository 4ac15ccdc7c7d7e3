-- The values of a row at positions, and the order of rows by them.
use Rattle.std.specs.Prelude.{ℕ, pos, List, map, slice_index_or}
use Rattle.std.specs.declared.cmp.Ordering.{Ordering}
use Rattle.lv_values.specs.declared.value.Value.{Value}
use Rattle.lv_values.specs.declared.value.Value.TheVariants.{Num}
use Rattle.lv_values.specs.Order.{row_cmp}

-- the value at a position, 0 past the row's end
abbrev pub value_in : List Value → ℕ → Value
value_in row at = slice_index_or row at (Num (pos 0))

-- the values at these positions, in their order
abbrev pub values_at : List ℕ → List Value → List Value
values_at positions row = map (value_in row) positions

-- the order of two rows by their values at these positions
abbrev pub key_cmp : List ℕ → List Value → List Value → Ordering
key_cmp positions a b = row_cmp (values_at positions a) (values_at positions b)
