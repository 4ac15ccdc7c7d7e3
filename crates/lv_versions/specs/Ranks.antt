-- The ranks of rows, by which a search guesses a place.
use Rattle.std.specs.Prelude.{ℕ, zero, suc, ℤ, pos, ◌+◌, ◌*◌, ◌/◌, List, [], ◌∷◌, slice_index_or}
use Rattle.std.specs.Int.{saturate_signed, w64}
use Rattle.lv_values.specs.declared.value.Value.{Value}
use Rattle.lv_values.specs.declared.value.Value.TheVariants.{Num, Text}
use Rattle.lv_values.specs.Rows.{value_in}

-- the first so many bytes as a number of base 256, 0 for each that is missing
abbrev pub first_bytes : ℕ → List ℕ → ℕ
first_bytes zero bytes = 0
first_bytes (suc k) bytes = first_bytes k bytes * 256 + slice_index_or bytes k 0

-- of a number the nearest one of 64 bits, of a text half of its first eight bytes
abbrev pub value_rank : Value → ℤ
value_rank (Num n) = saturate_signed w64 n
value_rank (Text t) = pos (first_bytes 8 t / 2)

-- of a row the rank of its value in the first of some columns, 0 where there is none
abbrev pub row_rank : List ℕ → List Value → ℤ
row_rank [] row = pos 0
row_rank (column ∷ columns) row = value_rank (value_in row column)
