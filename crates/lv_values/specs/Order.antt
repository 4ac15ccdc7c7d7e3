-- The order of values: numbers by value, then texts by bytes. Rows compare by their values from the left.
-- A null, once there is one, is one more rank below the others.
use Rattle.std.specs.Prelude.{ℕ, ℤ, pos, List, [], Bool}
use Rattle.std.specs.Ordering.{nat_cmp, int_cmp, on, then_cmp, is_eq}
use Rattle.std.specs.declared.cmp.Ordering.{Ordering}
use Rattle.std.specs.Cmp.Lexicographic.{slice_cmp}
use Rattle.lv_values.specs.declared.value.Value.{Value}
use Rattle.lv_values.specs.declared.value.Value.TheVariants.{Num, Text}

-- which kinds come first
abbrev pub rank_of : Value → ℕ
rank_of (Num n) = 1
rank_of (Text t) = 2

-- the number, 0 where it is none
abbrev pub number_of : Value → ℤ
number_of (Num n) = n
number_of (Text t) = pos 0

-- the bytes of the text, none where it is none
abbrev pub text_of : Value → List ℕ
text_of (Num n) = []
text_of (Text t) = t

abbrev pub value_cmp : Value → Value → Ordering
value_cmp = then_cmp (on rank_of nat_cmp) (then_cmp (on number_of int_cmp) (on text_of (slice_cmp nat_cmp)))

abbrev pub value_eq : Value → Value → Bool
value_eq a b = is_eq (value_cmp a b)

abbrev pub row_cmp : List Value → List Value → Ordering
row_cmp = slice_cmp value_cmp

abbrev pub row_eq : List Value → List Value → Bool
row_eq a b = is_eq (row_cmp a b)
