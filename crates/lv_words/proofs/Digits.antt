-- What the parse of 1 to 10 decimal digits gives.
use Rattle.std.proofs.Common.{◌≡◌, ◌<◌, ◌≤◌, ◌^◌, ◌&&◌, ℕ, Bool, List, Result, Ok, length, true, false, refl, sym, true≢false, rules, arith}
use Rattle.std.specs.Prelude.{nat_le, not, ◌==◌}
use Rattle.std.specs.List.{list_all}
use Rattle.std.specs.Char.{is_ascii_digit}
use Rattle.std.specs.Str.Parse.{ParsesUnsigned, digits_value}
use Rattle.std.proofs.lemmas.Bool.Decides.{nat_tests}
use Rattle.std.proofs.lemmas.Str.Parse.{IsNumeralModel, digits_value_short, numerals_by_value, parse_gives}
use Rattle.lv_words.specs.Values.{has_digits}

own : IsNumeralModel (λ ds. list_all is_ascii_digit ds ≡ true) (digits_value 10)
own = numerals_by_value _ (search rules)

both : (a b : Bool) → (a && b) ≡ true → (a ≡ true) × (b ≡ true)
both true b e = (refl, e)
both false b e = absurd (true≢false (sym e))

positive : (n : ℕ) → not (n == 0) ≡ true → 0 < n
positive n e = grind (arith, nat_tests)

short : (n : ℕ) → nat_le n 10 ≡ true → n ≤ 10
short n e = grind (arith, nat_tests)

is_short : (n : ℕ) → n ≤ 10 → nat_le n 10 ≡ true
is_short n h = grind (arith, nat_tests)

pub digits_tell : (text : List ℕ) (r : Bool) → (length text == 0) ≡ false → length text ≤ 10 → r ≡ list_all is_ascii_digit text → r ≡ has_digits text
digits_tell text r some few e = rw (some, is_short _ few) e

fits : (n : ℕ) → n < 10 ^ 10 → n < 2 ^ 64
fits n h = omega arith

pub digits_are_read : {E : Type 0} (bs : List ℕ) (r : Result ℕ E) → ParsesUnsigned 64 10 bs r → has_digits bs ≡ true → r ≡ Ok (digits_value 10 bs)
digits_are_read bs r p e =
    let one = both _ _ e in
    let two = both _ _ one.1 in
    parse_gives own 64 bs r p two.1 (positive _ one.0) (fits _ (digits_value_short own bs 10 two.1 (short _ two.0)))
