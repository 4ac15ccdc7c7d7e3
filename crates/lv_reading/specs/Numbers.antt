-- Numbers in decimal, as they are read: no leading zeros, and no minus before 0.
use Rattle.std.specs.Prelude.{ℕ, ℤ, pos, negsuc, ◌-ℤ◌, ◌<◌, ◌+◌, ◌*◌, ◌-◌, ◌^◌, Bool, false, ◌&&◌, nat_le, nat_lt, ◌==◌, if◌then◌else◌, List, [], ◌∷◌, Option, Some, None, option_and_then, codes}
use Rattle.std.specs.Char.{is_ascii_digit}
use Rattle.lv_reading.specs.Reading.{Reader, ◌>>=◌, ◌>>◌, given, below, choice, begins, expect, run}

-- the number of 128 bits with one digit more
abbrev pub longer : ℕ → ℕ → Option ℕ
longer n d = if is_ascii_digit d && nat_lt (n * 10 + (d - 48)) (2 ^ 128) then Some (n * 10 + (d - 48)) else None

-- the number that goes on with these digits
abbrev pub number_on : List ℕ → Option ℕ → Option ℕ
number_on [] o = o
number_on (d ∷ ds) o = number_on ds (option_and_then (λ n. longer n d) o)

-- a 0 before more digits
abbrev pub has_leading_zero : List ℕ → Bool
has_leading_zero (d ∷ e ∷ ds) = d == 48
has_leading_zero _ = false

-- the number that these digits are
abbrev pub number_of : List ℕ → Option ℕ
number_of [] = None
number_of (d ∷ ds) = if has_leading_zero (d ∷ ds) then None else number_on (d ∷ ds) (Some 0)

-- a number of 128 bits, as many digits as come next
unfoldable pub wide : Reader ℕ
wide = run is_ascii_digit >>= λ ds. given (number_of ds)

-- a number below the limit
unfoldable pub natural : ℕ → Reader ℕ
natural limit = wide >>= below limit

-- ---- signed numbers of 128 bits

abbrev pub IsWide : ℤ → Type 0
IsWide (pos n) = n < 2 ^ 127
IsWide (negsuc n) = n < 2 ^ 127

-- the number without a minus before it
abbrev pub plain : ℕ → Option ℤ
plain n = if nat_lt n (2 ^ 127) then Some (pos n) else None

-- the number with a minus before it, which 0 never has
abbrev pub negated : ℕ → Option ℤ
negated n = if nat_lt 0 n && nat_le n (2 ^ 127) then Some (pos 0 -ℤ pos n) else None

unfoldable pub positive : Reader ℤ
positive = wide >>= λ n. given (plain n)

unfoldable pub negative : Reader ℤ
negative = do
  expect (codes "-")
  n ← wide
  given (negated n)

unfoldable pub number : Reader ℤ
number = choice (begins (codes "-")) negative positive
