-- The printed form of values and rows.
use Rattle.std.specs.Prelude.{◌≡◌, ℕ, ◌≤◌, List, [], ◌∷◌, ◌++◌, codes, cond, length, take, ◌==◌}
use Rattle.std.specs.Fmt.{signed_decimal}
use Rattle.lv_values.specs.declared.value.Value.{Value}
use Rattle.lv_values.specs.declared.value.Value.TheVariants.{Num, Text}

-- each quote twice
abbrev pub doubled : List ℕ → List ℕ
doubled [] = []
doubled (x ∷ xs) = cond (x == 39) (39 ∷ 39 ∷ doubled xs) (x ∷ doubled xs)

-- between quotes, each quote of the text twice
abbrev pub quoted : List ℕ → List ℕ
quoted t = codes "'" ++ doubled t ++ codes "'"

-- a number in decimal, a text between quotes
abbrev pub value_text : Value → List ℕ
value_text (Num n) = signed_decimal n
value_text (Text t) = quoted t

-- the values, each behind this separator
abbrev pub values_behind : List ℕ → List Value → List ℕ
values_behind separator [] = []
values_behind separator (v ∷ vs) = separator ++ value_text v ++ values_behind separator vs

-- the values, joined by this separator
abbrev pub values_text : List ℕ → List Value → List ℕ
values_text separator [] = []
values_text separator (v ∷ vs) = value_text v ++ values_behind separator vs

-- a row's line: a bar, the values joined by bars, a line feed
abbrev pub row_line : List Value → List ℕ
row_line row = codes "| " ++ values_text (codes " | ") row ++ codes "\n"

-- what was there stands in front of what is there now
abbrev pub StaysInFront : List ℕ → List ℕ → Type 0
StaysInFront old new = (n : ℕ) → n ≤ length old → take n new ≡ take n old
