-- Words, names, texts and values, as they are read.
use Rattle.std.specs.Prelude.{ℕ, ◌+◌, ◌^◌, Bool, not, ◌&&◌, ◌==◌, List, codes, Option, Some, None, slice_index, position}
use Rattle.std.specs.Char.{is_ascii_digit}
use Rattle.std.specs.List.{list_all, prefix_len}
use Rattle.std.specs.Str.{bytes_eq, is_utf8}
use Rattle.lv_values.specs.Names.{continues_name, is_word}
use Rattle.lv_values.specs.declared.value.Value.{Value}
use Rattle.lv_values.specs.declared.value.Value.TheVariants.{Num, Text}
use Rattle.lv_reading.specs.Reading.{Reader, ◌>>=◌, ◌>>◌, pure, given, check, below, choose, choice, begins, expect, byte, run, until}
use Rattle.lv_reading.specs.Numbers.{number}
pub use Rattle.lv_lines.specs.Transcript.{name_of}

-- ---- words and names

-- the letters, digits and _ that come next
unfoldable pub word : Reader (List ℕ)
word = run continues_name

-- how many of them come next
abbrev pub word_len : List ℕ → ℕ
word_len bytes = prefix_len continues_name bytes

-- whether a digit begins the second word: so only a statement's line begins, or that of a clean-up
abbrev pub is_numbered : List ℕ → Bool
is_numbered bytes = is_ascii_digit (slice_index bytes (word_len bytes + 1))

-- the number of the name: its place, from 0
unfoldable pub place_in : List (List ℕ) → List ℕ → Reader ℕ
place_in names w = do
  place ← given (position (λ name. bytes_eq name w) names)
  below (2 ^ 32) place

unfoldable pub name_in : List (List ℕ) → Reader ℕ
name_in names = word >>= place_in names

-- the word itself, where it is one
unfoldable pub own : List ℕ → Reader (List ℕ)
own w = check (is_word w && is_utf8 w) w

unfoldable pub own_word : Reader (List ℕ)
own_word = word >>= own

-- ---- texts and values

-- a byte of a text, two quotes being one; or the quote at its end
unfoldable pub quoted_byte : Reader (Option ℕ)
quoted_byte = byte >>= λ b. choose (b == 39) (choice (begins (codes "'")) (expect (codes "'") >> pure (Some 39)) (pure None)) (pure (Some b))

-- the text itself, where it is one
unfoldable pub text_of : List ℕ → Reader (List ℕ)
text_of bytes = check (list_all (λ b. not (b == 10)) bytes && is_utf8 bytes) bytes

-- a text up to the quote at its end
unfoldable pub quoted : Reader (List ℕ)
quoted = until quoted_byte >>= text_of

unfoldable pub text_value : Reader Value
text_value = do
  expect (codes "'")
  text ← quoted
  pure (Text text)

unfoldable pub value : Reader Value
value = choice (begins (codes "'")) text_value (number >>= λ n. pure (Num n))
