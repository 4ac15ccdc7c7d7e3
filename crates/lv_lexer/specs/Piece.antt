-- The token that begins some bytes. Its kind is told by the first byte, and it is the longest of that kind.
use Rattle.std.specs.Prelude.{ℕ, ◌+◌, if◌then◌else◌, ◌==◌, nat_le, List, [], ◌∷◌, Option, Some, None, option_map}
use Rattle.std.specs.Char.{is_ascii_digit}
use Rattle.std.specs.List.{prefix_len}
use Rattle.lv_values.specs.Names.{is_letter, is_word_byte}
use Rattle.lv_lexer.specs.declared.token.TokenKind.{TokenKind}
use Rattle.lv_lexer.specs.declared.token.TokenKind.TheVariants.{Word, Number, Text, Sign}
use Rattle.lv_lexer.specs.Signs.{sign_at}

-- How many bytes a text has from behind its first quote up to its last, with that. Two quotes inside stand for one,
-- so the last quote is the first that no other follows.
abbrev pub closing : List ℕ → Option ℕ
closing [] = None
closing (b ∷ []) = if b == 39 then Some 1 else None
closing (b ∷ c ∷ bytes) =
    if b == 39 then (if c == 39 then option_map (λ n. 2 + n) (closing bytes) else Some 1) else option_map (λ n. 1 + n) (closing (c ∷ bytes))

-- a run of more than 38 digits is no number
abbrev pub number_of : ℕ → Option (TokenKind × ℕ)
number_of digits = if nat_le digits 38 then Some (Number, digits) else None

-- the kind and the length of the token in front, where one is there
unfoldable pub piece : List ℕ → Option (TokenKind × ℕ)
piece [] = None
piece (b ∷ bytes) =
    if is_letter b then Some (Word, 1 + prefix_len is_word_byte bytes)
    else if is_ascii_digit b then number_of (1 + prefix_len is_ascii_digit bytes)
    else if b == 39 then option_map (λ n. (Text, 1 + n)) (closing bytes)
    else option_map (λ found. (Sign, found.1)) (sign_at (b ∷ bytes))
