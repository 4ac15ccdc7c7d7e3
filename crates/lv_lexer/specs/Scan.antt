-- The tokens of a line.
use Rattle.std.specs.Prelude.{◌≡◌, ℕ, ◌+◌, ◌-◌, ◌≤◌, ◌<◌, Bool, true, false, nat_eq, List, [], ◌∷◌, length, slice_range, drop, Option, Some, None, codes}
use Rattle.std.specs.List.{starts_with, prefix_len}
use Rattle.lv_values.specs.Names.{is_blank}
use Rattle.lv_lexer.specs.declared.token.Token.{Token}
use Rattle.lv_lexer.specs.declared.token.TokenKind.{TokenKind}
use Rattle.lv_lexer.specs.Piece.{piece}

-- whether no token comes any more: the line ends, or `--` begins a comment, which ends with the line
abbrev pub is_over : List ℕ → Bool
is_over [] = true
is_over (b ∷ bytes) = starts_with nat_eq (b ∷ bytes) (codes "--")

-- without the blanks in front
abbrev pub after_blanks : List ℕ → List ℕ
after_blanks bytes = drop (prefix_len is_blank bytes) bytes

-- The bytes, which stand in the line from this offset on, have these tokens between blanks. Then the line is over,
-- or a piece stands at this offset that is no token.
abbrev pub Scans : ℕ → List ℕ → List Token → Option ℕ → Type 0
Scans at bytes [] None = is_over (after_blanks bytes) ≡ true
Scans at bytes [] (Some stop) =
    (is_over (after_blanks bytes) ≡ false) × (piece (after_blanks bytes) ≡ None) × (stop ≡ at + prefix_len is_blank bytes)
Scans at bytes (t ∷ more) stopped =
    (is_over (after_blanks bytes) ≡ false) × (piece (after_blanks bytes) ≡ Some (t.kind, t.end - t.start))
    × (t.start ≡ at + prefix_len is_blank bytes) × (t.start ≤ t.end)
    × Scans t.end (drop (t.end - t.start) (after_blanks bytes)) more stopped

-- the bytes of a token
abbrev pub text_in : List ℕ → Token → List ℕ
text_in line t = slice_range line t.start t.end

-- these bytes, all of them, are one token of this kind
abbrev pub Spells : List ℕ → TokenKind → Type 0
Spells bytes kind = piece bytes ≡ Some (kind, length bytes)

-- a token of the line: its bytes lie in the line and spell its kind
pub record IsTokenOf (line : List ℕ) (t : Token) : Type 0 where
  pub order : t.start < t.end
  pub within : t.end ≤ length line
  pub spelled : Spells (text_in line t) t.kind

-- Tokens in order, from this offset on and up to the line's length: each has bytes and begins where the one before
-- ends, or later. What is no token stands behind them.
abbrev pub AreInOrder : ℕ → ℕ → List Token → Option ℕ → Type 0
AreInOrder len at [] None = at ≤ len
AreInOrder len at [] (Some stop) = (at ≤ stop) × (stop < len)
AreInOrder len at (t ∷ more) stopped = (at ≤ t.start) × (t.start < t.end) × AreInOrder len t.end more stopped
