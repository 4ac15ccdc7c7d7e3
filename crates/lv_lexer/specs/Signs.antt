-- The signs, and which of them begins some bytes.
use Rattle.std.specs.Prelude.{ℕ, nat_eq, List, [], ◌∷◌, ◌++◌, length, Option, Some, None, if◌then◌else◌, codes}
use Rattle.std.specs.List.{starts_with}
use Rattle.lv_lexer.specs.declared.terminals.Class.{Class}
use Rattle.lv_lexer.specs.declared.terminals.Class.TheVariants as k

-- the signs of two bytes, each with its spelling
abbrev pub long_signs : List (List ℕ × Class)
long_signs =
    (codes "<>", k.NotEqual) ∷ (codes "!=", k.NotEqual) ∷ (codes "<=", k.LessEqual) ∷ (codes ">=", k.GreaterEqual) ∷ []

-- the signs of one byte, each with its spelling
abbrev pub short_signs : List (List ℕ × Class)
short_signs =
    (codes "(", k.LeftParen) ∷ (codes ")", k.RightParen) ∷ (codes ",", k.Comma) ∷ (codes ";", k.Semicolon)
    ∷ (codes ".", k.Dot) ∷ (codes "*", k.Star) ∷ (codes "+", k.Plus) ∷ (codes "-", k.Minus)
    ∷ (codes "=", k.Equal) ∷ (codes "<", k.Less) ∷ (codes ">", k.Greater) ∷ []

-- the first of these that begins the bytes, with its length
abbrev pub first_fit : List (List ℕ × Class) → List ℕ → Option (Class × ℕ)
first_fit [] bytes = None
first_fit (spelling ∷ more) bytes = if starts_with nat_eq bytes spelling.0 then Some (spelling.1, length spelling.0) else first_fit more bytes

-- the longest sign that begins the bytes, with its length
abbrev pub sign_at : List ℕ → Option (Class × ℕ)
sign_at bytes = first_fit (long_signs ++ short_signs) bytes
