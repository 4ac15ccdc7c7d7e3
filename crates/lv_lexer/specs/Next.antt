-- What comes next in a line.
use Rattle.std.specs.Prelude.{ℕ, ◌≤◌, List, [], ◌∷◌, drop, Option}
use Rattle.lv_lexer.specs.declared.scanning.Next.{Next}
use Rattle.lv_lexer.specs.declared.scanning.Next.TheVariants as variant
use Rattle.lv_lexer.specs.declared.token.Token.{Token}
use Rattle.lv_lexer.specs.declared.token.TokenKind.{TokenKind}
use Rattle.lv_lexer.specs.Scan.{Scans, IsTokenOf}

-- the token of this kind from one byte of a line up to another
abbrev pub token_at : TokenKind → ℕ → ℕ → Token
token_at kind start end = record { kind = kind; start = start; end = end }

-- The line has this token next from this offset on, and behind it what it has from the token's end on.
abbrev pub NextIs : List ℕ → ℕ → Token → Type 0
NextIs line at t =
    (at ≤ t.start) × IsTokenOf line t
    × ((more : List Token) (stopped : Option ℕ) → Scans t.end (drop t.end line) more stopped → Scans at (drop at line) (t ∷ more) stopped)

-- a token is next, or none is
abbrev pub IsNext : List ℕ → ℕ → Next → Type 0
IsNext line at (variant.Token kind start end) = NextIs line at (token_at kind start end)
IsNext line at (variant.End stopped) = Scans at (drop at line) [] stopped
