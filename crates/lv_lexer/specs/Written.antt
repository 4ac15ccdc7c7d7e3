-- Tokens as they are written to a line.
use Rattle.std.specs.Prelude.{◌≡◌, ℕ, Bool, true, false, not, ◌&&◌, ◌||◌, ◌==◌, List, [], ◌∷◌, ◌++◌, slice_index, fold, refl, codes, decimal}
use Rattle.std.specs.Coded.{Coded, code_by, coded×, coded_ℕ, coded_list, coded_bool}
use Rattle.lv_values.specs.Print.{quoted}
use Rattle.lv_lexer.specs.declared.token.TokenKind.{TokenKind}
use Rattle.lv_lexer.specs.declared.token.TokenKind.TheVariants.{Word, Number, Text, Sign}
use Rattle.lv_lexer.specs.declared.token.Token.{Token}
use Rattle.lv_lexer.specs.Scan.{Spells, text_in}

-- a token to be written: its kind and its spelling
pub record Lexeme : Type 0 where
  pub kind : TokenKind
  pub text : List ℕ

abbrev pub word : List ℕ → Lexeme
word text = record { kind = Word; text = text }

abbrev pub number : ℕ → Lexeme
number n = record { kind = Number; text = decimal n }

abbrev pub text : List ℕ → Lexeme
text t = record { kind = Text; text = quoted t }

abbrev pub sign : List ℕ → Lexeme
sign text = record { kind = Sign; text = text }

abbrev pub is_word : TokenKind → Bool
is_word Word = true
is_word _ = false

-- what is written of a line, and whether a word stands at its end
pub record Written : Type 0 where
  pub line : List ℕ
  pub after_word : Bool

abbrev pub written_code : Coded Written
written_code = code_by (List ℕ × Bool) (coded× (coded_list coded_ℕ) coded_bool) (λ w. (w.line, w.after_word)) (λ p. record { line = p.0; after_word = p.1 }) (λ _. refl)

abbrev pub space_if : Bool → List ℕ
space_if true = codes " "
space_if false = []

-- one space between a word and a word or number behind it, and nothing between other tokens
abbrev pub gap : Bool → TokenKind → List ℕ
gap after_word Word = space_if after_word
gap after_word Number = space_if after_word
gap after_word Text = []
gap after_word Sign = []

-- one token more
abbrev pub with_token : Written → Lexeme → Written
with_token w x = record { line = w.line ++ gap w.after_word x.kind ++ x.text; after_word = is_word x.kind }

-- these tokens more
abbrev pub with_tokens : Written → List Lexeme → Written
with_tokens = fold with_token

-- nothing so far
abbrev pub nothing : Written
nothing = record { line = []; after_word = false }

-- the line of these tokens
abbrev pub line_of : List Lexeme → List ℕ
line_of xs = (with_tokens nothing xs).line

-- Whether one sign can stand right behind another, told by their first bytes: they make no longer sign, and no comment.
abbrev pub signs_part : ℕ → ℕ → Bool
signs_part a b = not (b == 61 || b == 62 || a == 45 && b == 45)

-- whether one token can be written behind another, so that both are read again
abbrev pub can_follow : Lexeme → Lexeme → Bool
can_follow x y = parts x.kind y.kind
  where
    parts : TokenKind → TokenKind → Bool
    parts Number Number = false
    parts Text Text = false
    parts Sign Sign = signs_part (slice_index x.text 0) (slice_index y.text 0)
    parts _ _ = true

-- each spells its kind and can stand behind the one before
abbrev pub CanBeRead : List Lexeme → Type 0
CanBeRead [] = Unit {0}
CanBeRead (x ∷ []) = Spells x.text x.kind
CanBeRead (x ∷ y ∷ more) = Spells x.text x.kind × (can_follow x y ≡ true) × CanBeRead (y ∷ more)

-- a token of the line that is this one
pub record IsWritten (line : List ℕ) (t : Token) (x : Lexeme) : Type 0 where
  pub kind : t.kind ≡ x.kind
  pub text : text_in line t ≡ x.text

-- tokens of the line that are these, one by one
abbrev pub AreWritten : List ℕ → List Token → List Lexeme → Type 0
AreWritten line [] [] = Unit {0}
AreWritten line [] (x ∷ xs) = ⊥
AreWritten line (t ∷ ts) [] = ⊥
AreWritten line (t ∷ ts) (x ∷ xs) = IsWritten line t x × AreWritten line ts xs
