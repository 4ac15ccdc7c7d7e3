-- Where a list of tokens stops being a statement.
use Rattle.std.specs.Prelude.{◌≡◌, ℕ, Bool, true, List, [], ◌∷◌, ◌⊎◌, Result, Ok, Err}
use Rattle.lv_parser.specs.declared.stop.ParseFault.{ParseFault}
use Rattle.lv_parser.specs.declared.stop.ParseFault.TheVariants.{Syntax, NoMemory}
use Rattle.lv_lexer.specs.declared.terminals.Terminal.{Terminal}
use Rattle.lv_parser.specs.Rule.{Rule}

-- the first list is the end of the second
abbrev pub IsEnd : List Terminal → List Terminal → Type 0
IsEnd rest [] = rest ≡ []
IsEnd rest (t ∷ all) = (rest ≡ t ∷ all) ⊎ IsEnd rest all

-- the byte of the next token, or where there is none this one
abbrev pub byte_of : ℕ → List Terminal → ℕ
byte_of end [] = end
byte_of end (t ∷ rest) = t.byte

-- All tokens before `rest` can stand, and the first of `rest` cannot.
pub record Stops {A : Type 0} (rule : Rule A) (all rest : List Terminal) : Type 0 where
  pub within : IsEnd rest all
  pub before : (t : Terminal) (r : List Terminal) → IsEnd rest r → IsEnd (t ∷ r) all → rule.front all r
  pub next : (t : Terminal) (r : List Terminal) → rest ≡ t ∷ r → rule.front all r → ⊥

-- No reading of the rule is these tokens, with the line's end behind them where that is so. And this is the byte of
-- the first token that cannot stand, or of the end where all can.
pub record IsFault {A : Type 0} (rule : Rule A) (all : List Terminal) (ends : Bool) (end byte : ℕ) : Type 0 where
  pub none : (a : A) → ends ≡ true → rule.reads all a [] → ⊥
  pub first : (rest : List Terminal) × Stops rule all rest × (byte ≡ byte_of end rest)

-- What is answered for these tokens. The line ends behind them, or what is no token stands there; `end` is its byte.
abbrev pub IsAnswer : {A : Type 0} → Rule A → List Terminal → Bool → ℕ → Result A ParseFault → Type 0
IsAnswer rule all ends end (Ok a) = (ends ≡ true) × rule.reads all a []
IsAnswer rule all ends end (Err (Syntax byte)) = IsFault rule all ends end byte
IsAnswer rule all ends end (Err NoMemory) = Unit {0}
