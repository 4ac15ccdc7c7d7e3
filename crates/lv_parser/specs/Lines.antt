-- What a line reads as, and where it stops being a statement.
use Rattle.std.specs.Prelude.{◌≡◌, ℕ, ◌+◌, List, [], length, map, Option, Some, None}
use Rattle.lv_lexer.specs.declared.token.Token.{Token}
use Rattle.lv_lexer.specs.declared.terminals.Terminal.{Terminal}
use Rattle.lv_lexer.specs.Scan.{Scans}
use Rattle.lv_lexer.specs.Meaning.{terminal_of}
use Rattle.lv_parser.specs.declared.tree.Stmt.{Stmt}
use Rattle.lv_parser.specs.Grammar as rule
use Rattle.lv_parser.specs.Fault.{Stops, byte_of}

-- the tokens of the line, as the grammar sees them
abbrev pub said : List ℕ → List Token → List Terminal
said line tokens = map (terminal_of line) tokens

-- The line is these tokens from its begin to its end, and they are a reading of the rule `line` that gives this statement.
pub record ReadsAs (line : List ℕ) (stmt : Stmt) : Type 0 where
  pub tokens : List Token
  pub scan : Scans 0 line tokens None
  pub reading : rule.line.reads (said line tokens) stmt []

-- The byte, counted from 1, of what follows the last token: of the piece that is no token, or else of the line's end.
abbrev pub end_byte : List ℕ → Option ℕ → ℕ
end_byte line None = length line + 1
end_byte line (Some stop) = stop + 1

-- The line is no statement. The tokens before this byte can stand, and what begins at it cannot: a token, a piece that
-- is no token, or the line's end where all tokens can stand.
pub record IsFaultAt (line : List ℕ) (byte : ℕ) : Type 0 where
  pub none : (stmt : Stmt) → ReadsAs line stmt → ⊥
  pub tokens : List Token
  pub stopped : Option ℕ
  pub scan : Scans 0 line tokens stopped
  pub rest : List Terminal
  pub stops : Stops rule.line (said line tokens) rest
  pub place : byte ≡ byte_of (end_byte line stopped) rest
