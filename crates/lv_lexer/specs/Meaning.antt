-- What a token says.
use Rattle.std.specs.Prelude.{ℕ, ◌+◌, ◌-◌, ◌&&◌, ◌==◌, List, [], ◌∷◌, length, slice_range, Option, Some, None, if◌then◌else◌}
use Rattle.std.specs.Str.{str_to_ascii_lowercase}
use Rattle.std.specs.Str.Parse.{digits_value}
use Rattle.lv_lexer.specs.declared.terminals.Class.{Class}
use Rattle.lv_lexer.specs.declared.terminals.Class.TheVariants as k
use Rattle.lv_lexer.specs.declared.terminals.Terminal.{Terminal}
use Rattle.lv_lexer.specs.declared.token.Token.{Token}
use Rattle.lv_lexer.specs.declared.token.TokenKind.{TokenKind}
use Rattle.lv_lexer.specs.declared.token.TokenKind.TheVariants.{Word, Number, Text, Sign}
use Rattle.lv_lexer.specs.Keywords.{keyword_of}
use Rattle.lv_lexer.specs.Scan.{text_in}
use Rattle.lv_lexer.specs.Signs.{sign_at}

-- two quotes, one after the other, become one
abbrev pub undoubled : List ℕ → List ℕ
undoubled [] = []
undoubled (b ∷ []) = b ∷ []
undoubled (b ∷ c ∷ bytes) = if b == 39 && c == 39 then 39 ∷ undoubled bytes else b ∷ undoubled (c ∷ bytes)

-- what a text between quotes says
abbrev pub unquoted : List ℕ → List ℕ
unquoted bytes = undoubled (slice_range bytes 1 (length bytes - 1))

-- a token of this class at this byte of the line, with nothing more to say
abbrev pub plain_at : ℕ → Class → Terminal
plain_at byte class = record { class = class; text = []; number = 0; byte = byte }

-- a word in lower case: a keyword, or else a name
abbrev pub word_at : ℕ → List ℕ → Option Class → Terminal
word_at byte word (Some keyword) = plain_at byte keyword
word_at byte word None = record { class = k.Name; text = word; number = 0; byte = byte }

-- the sign that the bytes spell
abbrev pub sign_of : Option (Class × ℕ) → Class
sign_of (Some found) = found.0
sign_of None = k.Dot

-- what these bytes say, where they spell a token of this kind and stand at this byte of the line
abbrev pub said : TokenKind → List ℕ → ℕ → Terminal
said Word bytes byte = word_at byte (str_to_ascii_lowercase bytes) (keyword_of (str_to_ascii_lowercase bytes))
said Number bytes byte = record { class = k.Number; text = []; number = digits_value 10 bytes; byte = byte }
said Text bytes byte = record { class = k.Quoted; text = unquoted bytes; number = 0; byte = byte }
said Sign bytes byte = plain_at byte (sign_of (sign_at bytes))

-- what a token of the line says; its byte counts from 1
abbrev pub terminal_of : List ℕ → Token → Terminal
terminal_of line t = said t.kind (text_in line t) (t.start + 1)
