-- The classes of tokens as numbers, and sets of them.
use Rattle.std.specs.Prelude.{ℕ, Bool, false, ◌||◌, nat_eq, List, [], ◌∷◌}
use Rattle.lv_lexer.specs.declared.terminals.Class.{Class}
use Rattle.lv_lexer.specs.contracts.terminals.Class.{the_type}
use denote.Enum.Declared.{tag_of}
use Rattle.lv_lexer.specs.declared.terminals.Terminal.{Terminal}

-- the number of a class, in the order of its enum
abbrev pub code : Class → ℕ
code = tag_of the_type

unfoldable pub same : Class → Class → Bool
same a b = nat_eq (code a) (code b)

abbrev pub member : ℕ → List ℕ → Bool
member n [] = false
member n (k ∷ ks) = nat_eq n k || member n ks

-- whether the next token is of one of these classes
abbrev pub starts : List ℕ → List Terminal → Bool
starts ks [] = false
starts ks (t ∷ rest) = member (code t.class) ks
