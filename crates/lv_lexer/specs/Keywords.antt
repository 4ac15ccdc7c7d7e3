-- The classes of the keywords, and which of them a word is.
use Rattle.std.specs.Prelude.{ℕ, map, List, [], ◌∷◌, Option, Some, None, if◌then◌else◌}
use Rattle.std.specs.List.{zip}
use Rattle.std.specs.Str.{bytes_eq, str_to_ascii_lowercase}
use Rattle.std.specs.Borrow.{Bor}
use Rattle.lv_values.specs.Names.{keywords}
use Rattle.lv_lexer.specs.declared.terminals.Class.{Class}
use Rattle.lv_lexer.specs.declared.terminals.Class.TheVariants as k

-- the classes of the keywords, in the same order
abbrev pub classes : List Class
classes =
    k.And ∷ k.As ∷ k.Asc ∷ k.Begin ∷ k.By ∷ k.Commit ∷ k.Count ∷ k.Create ∷ k.Delete ∷ k.Desc ∷ k.Drop ∷ k.From ∷ k.Group ∷ k.Inner
    ∷ k.Insert ∷ k.Int ∷ k.Into ∷ k.Is ∷ k.Join ∷ k.Key ∷ k.Max ∷ k.Min ∷ k.Not ∷ k.Null ∷ k.On ∷ k.Or ∷ k.Order ∷ k.Primary
    ∷ k.Rollback ∷ k.Select ∷ k.Set ∷ k.Show ∷ k.Sum ∷ k.Table ∷ k.Tasks ∷ k.Text ∷ k.Update ∷ k.Values ∷ k.View ∷ k.Where ∷ []

-- each keyword with its class
abbrev pub spellings : List (List ℕ × Class)
spellings = zip keywords classes

-- the keyword among these that a word in lower case spells
abbrev pub spelled_by : List (List ℕ × Class) → List ℕ → Option Class
spelled_by [] word = None
spelled_by (keyword ∷ more) word = if bytes_eq keyword.0 word then Some keyword.1 else spelled_by more word

-- a table of the code as such a table
abbrev pub in_lower_case : List (Bor (List ℕ) × Class) → List (List ℕ × Class)
in_lower_case table = map (λ entry. (str_to_ascii_lowercase entry.0.now, entry.1)) table

-- the keyword that a word in lower case is
unfoldable pub keyword_of : List ℕ → Option Class
keyword_of word = spelled_by spellings word
