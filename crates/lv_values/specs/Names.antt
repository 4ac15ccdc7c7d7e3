-- Which bytes are blanks, and which stand in words; which words are keywords, and which are names.
use Rattle.std.specs.Prelude.{ℕ, Bool, false, not, ◌&&◌, ◌||◌, ◌==◌, nat_le, List, [], ◌∷◌, length, codes}
use Rattle.std.specs.Char.{is_ascii_alphabetic, is_ascii_lowercase, is_ascii_digit}
use Rattle.std.specs.List.{list_all, list_any}
use Rattle.std.specs.Str.{bytes_eq}

-- a space or a tab
abbrev pub is_blank : ℕ → Bool
is_blank b = b == 32 || b == 9

-- a letter or _, with which a word begins, and what it goes on with
abbrev pub is_letter : ℕ → Bool
is_letter b = is_ascii_alphabetic b || b == 95

abbrev pub is_word_byte : ℕ → Bool
is_word_byte b = is_letter b || is_ascii_digit b

-- the same of a word in lower case
abbrev pub begins_name : ℕ → Bool
begins_name b = is_ascii_lowercase b || b == 95

abbrev pub continues_name : ℕ → Bool
continues_name b = begins_name b || is_ascii_digit b

-- a letter or _ and then letters, digits and _, in lower case
abbrev pub is_word : List ℕ → Bool
is_word [] = false
is_word (b ∷ bytes) = begins_name b && list_all continues_name bytes

-- such a word of at most 32 bytes
abbrev pub is_lower_name : List ℕ → Bool
is_lower_name name = is_word name && nat_le (length name) 32

-- the words of the language, which are no names
abbrev pub keywords : List (List ℕ)
keywords =
    codes "and" ∷ codes "as" ∷ codes "asc" ∷ codes "begin" ∷ codes "by" ∷ codes "commit" ∷ codes "count" ∷ codes "create"
    ∷ codes "delete" ∷ codes "desc" ∷ codes "drop" ∷ codes "from" ∷ codes "group" ∷ codes "inner" ∷ codes "insert"
    ∷ codes "int" ∷ codes "into" ∷ codes "is" ∷ codes "join" ∷ codes "key" ∷ codes "max" ∷ codes "min" ∷ codes "not"
    ∷ codes "null" ∷ codes "on" ∷ codes "or" ∷ codes "order" ∷ codes "primary" ∷ codes "rollback" ∷ codes "select"
    ∷ codes "set" ∷ codes "show" ∷ codes "sum" ∷ codes "table" ∷ codes "tasks" ∷ codes "text" ∷ codes "update"
    ∷ codes "values" ∷ codes "view" ∷ codes "where" ∷ []

-- whether a name is among names
abbrev pub has_name : List ℕ → List (List ℕ) → Bool
has_name name names = list_any (bytes_eq name) names

-- what a table, a view, a column or a list item may be called
abbrev pub is_name : List ℕ → Bool
is_name name = is_lower_name name && not (has_name name keywords)
