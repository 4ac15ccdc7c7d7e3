-- The lines of a script, and what a line says.
use Rattle.std.specs.Prelude.{ℕ, ◌-◌, Bool, true, false, ◌&&◌, not, ◌==◌, if◌then◌else◌, List, [], ◌∷◌, map, filter, take, drop, length, codes, slice_index}
use Rattle.std.specs.List.{slice_split, prefix_len, onto_first}
use Rattle.std.specs.Str.{bytes_eq, str_to_ascii_lowercase}
use Rattle.lv_values.specs.Names.{is_blank}

-- ---- lines

-- what line feeds end, without them; the last piece may lack its line feed
abbrev pub pieces_of : List ℕ → List (List ℕ)
pieces_of [] = []
pieces_of (b ∷ bytes) = if b == 10 then [] ∷ pieces_of bytes else onto_first b (pieces_of bytes)

-- a line without the carriage return at its end
abbrev pub without_return : List ℕ → List ℕ
without_return line = if slice_index line (length line - 1) == 13 then take (length line - 1) line else line

-- the lines of a script, without their ends
abbrev pub lines_of : List ℕ → List (List ℕ)
lines_of bytes = map without_return (pieces_of bytes)

-- how many bytes stand before the first line feed
abbrev pub piece_len : List ℕ → ℕ
piece_len bytes = prefix_len (λ b. not (b == 10)) bytes

-- ---- words

abbrev pub indent_len : List ℕ → ℕ
indent_len line = prefix_len is_blank line

-- what stands behind the blanks that a line begins with
abbrev pub unindented : List ℕ → List ℕ
unindented line = drop (indent_len line) line

abbrev pub word_len : List ℕ → ℕ
word_len text = prefix_len (λ b. not (is_blank b)) text

abbrev pub first_word : List ℕ → List ℕ
first_word text = take (word_len text) text

abbrev pub behind_word : List ℕ → List ℕ
behind_word text = drop (word_len text) text

abbrev pub has_bytes : List ℕ → Bool
has_bytes [] = false
has_bytes (b ∷ bytes) = true

-- what stands between blanks
abbrev pub words_of : List ℕ → List (List ℕ)
words_of text = filter has_bytes (slice_split is_blank text)

-- whether the word is this one, in any case
abbrev pub reads : List ℕ → List ℕ → Bool
reads word text = bytes_eq (str_to_ascii_lowercase word) (str_to_ascii_lowercase text)

-- ---- what a line says

pub data Said : Type 0 where
  nothing : Said  -- a blank line, or a comment
  setup : Said
  session : List ℕ → Said  -- the name as it is written, empty where there is none
  order : List (List ℕ) → Said  -- the words of its items
  wrong : Said  -- it begins with @ and is no section line
  statement : Said

abbrev pub said_setup : List (List ℕ) → Said
said_setup [] = setup
said_setup words = wrong

abbrev pub said_session : List (List ℕ) → Said
said_session [] = session []
said_session (name ∷ []) = session name
said_session words = wrong

-- by the section word, in any case, and the words behind it
abbrev pub said_section : List ℕ → List (List ℕ) → Said
said_section word words =
    if reads word (codes "@setup") then said_setup words
    else (if reads word (codes "@session") then said_session words
    else (if reads word (codes "@order") then order words else wrong))

-- nothing, or a comment
abbrev pub is_silent : List ℕ → Bool
is_silent [] = true
is_silent (a ∷ b ∷ bytes) = (a == 45) && (b == 45)
is_silent bytes = false

-- begins with @
abbrev pub is_section : List ℕ → Bool
is_section [] = false
is_section (a ∷ bytes) = a == 64

-- by what stands behind the blanks
abbrev pub said_by : List ℕ → Said
said_by text =
    if is_silent text then nothing
    else (if is_section text then said_section (first_word text) (words_of (behind_word text)) else statement)

abbrev pub said : List ℕ → Said
said line = said_by (unindented line)
