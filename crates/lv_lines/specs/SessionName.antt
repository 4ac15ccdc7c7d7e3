-- Names as scripts spell them, and the numbers of sessions.
use Rattle.std.specs.Prelude.{ℕ, ◌+◌, Bool, false, ◌&&◌, nat_le, if◌then◌else◌, List, [], ◌∷◌, length, Option, Some, None}
use Rattle.std.specs.List.{list_all}
use Rattle.std.specs.Str.{str_to_ascii_lowercase}
use Rattle.lv_values.specs.Names.{is_letter, is_word_byte, is_lower_name}
use Rattle.lv_plain.specs.declared.program.Script.{Script}
use Rattle.lv_lines.specs.ScriptLine.{reads}

-- a name in any case, which is kept in lower case
abbrev pub is_name : List ℕ → Bool
is_name word = is_lower_name (str_to_ascii_lowercase word)

-- ---- the same by the bytes as they are spelled

-- a letter or _ followed by letters, digits and _, all ASCII, of 1 to 32 bytes
abbrev pub is_spelled : List ℕ → Bool
is_spelled [] = false
is_spelled (b ∷ bytes) = is_letter b && (list_all is_word_byte bytes && nat_le (length bytes) 31)

-- ---- sessions

-- the number of the session of this name, in any case, where the first of these sessions has this number
abbrev pub session_from : ℕ → List Script → List ℕ → Option ℕ
session_from number [] word = None
session_from number (s ∷ sessions) word = if reads word s.name then Some number else session_from (number + 1) sessions word

-- sessions are numbered from 1
abbrev pub session_of : List Script → List ℕ → Option ℕ
session_of sessions word = session_from 1 sessions word
