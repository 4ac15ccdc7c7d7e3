-- Forms of names, texts, values, rows and keys.
use Rattle.std.specs.Prelude.{ℕ, ◌<◌, ◌^◌, ◌&&◌, ◌==◌, List, length, codes}
use Rattle.std.specs.Char.{is_ascii_digit}
use Rattle.lv_values.specs.declared.value.Value.{Value}
use Rattle.lv_values.specs.Print.{value_text}
use Rattle.lv_reading.specs.Reading.{stops}
use Rattle.lv_forms.specs.Forms.{Form, after, ended, joined}
use Rattle.lv_values.specs.Names.{continues_name}
use Rattle.lv_lines.specs.Entries.{IsWord, IsValue}
use Rattle.lv_lines.specs.Words.{name_of, name_in, own_word, value}

-- a name of these, by its place
abbrev pub name : List (List ℕ) → Form ℕ
name names = record { text = name_of names; Fits = λ i. (i < length names) × (i < 2 ^ 32); read = name_in names; ends = stops continues_name }

-- a word that stands for itself
abbrev pub own : Form (List ℕ)
own = record { text = λ w. w; Fits = IsWord; read = own_word; ends = stops continues_name }

-- a number, or a text between quotes
abbrev pub any_value : Form Value
any_value = record { text = value_text; Fits = IsValue; read = value; ends = λ rest. stops is_ascii_digit rest && stops (λ b. b == 39) rest }

abbrev pub row : Form (List Value)
row = after (codes "| ") (ended (joined (codes " | ") any_value) (codes "\n"))

abbrev pub key : Form (List Value)
key = after (codes "(") (ended (joined (codes ", ") any_value) (codes ")"))
