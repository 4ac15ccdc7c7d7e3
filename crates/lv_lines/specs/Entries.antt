-- Which names and which values a transcript can have.
use Rattle.std.specs.Prelude.{◌≡◌, ℕ, true, not, ◌==◌, List, length, IsUtf8}
use Rattle.std.specs.List.{AllByRecursion, IsDistinct, list_all}
use Rattle.std.specs.Str.{bytes_eq}
use Rattle.lv_values.specs.Names.{is_word}
use Rattle.lv_values.specs.declared.value.Value.{Value}
use Rattle.lv_values.specs.declared.value.Value.TheVariants.{Num, Text}
use Rattle.lv_reading.specs.Numbers.{IsWide}
use Rattle.lv_plain.specs.declared.entry.Entry.{Entry}
use Rattle.lv_plain.specs.Named.{Counts, AreNamed, IsNamedEntry}
use Rattle.lv_lines.specs.declared.names.Names.{Names}

-- ---- names

abbrev pub IsWord : List ℕ → Type 0
IsWord w = is_word w ≡ true

-- words that differ
abbrev pub AreWords : List (List ℕ) → Type 0
AreWords names = AllByRecursion IsWord names × IsDistinct bytes_eq names

pub record IsNames (names : Names) : Type 0 where
  pub sessions : AreWords names.sessions
  pub tables : AreWords names.tables
  pub views : AreWords names.views

-- ---- each number of a session, a table or a view has a name

abbrev pub numbers_in_use : Names → Counts
numbers_in_use names = record { sessions = length names.sessions; tables = length names.tables; views = length names.views }

abbrev pub HasNames : Names → Entry → Type 0
HasNames names entry = IsNamedEntry (numbers_in_use names) entry

abbrev pub HaveNames : Names → List Entry → Type 0
HaveNames names entries = AreNamed (numbers_in_use names) entries

-- ---- what a text can give back

-- a number of 128 bits, or a text without a line feed
abbrev pub IsValue : Value → Type 0
IsValue (Num number) = IsWide number
IsValue (Text text) = IsUtf8 text × (list_all (λ b. not (b == 10)) text ≡ true)
