-- What a list of words says. A word is its bytes: 45 is a minus, and 61 a '='.
use Rattle.std.specs.Prelude.{Bool, false, ◌==◌, ◌&&◌, if◌then◌else◌, List, [], ◌∷◌, Option, Some, None, is_some, option_and_then, codes}
use Rattle.std.specs.List.{after_first, before_first, list_any}
use Rattle.std.specs.Str.{bytes_eq}
use Rattle.lv_words.specs.Values.{Text, settings}
use Rattle.lv_words.specs.declared.words.Words.{Words}

-- the options that have a value
abbrev pub options : List Text
options = codes "workers" ∷ codes "turns" ∷ codes "combine" ∷ codes "policy" ∷ codes "log" ∷ codes "log-limit" ∷ codes "make" ∷ []

abbrev pub is_option : Text → Bool
is_option name = list_any (λ option. bytes_eq option name) options

-- a word: an option with its value, an option whose value is the next word, or neither
pub data Form : Type 0 where
  complete : Text → Text → Form
  incomplete : Text → Form
  other : Form

-- `--threads`, which has the value `true`, or `--NAME`
abbrev pub named : Text → Form
named name = if bytes_eq (codes "threads") name then complete name (codes "true") else (if is_option name then incomplete name else other)

-- `--NAME=VALUE`
abbrev pub valued : Text → Text → Form
valued name value = if is_option name then complete name value else other

-- what follows two minuses; a value begins behind the first '='
abbrev pub long_form : Text → Form
long_form text =
    if list_any (λ x. x == 61) text then valued (before_first (λ x. x == 61) text) (after_first (λ x. x == 61) text)
    else named text

abbrev pub form_of : Text → Form
form_of (a ∷ b ∷ text) = if a == 45 && b == 45 then long_form text else other
form_of _ = other

abbrev pub begins_with_minus : Text → Bool
begins_with_minus [] = false
begins_with_minus (a ∷ rest) = a == 45

-- the value that an option has, by its name
abbrev pub Given : Type 0
Given = Text → Option Text

-- the same with one option more; none where it is there before
abbrev pub also : Text → Text → Given → Option Given
also name value given = if is_some (given name) then None else Some (λ n. if bytes_eq name n then Some value else given n)

-- what a word gives, with those after it
abbrev pub taken : Form → Given → (Option Text → Given → Option Given) → Option Given
taken (complete name value) given next = option_and_then (next None) (also name value given)
taken (incomplete name) given next = next (Some name) given
taken other given next = None

-- what words give beside what is given before them, where an option may wait for its value; none where one is out of place
abbrev pub gives : List Text → Option Text → Given → Option Given
gives [] None given = Some given
gives [] (Some name) given = None
gives (word ∷ words) None given = taken (form_of word) given (gives words)
gives (word ∷ words) (Some name) given =
    if begins_with_minus word then None else option_and_then (gives words None) (also name word given)

-- what the words set; none where they are refused
abbrev pub said : List Text → Option Words
said words = option_and_then settings (gives words None (λ name. None))
