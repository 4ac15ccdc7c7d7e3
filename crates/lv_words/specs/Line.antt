-- The command line for clap, a simple command of one flag and seven options, and what clap's reading of words sets.
use Rattle.std.specs.Prelude.{Bool, true, not, ◌||◌, ◌==◌, codes, List, [], ◌∷◌, Option, Some, None, option_and_then}
use Rattle.clap.specs.Walk.{Rule, first_of}
use Rattle.clap.specs.Simple.{App, matches_of, new_app, new_rule, with_rule, on_top}
use Rattle.clap.specs.Faults.{fault_of}
use Rattle.clap.specs.Kinds.{Kinds}
use Rattle.clap.specs.declared.builder.action.ArgAction.TheVariants.{Set, SetTrue}
use Rattle.lv_words.specs.Values.{Text, settings}
use Rattle.lv_words.specs.declared.words.Words.{Words}

-- an option with a value
abbrev pub option_rule : Text → Rule
option_rule name = record (new_rule name) { long = Some name; action = Some Set }

-- an option without a value
abbrev pub flag_rule : Text → Rule
flag_rule name = record (new_rule name) { long = Some name; action = Some SetTrue }

-- no program's name among the words, no help flag, no version flag
abbrev pub bare : App
bare = on_top (λ s. record s { no_binary_name = true; disable_help_flag = true; disable_version_flag = true }) (new_app (codes "lazyview"))

abbrev pub lazyview : App
lazyview =
    with_rule (with_rule (with_rule (with_rule (with_rule (with_rule (with_rule (with_rule bare (flag_rule (codes "threads"))) (option_rule (codes "workers"))) (option_rule (codes "turns"))) (option_rule (codes "combine"))) (option_rule (codes "policy"))) (option_rule (codes "log"))) (option_rule (codes "log-limit"))) (option_rule (codes "make"))

-- The word begins with no minus, or with two and has more. clap would take `-` as a value, and `--` as the end of the
-- options.
abbrev pub is_fit : Text → Bool
is_fit [] = true
is_fit (a ∷ []) = not (a == 45)
is_fit (a ∷ b ∷ []) = not (a == 45)
is_fit (a ∷ b ∷ c ∷ rest) = not (a == 45) || b == 45

-- the values that are found, where there is no fault
abbrev pub found_or : Kinds → (Text → Option Text) → Option (Text → Option Text)
found_or [] given = Some given
found_or (kind ∷ kinds) given = None

-- what clap's reading of the words sets: none where it finds a fault, or a value is refused
abbrev pub read : List Text → Option Words
read words = option_and_then settings (found_or (fault_of lazyview words) (λ name. first_of name (matches_of lazyview words)))
