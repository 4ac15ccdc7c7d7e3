-- One word of the line, as clap's walk takes it.
use Rattle.std.proofs.Common.{◌≡◌, refl, false, List, [], ◌∷◌, Option, Some, None, ℕ}
use Rattle.std.specs.Str.{bytes_eq}
use Rattle.clap.specs.Lexer.{long_of, name_and_value, short_of}
use Rattle.clap.specs.Walk.{Held, Row, Rule, Waiting, Walk, after_flag, after_step, arg_by_id, arg_by_index, arg_by_long, idle, long_met, option as waits_for, positional, subcommand_met, walked}
use Rattle.clap.specs.Simple.{Shape, built}
use Rattle.clap.specs.Faults.{long_fault, step_fault, turn_fault}
use Rattle.clap.specs.Kinds.{Kinds, or_else}
use Rattle.clap.specs.declared.error.kind.ErrorKind.TheVariants as kind
use Rattle.lv_words.specs.Line.{lazyview}
use Rattle.lv_words.specs.Values.{Text}
use Rattle.lv_words.proofs.Rows.{text_is}
use Rattle.lv_words.proofs.Rules.{option, rule_of}

-- the command line with these rules
abbrev pub shape : List Rule → Shape
shape c = record (built lazyview).top { rules = c }

abbrev pub at : Held → Waiting → Walk
at h waiting = record { held = h; waiting = waiting; position = 1; is_trailing = false; stopped = None }

-- a word that begins with two minuses and has more
pub record IsLong (word text : Text) : Type 0 where
  pub dashes : bytes_eq word (45 ∷ 45 ∷ []) ≡ false
  pub long : long_of word ≡ Some (name_and_value text)

-- a word that begins with no minus
pub record IsPlain (word : Text) : Type 0 where
  pub dashes : bytes_eq word (45 ∷ 45 ∷ []) ≡ false
  pub long : long_of word ≡ None
  pub short : short_of word ≡ None

no_subcommand : (waiting : Waiting) (word : Text) → subcommand_met [] waiting word ≡ None
no_subcommand idle word = refl
no_subcommand (waits_for id) word = refl
no_subcommand positional word = refl

-- what the rules have for each name, and that no word stands by its place
pub record IsLine (c : List Rule) : Type 0 where
  pub long : (name : Text) → arg_by_long c name ≡ rule_of name
  pub id : (name : Text) → arg_by_id c name ≡ rule_of name
  pub place : arg_by_index c 1 ≡ None

module _ (c : List Rule) (h : Held) (waiting : Waiting) (word : Text) (a : Option Rule) (v : Option Text) where
  abbrev pub long_turn : Kinds
  long_turn = or_else (long_fault c false a v h)
      (step_fault (shape c) 1 (after_flag c waiting word (long_met c a v h).0 (long_met c a v h).1).0
      (after_flag c waiting word (long_met c a v h).0 (long_met c a v h).1).1)

  abbrev pub long_walk : Walk
  long_walk = after_step c word (at h waiting) (after_flag c waiting word (long_met c a v h).0 (long_met c a v h).1).0
      (after_flag c waiting word (long_met c a v h).0 (long_met c a v h).1).1

module _ (c : List Rule) (is : IsLine c) (h : Held) (waiting : Waiting) (word text : Text) (l : IsLong word text) where
  pub turn_long : turn_fault (shape c) [] (at h waiting) word ≡ long_turn c h waiting word (rule_of (name_and_value text).0) (name_and_value text).1
  turn_long = rw (no_subcommand waiting word, l.dashes, l.long, is.long (name_and_value text).0) refl

  pub walk_long : walked c [] (at h waiting) word ≡ long_walk c h waiting word (rule_of (name_and_value text).0) (name_and_value text).1
  unfolding walked
  walk_long = rw (no_subcommand waiting word, l.dashes, l.long, is.long (name_and_value text).0) refl

module _ (c : List Rule) (is : IsLine c) (h : Held) (word : Text) (p : IsPlain word) where
  -- a word that no option waits for has no place
  pub turn_stray : turn_fault (shape c) [] (at h idle) word ≡ kind.UnknownArgument ∷ []
  turn_stray = rw (p.dashes, p.long, p.short, is.place) refl

  pub turn_value : (name : Text) → turn_fault (shape c) [] (at h (waits_for name)) word ≡ []
  turn_value name = rw (p.dashes, p.long, p.short) refl

-- a word that an option waits for is its value
module _ (c : List Rule) (is : IsLine c) (word name : Text) (p : IsPlain word) (rows : List Row) (skip : ℕ) where
  pub walk_value : rule_of name ≡ Some (option name) → walked c [] (at (record { rows = rows; pending = Some (name, []); skip = skip }) (waits_for name)) word
      ≡ at (record { rows = rows; pending = Some (name, word ∷ []); skip = skip }) idle
  unfolding walked
  walk_value known = rw (p.dashes, p.long, p.short, is.id name, known, text_is name) refl
