-- The rules of the command line: which one a name has, and what a use of it asks and leaves.
use Rattle.std.proofs.Common.{◌≡◌, ap, refl, Bool, true, false, cond, ◌&&◌, ◌||◌, List, [], ◌∷◌, map, Option, Some, None, codes}
use Rattle.std.specs.List.{list_any}
use Rattle.std.specs.Str.{bytes_eq}
use Rattle.clap.specs.Walk.{Row, Rule, arg_by_id, arg_by_index, arg_by_long, has_row, reading_by, used, with_values, without}
use Rattle.clap.specs.Simple.{filled}
use Rattle.clap.specs.Faults.{use_fault}
use Rattle.clap.specs.Kinds.{Kinds, or_else}
use Rattle.clap.specs.declared.error.kind.ErrorKind.TheVariants as kind
use Rattle.clap.specs.declared.parser.matches.ValueSource.TheVariants.{CommandLine}
use Rattle.lv_words.specs.Line.{flag_rule, option_rule}
use Rattle.lv_words.specs.Values.{Text}
use Rattle.lv_words.specs.Words.{is_option, options}
use Rattle.lv_words.proofs.Rows.{same_text}

-- a flag and an option, as clap fills them in
abbrev pub flag : Text → Rule
flag name = filled (flag_rule name)

abbrev pub option : Text → Rule
option name = filled (option_rule name)

-- those of the built command line
abbrev pub rules : List Rule
rules = flag (codes "threads") ∷ map option options

-- the rule of a name
abbrev pub rule_of : Text → Option Rule
rule_of name = cond (bytes_eq (codes "threads") name) (Some (flag name)) (cond (is_option name) (Some (option name)) None)

module _ (name : Text) where
  among_by_id : (names : List Text) → arg_by_id (map option names) name ≡ cond (list_any (λ n. bytes_eq n name) names) (Some (option name)) None
  among_by_id [] = refl
  among_by_id (n ∷ names) = at (bytes_eq n name) refl (among_by_id names)
    where
      at : (b : Bool) → bytes_eq n name ≡ b → arg_by_id (map option names) name ≡ cond (list_any (λ x. bytes_eq x name) names) (Some (option name)) None
          → cond b (Some (option n)) (arg_by_id (map option names) name) ≡ cond (b || list_any (λ x. bytes_eq x name) names) (Some (option name)) None
      at true e later = ap (λ (x : Text). Some (option x)) (same_text n name e)
      at false e later = later

  among_by_long : (names : List Text) → arg_by_long (map option names) name ≡ cond (list_any (λ n. bytes_eq n name) names) (Some (option name)) None
  among_by_long [] = refl
  among_by_long (n ∷ names) = at (bytes_eq n name) refl (among_by_long names)
    where
      at : (b : Bool) → bytes_eq n name ≡ b → arg_by_long (map option names) name ≡ cond (list_any (λ x. bytes_eq x name) names) (Some (option name)) None
          → cond (b || false) (Some (option n)) (arg_by_long (map option names) name) ≡ cond (b || list_any (λ x. bytes_eq x name) names) (Some (option name)) None
      at true e later = ap (λ (x : Text). Some (option x)) (same_text n name e)
      at false e later = later

  pub by_id : arg_by_id rules name ≡ rule_of name
  by_id = at (bytes_eq (codes "threads") name) refl
    where
      at : (b : Bool) → bytes_eq (codes "threads") name ≡ b
          → cond b (Some (flag (codes "threads"))) (arg_by_id (map option options) name) ≡ cond b (Some (flag name)) (cond (is_option name) (Some (option name)) None)
      at true e = ap (λ (x : Text). Some (flag x)) (same_text (codes "threads") name e)
      at false e = among_by_id options

  pub by_long : arg_by_long rules name ≡ rule_of name
  by_long = at (bytes_eq (codes "threads") name) refl
    where
      at : (b : Bool) → bytes_eq (codes "threads") name ≡ b
          → cond (b || false) (Some (flag (codes "threads"))) (arg_by_long (map option options) name) ≡ cond b (Some (flag name)) (cond (is_option name) (Some (option name)) None)
      at true e = ap (λ (x : Text). Some (flag x)) (same_text (codes "threads") name e)
      at false e = among_by_long options

pub by_position : arg_by_index rules 1 ≡ None
by_position = refl

-- ---- one use

abbrev pub repeated : Bool → Kinds
repeated again = cond again (kind.ArgumentConflict ∷ []) []

once : (b : Bool) → or_else (cond (b && true) (kind.ArgumentConflict ∷ []) []) [] ≡ repeated b
once true = refl
once false = refl

module _ (name : Text) (rows : List Row) where
  pub option_use : (value : Text) → use_fault false (option name) (value ∷ []) rows ≡ repeated (has_row name rows)
  option_use value = once (has_row name rows)

  pub flag_use : use_fault false (flag name) [] rows ≡ repeated (has_row name rows)
  flag_use = once (has_row name rows)

  pub option_used : (value : Text) → used (option name) (value ∷ []) rows ≡ with_values name (reading_by (option name)) CommandLine (value ∷ []) (without name rows)
  option_used value = refl

  pub flag_used : used (flag name) [] rows ≡ with_values name (reading_by (flag name)) CommandLine (codes "true" ∷ []) (without name rows)
  flag_used = refl
