-- What clap reads in the words is what they say.
use Rattle.std.proofs.Common.{◌≡◌, ◌∙◌, ap, sym, refl, Bool, true, false, cond, ◌||◌, List, [], ◌∷◌, map, Option, Some, None, inl, inr, is_some, true≢false, codes, Result, Ok, Err, IfOk}
use Rattle.std.specs.List.{fold, list_all}
use Rattle.std.specs.Str.{bytes_eq}
use Rattle.std.specs.Prelude.{option_and_then}
use Rattle.std.proofs.lemmas.Bool.{and_cases, cases_Bool}
use Rattle.clap.specs.Walk.{Row, Walk, finished, first_of, has_row, idle, nothing_held, reading_by, settled, with_default, with_values}
use Rattle.clap.specs.Simple.{built, entered, matches_of}
use Rattle.clap.specs.Faults.{check_fault, default_fault, defaults_fault, entered_fault, fault_of, walk_fault}
use Rattle.clap.specs.Kinds.{Kinds, or_else}
use Rattle.clap.specs.declared.parser.matches.ValueSource.TheVariants.{DefaultValue}
use Rattle.lv_words.specs.Line.{found_or, is_fit, lazyview, read}
use Rattle.lv_words.specs.Values.{Text, is_on, settings}
use Rattle.lv_words.specs.Words.{Form, Given, also, begins_with_minus, taken, incomplete, form_of, gives, is_option, options, other, said, complete}
use Rattle.lv_words.specs.declared.words.Words.{Words}
use Rattle.lv_words.proofs.Rows.{Tells, added_value, more}
use Rattle.lv_words.proofs.Rules.{by_id, by_long, by_position, flag, option, rules}
use Rattle.lv_words.proofs.Turns.{IsLine, at, shape}
use Rattle.lv_words.proofs.Forms.{unfit}
use Rattle.lv_words.proofs.Plain.{Agrees, Ends, IsFault, agrees, ended, faults, no_option}

-- ---- words that clap is not given

also_none : (name value : Text) (given : Given) (next : Given → Option Given) → ((g : Given) → next g ≡ None) → option_and_then next (also name value given) ≡ None
also_none name value given next none = by_case (is_some (given name))
  where
    by_case : (b : Bool) → option_and_then next (cond b None (Some (more name value given))) ≡ None
    by_case true = refl
    by_case false = none (more name value given)

taken_none : (f : Form) (given : Given) (next : Option Text → Given → Option Given) → ((waits : Option Text) (g : Given) → next waits g ≡ None) → taken f given next ≡ None
taken_none (complete name value) given next none = also_none name value given (next None) (none None)
taken_none (incomplete name) given next none = none (Some name) given
taken_none other given next none = refl

gives_none : (words : List Text) → list_all is_fit words ≡ false → (waits : Option Text) (given : Given) → gives words waits given ≡ None
gives_none [] bad waits given = absurd (true≢false bad)
gives_none (word ∷ words) bad None given = elim (and_cases (is_fit word) (list_all is_fit words) bad) [
  | inl e ↦ ap (λ f. taken f given (gives words)) (unfit word e).0
  | inr e ↦ taken_none (form_of word) given (gives words) (gives_none words e)
]
gives_none (word ∷ words) bad (Some name) given = elim (and_cases (is_fit word) (list_all is_fit words) bad) [
  | inl e ↦ ap (λ b. cond b None (option_and_then (gives words None) (also name word given))) (unfit word e).1
  | inr e ↦ by_case (begins_with_minus word) (also_none name word given (gives words None) (gives_none words e None))
]
  where
    by_case : (b : Bool) {o : Option Given} → o ≡ None → cond b None o ≡ None
    by_case true h = refl
    by_case false h = h

pub unfit_is_refused : (words : List Text) → list_all is_fit words ≡ false → said words ≡ None
unfit_is_refused words bad = ap (option_and_then settings) (gives_none words bad None (λ name. None))

-- ---- the end of clap's reading

line : IsLine rules
line = record { long = by_long; id = by_id; place = by_position }

no_stop : (stop : Option (Text × List Text)) → entered_fault (built lazyview) stop ≡ []
no_stop None = refl
no_stop (Some p) = refl

checked : (rows : List Row) (has : Bool) → check_fault (built lazyview).top rows has ≡ []
checked rows true = refl
checked rows false = refl

module _ (rows : List Row) where
  flag_default : default_fault rows (flag (codes "threads")) ≡ []
  flag_default = by_case (has_row (codes "threads") rows)
    where
      by_case : (b : Bool) → cond {A = Kinds} (b || false) [] [] ≡ []
      by_case true = refl
      by_case false = refl

  option_default : (name : Text) → default_fault rows (option name) ≡ []
  option_default name = by_case (has_row name rows)
    where
      by_case : (b : Bool) → cond {A = Kinds} (b || true) [] [] ≡ []
      by_case true = refl
      by_case false = refl

  option_stays : (name : Text) → with_default rows (option name) ≡ rows
  option_stays name = by_case (has_row name rows)
    where
      by_case : (b : Bool) → cond b rows rows ≡ rows
      by_case true = refl
      by_case false = refl

options_default : (rows : List Row) (names : List Text) → defaults_fault rows (map option names) ≡ []
unfolding defaults_fault
options_default rows [] = refl
options_default rows (name ∷ names) =
    ap (λ ks. or_else ks (defaults_fault (with_default rows (option name)) (map option names))) (option_default rows name)
    ∙ options_default (with_default rows (option name)) names

all_default : (rows : List Row) → defaults_fault rows rules ≡ []
unfolding defaults_fault
all_default rows =
    ap (λ ks. or_else ks (defaults_fault (with_default rows (flag (codes "threads"))) (map option options))) (flag_default rows)
    ∙ options_default (with_default rows (flag (codes "threads"))) options

options_stay : (rows : List Row) (names : List Text) → fold with_default rows (map option names) ≡ rows
options_stay rows [] = refl
options_stay rows (name ∷ names) = ap (λ rs. fold with_default rs (map option names)) (option_stays rows name) ∙ options_stay rows names

fault_whole : (a below b rest : Kinds) → IsFault (or_else a b) → IsFault (or_else a (or_else below (or_else b rest)))
fault_whole [] [] [] rest h = absurd h
fault_whole [] [] (k ∷ ks) rest h = tt
fault_whole [] (k ∷ ks) b rest h = tt
fault_whole (k ∷ ks) below b rest h = tt

no_fault : {a b c d e : Kinds} → a ≡ [] → b ≡ [] → c ≡ [] → d ≡ [] → e ≡ [] → or_else a (or_else b (or_else c (or_else d e))) ≡ []
no_fault p q r s t = λ i. or_else (p i) (or_else (q i) (or_else (r i) (or_else (s i) (t i))))

-- ---- the settings

same_settings : (a b : Given) → is_on (a (codes "threads")) ≡ is_on (b (codes "threads")) → ((name : Text) → is_option name ≡ true → a name ≡ b name) → settings a ≡ settings b
same_settings a b flag_is value_is =
    rw (flag_is, value_is (codes "workers") refl, value_is (codes "turns") refl, value_is (codes "combine") refl, value_is (codes "policy") refl, value_is (codes "log") refl, value_is (codes "log-limit") refl, value_is (codes "make") refl) refl

-- the flag's row is made where it is not there, and says that it is off
module _ (rows : List Row) (given : Given) (told : Tells rows given) where
  abbrev with_flag : List Row
  with_flag = with_default rows (flag (codes "threads"))

  flag_value : is_on (first_of (codes "threads") with_flag) ≡ is_on (given (codes "threads"))
  flag_value = by_case (has_row (codes "threads") rows) refl
    where
      off : (o : Option Text) → is_some o ≡ false → is_on o ≡ false
      off None e = refl
      off (Some t) e = absurd (true≢false e)

      by_case : (has : Bool) → has_row (codes "threads") rows ≡ has
          → is_on (first_of (codes "threads") (cond has rows (with_values (codes "threads") (reading_by (flag (codes "threads"))) DefaultValue (codes "false" ∷ []) rows))) ≡ is_on (given (codes "threads"))
      by_case true e = ap is_on (told.value (codes "threads"))
      by_case false e = ap is_on (added_value (codes "threads") (reading_by (flag (codes "threads"))) DefaultValue (codes "false") (codes "threads") rows e)
          ∙ sym (off (given (codes "threads")) (sym (told.has (codes "threads")) ∙ e))

  option_value : (name : Text) → is_option name ≡ true → first_of name with_flag ≡ given name
  option_value name n = by_case (has_row (codes "threads") rows) refl ∙ told.value name
    where
      apart : bytes_eq (codes "threads") name ≡ false
      apart = elim (cases_Bool (bytes_eq (codes "threads") name)) [
        | inl m ↦ absurd (no_option rules line name m n)
        | inr m ↦ m
      ]

      by_case : (has : Bool) → has_row (codes "threads") rows ≡ has
          → first_of name (cond has rows (with_values (codes "threads") (reading_by (flag (codes "threads"))) DefaultValue (codes "false" ∷ []) rows)) ≡ first_of name rows
      by_case true e = refl
      by_case false e = added_value (codes "threads") (reading_by (flag (codes "threads"))) DefaultValue (codes "false") name rows e
          ∙ ap (λ b. cond b (Some (codes "false")) (first_of name rows)) apart

module _ (words : List Text) where
  abbrev end : Walk
  end = ended rules line (at nothing_held idle) words

  begins : Tells [] (λ name. None)
  begins = record { value = λ name. refl; has = λ name. refl }

  walk_agrees : list_all is_fit words ≡ true → Agrees rules line (at nothing_held idle) words (gives words None (λ name. None))
  walk_agrees fit = (agrees rules line words fit).0 nothing_held [] (λ name. None) (refl, refl) begins

  refused : IsFault (faults rules line (at nothing_held idle) words) → read words ≡ None
  refused bad = by_kinds (fault_of lazyview words) (fault_whole (walk_fault (shape rules) [] (at nothing_held idle) words) _ _ _ bad)
    where
      by_kinds : (ks : Kinds) → IsFault ks → option_and_then settings (found_or ks (λ name. first_of name (matches_of lazyview words))) ≡ None
      by_kinds [] h = absurd h
      by_kinds (k ∷ ks) h = refl

  accepted : (given : Given) → Ends rules line (at nothing_held idle) words given → read words ≡ settings given
  accepted given e =
      let rows : List Row = (settled rules end.held).rows in
      let clean : fault_of lazyview words ≡ [] =
      no_fault e.walk (no_stop end.stopped) e.settles (all_default rows) (checked (finished rules end.held) (is_some (entered (built lazyview) end.stopped))) in
      let found : matches_of lazyview words ≡ with_default rows (flag (codes "threads")) = options_stay (with_default rows (flag (codes "threads"))) options in
      ap (λ ks. option_and_then settings (found_or ks (λ name. first_of name (matches_of lazyview words)))) clean
      ∙ same_settings (λ name. first_of name (matches_of lazyview words)) given
      (ap (λ rs. is_on (first_of (codes "threads") rs)) found ∙ flag_value rows given e.tells)
      (λ name n. ap (λ rs. first_of name rs) found ∙ option_value rows given e.tells name n)

  pub fit_reads : list_all is_fit words ≡ true → read words ≡ said words
  fit_reads fit = by_given (gives words None (λ name. None)) (walk_agrees fit)
    where
      by_given : (o : Option Given) → Agrees rules line (at nothing_held idle) words o → read words ≡ option_and_then settings o
      by_given None h = refused h
      by_given (Some given) h = accepted given h

-- ---- what is read of the texts of the words

pub accepted_is_said : {E : Type 0} (texts words : List Text) (r : Result Words E) → texts ≡ words → list_all is_fit words ≡ true
    → IfOk r (λ w. read texts ≡ Some w) → IfOk r (λ w. said words ≡ Some w)
accepted_is_said texts words (Ok w) same fit h = sym (fit_reads words fit) ∙ (ap read (sym same) ∙ h)
accepted_is_said texts words (Err e) same fit h = tt

pub refused_is_said : (texts words : List Text) → texts ≡ words → list_all is_fit words ≡ true → read texts ≡ None → said words ≡ None
refused_is_said texts words same fit h = sym (fit_reads words fit) ∙ (ap read (sym same) ∙ h)
