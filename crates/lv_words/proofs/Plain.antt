-- clap's walk over the words gives what the plain reading gives.
use Rattle.std.proofs.Common.{◌≡◌, ◌∙◌, ap, sym, refl, subst, Bool, true, false, cond, List, [], ◌∷◌, Option, Some, None, inl, inr, is_some, true≢false, codes, ℕ}
use Rattle.std.specs.List.{fold, list_all}
use Rattle.std.specs.Str.{bytes_eq}
use Rattle.std.specs.Prelude.{option_and_then}
use Rattle.std.proofs.lemmas.Bool.{and_parts, cases_Bool}
use Rattle.clap.specs.Lexer.{name_and_value}
use Rattle.clap.specs.Walk.{Held, Row, Rule, Waiting, Walk, has_row, idle, option as waits_for, reacted, reading_by, settled, used, walked, with_values, without}
use Rattle.clap.specs.Faults.{long_fault, react_fault, settle_fault, turn_fault, use_fault, walk_fault}
use Rattle.clap.specs.Kinds.{Kinds, or_else}
use Rattle.clap.specs.declared.builder.value_parser.Reading.{Reading}
use Rattle.clap.specs.declared.parser.matches.ValueSource.TheVariants.{CommandLine}
use Rattle.lv_words.specs.Line.{is_fit}
use Rattle.lv_words.specs.Values.{Text}
use Rattle.lv_words.specs.Words.{Given, also, taken, incomplete, gives, is_option, other, complete}
use Rattle.lv_words.proofs.Rows.{Tells, more, same_text, used_tells}
use Rattle.lv_words.proofs.Rules.{flag, flag_use, flag_used, option, option_use, option_used, repeated, rule_of}
use Rattle.lv_words.proofs.Turns.{IsLine, IsLong, IsPlain, at, long_turn, long_walk, shape, turn_long, turn_stray, turn_value, walk_long, walk_value}
use Rattle.lv_words.proofs.Forms.{form_by, long_form_is, looks}

-- ---- faults

abbrev pub IsFault : Kinds → Type 0
IsFault [] = ⊥
IsFault (k ∷ ks) = Unit {0}

pub fault_first : (a b : Kinds) → IsFault a → IsFault (or_else a b)
fault_first [] b h = absurd h
fault_first (k ∷ ks) b h = tt

pub fault_repeated : (again : Bool) → again ≡ true → IsFault (repeated again)
fault_repeated true e = tt
fault_repeated false e = absurd (true≢false (sym e))

module _ (c : List Rule) (is : IsLine c) where
  -- ---- what is left of the words

  abbrev pub ended : Walk → List Text → Walk
  ended w words = fold (walked c []) w words

  abbrev pub faults : Walk → List Text → Kinds
  faults w words = or_else (walk_fault (shape c) [] w words) (settle_fault c false (ended w words).held)

  -- the walk ends without a fault, and has what is given
  pub record Ends (w : Walk) (words : List Text) (given : Given) : Type 0 where
    pub walk : walk_fault (shape c) [] w words ≡ []
    pub settles : settle_fault c false (ended w words).held ≡ []
    pub tells : Tells (settled c (ended w words).held).rows given

  abbrev pub Agrees : Walk → List Text → Option Given → Type 0
  Agrees w words None = IsFault (faults w words)
  Agrees w words (Some given) = Ends w words given

  faults_here : (w : Walk) (word : Text) (words : List Text) (ks : Kinds) → turn_fault (shape c) [] w word ≡ ks → IsFault ks → Agrees w (word ∷ words) None
  unfolding walk_fault
  faults_here w word words ks is_ks h =
      fault_first (walk_fault (shape c) [] w (word ∷ words)) _ (fault_first (turn_fault (shape c) [] w word) _ (subst IsFault (sym is_ks) h))

  goes_on : (w next : Walk) (word : Text) (words : List Text) (o : Option Given) → turn_fault (shape c) [] w word ≡ [] → walked c [] w word ≡ next
      → Agrees next words o → Agrees w (word ∷ words) o
  unfolding walk_fault
  goes_on w next word words o clean to agrees = at_o o (subst (λ (v : Walk). Agrees v words o) (sym to) agrees)
    where
      same : walk_fault (shape c) [] w (word ∷ words) ≡ walk_fault (shape c) [] (walked c [] w word) words
      same = ap (λ ks. or_else ks (walk_fault (shape c) [] (walked c [] w word) words)) clean

      at_o : (p : Option Given) → Agrees (walked c [] w word) words p → Agrees w (word ∷ words) p
      at_o None h = subst (λ ks. IsFault (or_else ks (settle_fault c false (ended (walked c [] w word) words).held))) (sym same) h
      at_o (Some given) h = record { walk = same ∙ h.walk; settles = h.settles; tells = h.tells }

  -- what is held settles without a fault, into these rows
  abbrev pub Settles : Held → List Row → Type 0
  Settles h rows = (settle_fault c false h ≡ []) × ((settled c h).rows ≡ rows)

  -- ---- a word after which nothing can be right: an option has a value twice, or waits for one

  long_doomed : (h : Held) → IsFault (settle_fault c false h) → (name : Text) (v : Option Text) → IsFault (long_fault c false (rule_of name) v h)
  long_doomed h bad name v = by_case (bytes_eq (codes "threads") name) (is_option name) v
    where
      by_case : (m n : Bool) (o : Option Text) → IsFault (long_fault c false (cond m (Some (flag name)) (cond n (Some (option name)) None)) o h)
      by_case true n None = fault_first (settle_fault c false h) _ bad
      by_case true n (Some value) = tt
      by_case false true None = bad
      by_case false true (Some value) = fault_first (settle_fault c false h) _ bad
      by_case false false o = tt

  long_faults : (h : Held) (waiting : Waiting) (word text : Text) (words : List Text) → IsLong word text
      → IsFault (long_fault c false (rule_of (name_and_value text).0) (name_and_value text).1 h) → Agrees (at h waiting) (word ∷ words) None
  long_faults h waiting word text words l bad = faults_here (at h waiting) word words _ (turn_long c is h waiting word text l) (fault_first _ _ bad)

  doomed : (words : List Text) → list_all is_fit words ≡ true → (h : Held) → IsFault (settle_fault c false h) → Agrees (at h idle) words None
  unfolding walk_fault
  doomed [] fit h bad = bad
  doomed (word ∷ words) fit h bad = elim (looks word (and_parts (is_fit word) (list_all is_fit words) fit).0) [
    | inl l ↦ long_faults h idle word l.0 words l.1 (long_doomed h bad (name_and_value l.0).0 (name_and_value l.0).1)
    | inr p ↦ faults_here (at h idle) word words _ (turn_stray c is h word p.0) tt
  ]

  -- ---- a word that gives an option its value

  or_none : (again : Bool) → or_else (repeated again) [] ≡ repeated again
  or_none true = refl
  or_none false = refl

  after_use : (w : Walk) (word : Text) (words : List Text) (next : Held) (rows : List Row) (given : Given) (name value : Text) → Tells rows given
      → turn_fault (shape c) [] w word ≡ repeated (has_row name rows) → walked c [] w word ≡ at next idle
      → (is_some (given name) ≡ false → Agrees (at next idle) words (gives words None (more name value given)))
      → Agrees w (word ∷ words) (option_and_then (gives words None) (also name value given))
  after_use w word words next rows given name value told turn to then = by_case (is_some (given name)) refl
    where
      by_case : (b : Bool) → is_some (given name) ≡ b → Agrees w (word ∷ words) (option_and_then (gives words None) (cond b None (Some (more name value given))))
      by_case true e = faults_here w word words (repeated (has_row name rows)) turn (fault_repeated (has_row name rows) (told.has name ∙ e))
      by_case false e = goes_on w (at next idle) word words _ (turn ∙ ap repeated (told.has name ∙ e)) to (then e)

  -- what is held while a value of the option is read
  abbrev pub reading : List Row → Text → List Text → ℕ → Held
  reading rows name values skip = record { rows = rows; pending = Some (name, values); skip = skip }

  abbrev pub Idles : List Text → Type 0
  Idles words = (h : Held) (rows : List Row) (given : Given) → Settles h rows → Tells rows given → Agrees (at h idle) words (gives words None given)

  abbrev pub Waits : List Text → Type 0
  Waits words = (rows : List Row) (name : Text) (skip : ℕ) (given : Given) → is_option name ≡ true → Tells rows given
      → Agrees (at (reading rows name [] skip) (waits_for name)) words (gives words (Some name) given)

  -- the flag is none of the options
  pub no_option : (name : Text) → bytes_eq (codes "threads") name ≡ true → is_option name ≡ true → ⊥
  no_option name m n =
      let none : is_option name ≡ false = ap is_option (sym (same_text (codes "threads") name m)) in
      true≢false (sym n ∙ none)

  module _ (word : Text) (words : List Text) (idles : Idles words) (waits : Waits words) (h : Held) (rows : List Row) (given : Given) (settles : Settles h rows) (told : Tells rows given) (name : Text) where
    abbrev Turns : Option Rule → Option Text → Type 0
    Turns r v = (turn_fault (shape c) [] (at h idle) word ≡ long_turn c h idle word r v) × (walked c [] (at h idle) word ≡ long_walk c h idle word r v)

    -- a use of the name's rule, which gives it the value
    use_agrees : (a : Rule) (values : List Text) (value : Text) (how : Reading) → use_fault false a values rows ≡ repeated (has_row name rows)
        → used a values rows ≡ with_values name how CommandLine (value ∷ []) (without name rows)
        → turn_fault (shape c) [] (at h idle) word ≡ or_else (react_fault c false a values h) [] → walked c [] (at h idle) word ≡ at (reacted c a values h) idle
        → Agrees (at h idle) (word ∷ words) (option_and_then (gives words None) (also name value given))
    use_agrees a values value how fault rows_are turn to =
        after_use (at h idle) word words (reacted c a values h) rows given name value told
        (turn ∙ (λ i. or_else (or_else (settles.0 i) (use_fault false a values (settles.1 i))) []) ∙ ap (λ ks. or_else ks []) fault ∙ or_none (has_row name rows))
        to
        (λ free. idles (reacted c a values h) (used a values rows) (more name value given) (refl, ap (λ rs. used a values rs) settles.1)
        (subst (λ rs. Tells rs (more name value given)) (sym rows_are) (used_tells name how CommandLine value rows given told free)))

    valued_agrees : (value : Text) → Turns (rule_of name) (Some value) → Agrees (at h idle) (word ∷ words) (taken (form_by name (Some value)) given (gives words))
    valued_agrees value turns = by_case (bytes_eq (codes "threads") name) (is_option name) refl refl turns
      where
        by_case : (m n : Bool) → bytes_eq (codes "threads") name ≡ m → is_option name ≡ n → Turns (cond m (Some (flag name)) (cond n (Some (option name)) None)) (Some value)
            → Agrees (at h idle) (word ∷ words) (taken (cond n (complete name value) other) given (gives words))
        by_case true true a b t = absurd (no_option name a b)
        by_case true false a b t = faults_here (at h idle) word words _ t.0 tt
        by_case false false a b t = faults_here (at h idle) word words _ t.0 tt
        by_case false true a b t =
            use_agrees (option name) (value ∷ []) value (reading_by (option name)) (option_use name rows value) (option_used name rows value) t.0 t.1

    bare_agrees : Turns (rule_of name) None → Agrees (at h idle) (word ∷ words) (taken (form_by name None) given (gives words))
    bare_agrees turns = by_case (bytes_eq (codes "threads") name) (is_option name) refl refl turns
      where
        by_case : (m n : Bool) → bytes_eq (codes "threads") name ≡ m → is_option name ≡ n → Turns (cond m (Some (flag name)) (cond n (Some (option name)) None)) None
            → Agrees (at h idle) (word ∷ words) (taken (cond m (complete name (codes "true")) (cond n (incomplete name) other)) given (gives words))
        by_case true n a b t = use_agrees (flag name) [] (codes "true") (reading_by (flag name)) (flag_use name rows) (flag_used name rows) t.0 t.1
        by_case false false a b t = faults_here (at h idle) word words _ t.0 tt
        by_case false true a b t =
            goes_on (at h idle) _ word words _ (t.0 ∙ ap (λ ks. or_else ks []) settles.0) t.1
            (waits (settled c h).rows name h.skip given b (subst (λ rs. Tells rs given) (sym settles.1) told))

  -- ---- all the words

  known : (name : Text) → is_option name ≡ true → rule_of name ≡ Some (option name)
  known name n = elim (cases_Bool (bytes_eq (codes "threads") name)) [
    | inl m ↦ absurd (no_option name m n)
    | inr m ↦ rw (m, n) refl
  ]

  -- an option that waits is a fault
  waits_fault : (rows : List Row) (name : Text) (skip : ℕ) → is_option name ≡ true → IsFault (settle_fault c false (reading rows name [] skip))
  waits_fault rows name skip n = rw (is.id name, known name n) tt

  value_settles : (rows : List Row) (name value : Text) (skip : ℕ) → is_option name ≡ true
      → (settle_fault c false (reading rows name (value ∷ []) skip) ≡ repeated (has_row name rows))
      × ((settled c (reading rows name (value ∷ []) skip)).rows ≡ used (option name) (value ∷ []) rows)
  value_settles rows name value skip n = (rw (is.id name, known name n) (option_use name rows value), rw (is.id name, known name n) refl)

  value_agrees : (word : Text) (words : List Text) → IsPlain word → list_all is_fit words ≡ true → Idles words → (rows : List Row) (name : Text) (skip : ℕ) (given : Given) → is_option name ≡ true → Tells rows given
      → Agrees (at (reading rows name [] skip) (waits_for name)) (word ∷ words) (option_and_then (gives words None) (also name word given))
  value_agrees word words p fit idles rows name skip given n told = by_case (is_some (given name)) refl
    where
      settles : (settle_fault c false (reading rows name (word ∷ []) skip) ≡ repeated (has_row name rows)) × ((settled c (reading rows name (word ∷ []) skip)).rows ≡ used (option name) (word ∷ []) rows)
      settles = value_settles rows name word skip n

      after : (o : Option Given) → Agrees (at (reading rows name (word ∷ []) skip) idle) words o → Agrees (at (reading rows name [] skip) (waits_for name)) (word ∷ words) o
      after o h = goes_on (at (reading rows name [] skip) (waits_for name)) (at (reading rows name (word ∷ []) skip) idle) word words o
          (turn_value c is (reading rows name [] skip) word p name) (walk_value c is word name p rows skip (known name n)) h

      by_case : (b : Bool) → is_some (given name) ≡ b
          → Agrees (at (reading rows name [] skip) (waits_for name)) (word ∷ words) (option_and_then (gives words None) (cond b None (Some (more name word given))))
      by_case true e = after None (doomed words fit (reading rows name (word ∷ []) skip) (subst IsFault (sym settles.0) (fault_repeated (has_row name rows) (told.has name ∙ e))))
      by_case false e = after (gives words None (more name word given))
          (idles (reading rows name (word ∷ []) skip) (used (option name) (word ∷ []) rows) (more name word given) (settles.0 ∙ ap repeated (told.has name ∙ e), settles.1)
          (used_tells name (reading_by (option name)) CommandLine word rows given told e))

  pub agrees : (words : List Text) → list_all is_fit words ≡ true → Idles words × Waits words
  unfolding walk_fault
  agrees [] fit = (
    λ h rows given settles told. record { walk = refl; settles = settles.0; tells = subst (λ rs. Tells rs given) (sym settles.1) told },
    λ rows name skip given n told. waits_fault rows name skip n,
  )
  agrees (word ∷ words) fit =
      let parts = and_parts (is_fit word) (list_all is_fit words) fit in
      let later = agrees words parts.1 in
      elim (looks word parts.0) [
        | inl l ↦ (
          λ h rows given settles told.
              subst (λ f. Agrees (at h idle) (word ∷ words) (taken f given (gives words))) (sym (l.2 ∙ long_form_is l.0))
              (long_agrees h rows given settles told l.0 l.1 later),
          λ rows name skip given n told.
              subst (λ b. Agrees (at (reading rows name [] skip) (waits_for name)) (word ∷ words) (cond b None (option_and_then (gives words None) (also name word given)))) (sym l.3)
              (long_faults _ (waits_for name) word l.0 words l.1 (long_doomed _ (waits_fault rows name skip n) (name_and_value l.0).0 (name_and_value l.0).1)),
        )
        | inr p ↦ (
          λ h rows given settles told.
              subst (λ f. Agrees (at h idle) (word ∷ words) (taken f given (gives words))) (sym p.1)
              (faults_here (at h idle) word words _ (turn_stray c is h word p.0) tt),
          λ rows name skip given n told.
              subst (λ b. Agrees (at (reading rows name [] skip) (waits_for name)) (word ∷ words) (cond b None (option_and_then (gives words None) (also name word given)))) (sym p.2)
              (value_agrees word words p.0 parts.1 later.0 rows name skip given n told),
        )
      ]
    where
      long_agrees : (h : Held) (rows : List Row) (given : Given) → Settles h rows → Tells rows given → (text : Text) → IsLong word text → Idles words × Waits words
          → Agrees (at h idle) (word ∷ words) (taken (form_by (name_and_value text).0 (name_and_value text).1) given (gives words))
      long_agrees h rows given settles told text l later =
          by_value (name_and_value text).1 (turn_long c is h idle word text l, walk_long c is h idle word text l)
        where
          by_value : (v : Option Text)
              → (turn_fault (shape c) [] (at h idle) word ≡ long_turn c h idle word (rule_of (name_and_value text).0) v) × (walked c [] (at h idle) word ≡ long_walk c h idle word (rule_of (name_and_value text).0) v)
              → Agrees (at h idle) (word ∷ words) (taken (form_by (name_and_value text).0 v) given (gives words))
          by_value None t = bare_agrees word words later.0 later.1 h rows given settles told (name_and_value text).0 t
          by_value (Some value) t = valued_agrees word words later.0 later.1 h rows given settles told (name_and_value text).0 value t
