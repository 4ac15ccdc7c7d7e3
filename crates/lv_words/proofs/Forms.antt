-- What a word is in the plain reading, and how it looks to clap.
use Rattle.std.proofs.Common.{◌≡◌, ◌==◌, ap, sym, refl, Bool, true, false, cond, not, ◌&&◌, [], ◌∷◌, ◌⊎◌, inl, inr, Option, Some, None, ℕ, one-add, true≢false}
use Rattle.std.specs.List.{before_first, list_any}
use Rattle.std.proofs.lemmas.Bool.{cases_Bool, not-true, not-false, or_parts}
use Rattle.clap.specs.Lexer.{name_and_value}
use Rattle.lv_words.specs.Line.{is_fit}
use Rattle.lv_words.specs.Values.{Text}
use Rattle.lv_words.specs.Words.{Form, begins_with_minus, form_of, long_form, named, other, valued}
use Rattle.lv_words.proofs.Turns.{IsLong, IsPlain}

-- ---- the words that clap is given

abbrev pub Looks : Text → Type 0
Looks word =
    ((text : Text) × IsLong word text × (form_of word ≡ long_form text) × (begins_with_minus word ≡ true))
    ⊎ (IsPlain word × (form_of word ≡ other) × (begins_with_minus word ≡ false))

looks_plain : (a : ℕ) (rest : Text) → (a == 45) ≡ false → Looks (a ∷ rest)
looks_plain a [] e = inr (record { dashes = rw e refl; long = rw e refl; short = rw e refl }, refl, e)
looks_plain a (b ∷ rest) e = inr (record { dashes = rw e refl; long = rw e refl; short = rw e refl }, rw e refl, e)

pub looks : (word : Text) → is_fit word ≡ true → Looks word
looks [] fit = inr (record { dashes = refl; long = refl; short = refl }, refl, refl)
looks (a ∷ []) fit = looks_plain a [] (not-true (a == 45) fit)
looks (a ∷ b ∷ []) fit = looks_plain a (b ∷ []) (not-true (a == 45) fit)
looks (a ∷ b ∷ x ∷ xs) fit = elim (cases_Bool (a == 45)) [
  | inl e ↦
      let f : (b == 45) ≡ true = rw e at fit in
      inl (x ∷ xs, record { dashes = rw (e, f) refl; long = rw (e, f) refl }, rw (e, f) refl, e)
  | inr e ↦ looks_plain a (b ∷ x ∷ xs) e
]

-- ---- those that it is not given

pub unfit : (word : Text) → is_fit word ≡ false → (form_of word ≡ other) × (begins_with_minus word ≡ true)
unfit [] e = absurd (true≢false e)
unfit (a ∷ []) e = (refl, not-false (a == 45) e)
unfit (a ∷ b ∷ []) e = (at (a == 45) (b == 45), not-false (a == 45) e)
  where
    at : (m n : Bool) → cond (m && n) other other ≡ other
    at true true = refl
    at true false = refl
    at false n = refl
unfit (a ∷ b ∷ x ∷ xs) e =
    let parts = or_parts (not (a == 45)) (b == 45) e in
    let first = not-false (a == 45) parts.0 in
    (rw (first, parts.1) refl, first)

-- ---- the name and the value in a word

abbrev pub form_by : Text → Option Text → Form
form_by name None = named name
form_by name (Some value) = valued name value

all_before : (p : ℕ → Bool) (xs : Text) → list_any p xs ≡ false → before_first p xs ≡ xs
all_before p [] none = refl
all_before p (x ∷ xs) none =
    let parts = or_parts (p x) (list_any p xs) none in
    rw (parts.0, one-add) (ap (λ ys. x ∷ ys) (all_before p xs parts.1))

pub long_form_is : (text : Text) → long_form text ≡ form_by (name_and_value text).0 (name_and_value text).1
long_form_is text = elim (cases_Bool (list_any (λ x. x == 61) text)) [
  | inl e ↦ rw e refl
  | inr e ↦ rw e (ap named (sym (all_before (λ x. x == 61) text e)))
]
