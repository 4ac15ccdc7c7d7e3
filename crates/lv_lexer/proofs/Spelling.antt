-- Words in lower case, numbers in decimal and texts between quotes spell what they are.
use Rattle.std.proofs.Common.{◌≡◌, ℕ, suc, ◌+◌, ◌-◌, ◌≤◌, ◌<◌, ◌^◌, Bool, true, false, cond, nat_eq, List, [], ◌∷◌, ◌++◌, length, take, Some, refl, sym, ap, ◌∙◌, arith, length-append, decimal, le-leb, eqb-true, ◌⊎◌, inl, inr}
use Rattle.std.specs.List.{prefix_len}
use Rattle.std.proofs.lemmas.Bool.{cases_lt}
use Rattle.std.specs.Char.{to_ascii_lowercase, is_ascii_digit}
use Rattle.std.specs.Int.{IsInRange}
use Rattle.std.specs.Str.{str_to_ascii_lowercase}
use Rattle.std.specs.Str.Parse.{digits_value, AllDigits}
use Rattle.std.proofs.lemmas.Fmt.{decimal_is_IsNumeral_wide, length-decimal-le_wide}
use Rattle.std.proofs.lemmas.Str.Parse.{digit_from_value}
use Rattle.std.proofs.lemmas.Str.Ascii.{lowercase_is, lowercase-lowercase}
use Rattle.std.proofs.lemmas.Bool.Decides.{nat_tests}
use Rattle.lv_values.specs.Print.{doubled, quoted}
use Rattle.lv_values.specs.Names.{is_letter, is_word_byte}
use Rattle.lv_lexer.specs.declared.token.TokenKind.TheVariants.{Word, Number, Text}
use Rattle.lv_lexer.specs.Piece.{piece, closing}
use Rattle.lv_lexer.specs.Scan.{Spells}
use Rattle.lv_lexer.specs.Meaning.{undoubled, unquoted}
use Rattle.lv_lexer.proofs.Quotes.{further, other_first}
use Rattle.lv_lexer.proofs.Undoubled.{stays}
use Rattle.lv_lexer.proofs.Again.{take_front}
use Rattle.lv_lexer.proofs.Sorts.{IsPiece, piece_is, piece_by}

-- ---- texts

closing-doubled : (t : List ℕ) → closing (doubled t ++ 39 ∷ []) ≡ Some (length (doubled t ++ 39 ∷ []))
closing-doubled [] = refl
closing-doubled (x ∷ t) = by (nat_eq x 39) refl (closing-doubled t)
  where
    by : (q : Bool) → nat_eq x 39 ≡ q → closing (doubled t ++ 39 ∷ []) ≡ Some (length (doubled t ++ 39 ∷ []))
        → closing (cond q (39 ∷ 39 ∷ doubled t) (x ∷ doubled t) ++ 39 ∷ []) ≡ Some (length (cond q (39 ∷ 39 ∷ doubled t) (x ∷ doubled t) ++ 39 ∷ []))
    by true e more = ap (further 2) more ∙ ap (λ (n : ℕ). Some n) (omega arith)
    by false e more = other_first x (doubled t ++ 39 ∷ []) e ∙ ap (further 1) more ∙ ap (λ (n : ℕ). Some n) (omega arith)

pub text_spells : (t : List ℕ) → Spells (quoted t) Text
text_spells t =
    piece_by 39 (doubled t ++ 39 ∷ []) Text (suc (length (doubled t ++ 39 ∷ []))) (refl, refl, refl, (length (doubled t ++ 39 ∷ []), closing-doubled t, omega arith))

undoubled-doubled : (t : List ℕ) → undoubled (doubled t) ≡ t
undoubled-doubled [] = refl
undoubled-doubled (x ∷ t) = by (nat_eq x 39) refl (undoubled-doubled t)
  where
    by : (q : Bool) → nat_eq x 39 ≡ q → undoubled (doubled t) ≡ t → undoubled (cond q (39 ∷ 39 ∷ doubled t) (x ∷ doubled t)) ≡ x ∷ t
    by true e more = ap (λ (ys : List ℕ). 39 ∷ ys) more ∙ ap (λ (y : ℕ). y ∷ t) (sym (eqb-true x 39 e))
    by false e more = stays x (doubled t) e ∙ ap (λ (ys : List ℕ). x ∷ ys) more

pub text_says : (t : List ℕ) → unquoted (quoted t) ≡ t
text_says t =
    let len : suc (length (doubled t ++ 39 ∷ [])) - 1 - 1 ≡ length (doubled t) = omega (arith, length-append (doubled t) (39 ∷ [])) in
    ap undoubled (ap (λ (n : ℕ). take n (doubled t ++ 39 ∷ [])) len ∙ take_front (doubled t) (39 ∷ [])) ∙ undoubled-doubled t

-- ---- numbers

in_range_digit : (c : ℕ) → IsInRange 48 57 c → is_ascii_digit c ≡ true
in_range_digit c h = grind (arith, nat_tests)

all_run : (ds : List ℕ) → AllDigits 10 ds → prefix_len is_ascii_digit ds ≡ length ds
all_run [] h = refl
all_run (d ∷ ds) h = rw (in_range_digit d (digit_from_value d h.0)) (omega (arith, all_run ds h.1))

digits_spell : (ds : List ℕ) → 0 < length ds → AllDigits 10 ds → length ds ≤ 38 → Spells ds Number
digits_spell [] some all few = absurd (omega arith)
digits_spell (d ∷ ds) some all few =
    let here = in_range_digit d (digit_from_value d all.0) in
    let rest = all_run ds all.1 in
    let small : 1 + prefix_len is_ascii_digit ds ≤ 38 = omega arith in
    piece_by d ds Number (suc (length ds)) (digit_no_letter d here, here, omega arith, le-leb (1 + prefix_len is_ascii_digit ds) 38 small)
  where
    digit_no_letter : (c : ℕ) → is_ascii_digit c ≡ true → is_letter c ≡ false
    digit_no_letter c e = grind (arith, nat_tests)

wide_enough : (n : ℕ) → n < 10 ^ 38 → n < 10 ^ 64
wide_enough n h = omega arith

pub number_spells : (n : ℕ) → n < 10 ^ 38 → Spells (decimal n) Number
number_spells n h =
    let numeral = (decimal_is_IsNumeral_wide n (wide_enough n h)).0 in
    digits_spell (decimal n) numeral.0 numeral.1 (length-decimal-le_wide 38 n (omega arith) h (wide_enough n h))

pub number_says : (n : ℕ) → n < 10 ^ 38 → digits_value 10 (decimal n) ≡ n
number_says n h = (decimal_is_IsNumeral_wide n (wide_enough n h)).1

-- ---- words

small_letter : (c : ℕ) → 97 ≤ c → c ≤ 122 → is_letter c ≡ true
small_letter c l h = grind (arith, nat_tests)

-- a byte in lower case is the same, or a small letter
lower_is : (c : ℕ) → (to_ascii_lowercase c ≡ c) ⊎ ((97 ≤ to_ascii_lowercase c) × (to_ascii_lowercase c ≤ 122))
lower_is c =
    let known = lowercase_is c in
    elim (cases_lt c 65) [
      | inl low ↦ inl (known.1 low)
      | inr up ↦ elim (cases_lt 90 c) [ inl high ↦ inl (known.2 high) | inr within ↦ let e = known.0 (up, within) in inr (omega arith, omega arith) ]
    ]

lower_letter : (c : ℕ) → is_letter c ≡ true → is_letter (to_ascii_lowercase c) ≡ true
lower_letter c e = elim (lower_is c) [ inl same ↦ ap is_letter same ∙ e | inr small ↦ small_letter (to_ascii_lowercase c) small.0 small.1 ]

letter_word : (c : ℕ) → is_letter c ≡ true → is_word_byte c ≡ true
letter_word c e = rw e refl

lower_word_byte : (c : ℕ) → is_word_byte c ≡ true → is_word_byte (to_ascii_lowercase c) ≡ true
lower_word_byte c e =
    elim (lower_is c) [ inl same ↦ ap is_word_byte same ∙ e | inr small ↦ letter_word (to_ascii_lowercase c) (small_letter (to_ascii_lowercase c) small.0 small.1) ]

lower_run : (bytes : List ℕ) → prefix_len is_word_byte bytes ≡ length bytes → prefix_len is_word_byte (str_to_ascii_lowercase bytes) ≡ length (str_to_ascii_lowercase bytes)
lower_run [] e = refl
lower_run (b ∷ bytes) e = by (is_word_byte b) refl e (lower_run bytes)
  where
    by : (t : Bool) → is_word_byte b ≡ t → cond t (1 + prefix_len is_word_byte bytes) 0 ≡ suc (length bytes)
        → (prefix_len is_word_byte bytes ≡ length bytes → prefix_len is_word_byte (str_to_ascii_lowercase bytes) ≡ length (str_to_ascii_lowercase bytes))
        → prefix_len is_word_byte (to_ascii_lowercase b ∷ str_to_ascii_lowercase bytes) ≡ suc (length (str_to_ascii_lowercase bytes))
    by true q e more = rw (lower_word_byte b q) (omega (arith, more (omega arith)))
    by false q e more = absurd (omega arith)

pub lower_spells : (bytes : List ℕ) → Spells bytes Word → Spells (str_to_ascii_lowercase bytes) Word
unfolding piece
lower_spells [] e = absurd cc
lower_spells (b ∷ bytes) e =
    let known : IsPiece b bytes Word (suc (length bytes)) = piece_is b bytes Word (suc (length bytes)) e in
    piece_by (to_ascii_lowercase b) (str_to_ascii_lowercase bytes) Word (suc (length (str_to_ascii_lowercase bytes)))
    (lower_letter b known.0, omega (arith, lower_run bytes (omega (arith, known.1))))

pub lower-lower : (bytes : List ℕ) → str_to_ascii_lowercase (str_to_ascii_lowercase bytes) ≡ str_to_ascii_lowercase bytes
lower-lower [] = refl
lower-lower (b ∷ bytes) =
    ap (λ (c : ℕ). c ∷ str_to_ascii_lowercase (str_to_ascii_lowercase bytes)) (lowercase-lowercase b) ∙ ap (λ (cs : List ℕ). to_ascii_lowercase b ∷ cs) (lower-lower bytes)
