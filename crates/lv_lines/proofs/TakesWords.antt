-- What is read was written: words, names, texts and values.
use Rattle.std.proofs.Common.{◌≡◌, ℕ, ◌^◌, ◌<◌, Bool, true, false, cond, ◌&&◌, not, List, [], ◌∷◌, ◌++◌, length, get_or, Option, Some, None, refl, sym, ap, ◌∙◌}
use Rattle.std.specs.Prelude.{codes, ◌==◌, IsUtf8}
use Rattle.std.specs.List.{flat_map, list_all}
use Rattle.std.specs.Str.{bytes_eq}
use Rattle.std.proofs.lemmas.Bool.{eqb-true}
use Rattle.std.proofs.lemmas.List.{append-nil}
use Rattle.std.proofs.lemmas.List.Quantifiers.{position-Some}
use Rattle.std.proofs.lemmas.Slice.Eq.{bytes_eq-Decides}
use Rattle.std.proofs.lemmas.Str.{IsUtf8-from_is_utf8}
use Rattle.lv_values.specs.Names.{continues_name}
use Rattle.lv_values.specs.Print.{doubled, value_text}
use Rattle.lv_reading.proofs.Takes.{Takes, then_takes, last_takes, pure_takes, choice_takes, choose_takes, check_takes, below_takes, given_takes, expect_takes, byte_takes, run_takes, until_text, until_takes}
use Rattle.lv_reading.proofs.Decimals.{number_takes}
use Rattle.lv_lines.specs.Entries.{IsWord, IsValue}
use Rattle.lv_lines.specs.Words.{name_of, word, place_in, name_in, own, own_word, quoted_byte, text_of, quoted, text_value, value}

pub and_parts : (a b : Bool) → (a && b) ≡ true → (a ≡ true) × (b ≡ true)
and_parts true b e = (refl, e)
and_parts false b e = absurd cc

-- ---- words and names

-- a place, and the name at it
pub record IsPlaceOf (names : List (List ℕ)) (w : List ℕ) (i : ℕ) : Type 0 where
  pub named : i < length names
  pub fits : i < 2 ^ 32
  pub is : w ≡ name_of names i

-- a name that was read before: nothing more is taken
pub place_takes : (names : List (List ℕ)) (w : List ℕ) → Takes (IsPlaceOf names w) (λ _. []) [] (place_in names w)
unfolding place_in
place_takes names w =
    then_takes {FitsA = λ i. (i < length names) × (w ≡ name_of names i)} {textA = λ _. []}
    (given_takes (λ i e. (let s = position-Some (λ name. bytes_eq name w) names i [] e in (refl, (s.0, sym ((bytes_eq-Decides (get_or names i []) w).0 s.1))))))
    (λ i found. below_takes (2 ^ 32) i refl (λ fits. record { named = found.0; fits = fits; is = found.1 }))

abbrev pub IsPlace : List (List ℕ) → ℕ → Type 0
IsPlace names i = (i < length names) × (i < 2 ^ 32)

pub name_takes : (names : List (List ℕ)) → Takes (IsPlace names) (name_of names) [] (name_in names)
unfolding name_in word
name_takes names = then_takes (run_takes continues_name) (λ w _. last_takes (place_takes names w) (λ i place. (append-nil w ∙ place.is, (place.named, place.fits))))

-- a word that was read before: nothing more is taken
pub own_takes : (w : List ℕ) → Takes (λ n. (w ≡ n) × IsWord n) (λ _. []) [] (own w)
unfolding own
own_takes w = check_takes w (λ h. (refl, (refl, (and_parts _ _ h).0)))

pub own_word_takes : Takes IsWord (λ w. w) [] own_word
unfolding own_word word
own_word_takes = then_takes (run_takes continues_name) (λ w _. last_takes (own_takes w) (λ n is. (append-nil w ∙ is.0, is.1)))

-- ---- texts

-- a byte of a text between quotes, or the quote at its end
abbrev pub byte_text : Option ℕ → List ℕ
byte_text (Some b) = cond (b == 39) (39 ∷ 39 ∷ []) (b ∷ [])
byte_text None = 39 ∷ []

two_quotes : (b : ℕ) → (b == 39) ≡ true → b ∷ 39 ∷ [] ≡ byte_text (Some 39)
two_quotes b e = rw (eqb-true b 39 e) refl

last_quote : (b : ℕ) → (b == 39) ≡ true → b ∷ [] ≡ byte_text None
last_quote b e = rw (eqb-true b 39 e) refl

other_byte : (b : ℕ) → (b == 39) ≡ false → b ∷ [] ≡ byte_text (Some b)
other_byte b e = rw e refl

quoted_byte_takes : Takes (λ _. Unit {0}) byte_text [] quoted_byte
unfolding quoted_byte
quoted_byte_takes =
    then_takes byte_takes (λ b few. choose_takes (b == 39)
    (λ e. choice_takes _ (then_takes (expect_takes _) (λ _ _. pure_takes (two_quotes b e) tt)) (pure_takes (last_quote b e) tt))
    (λ e. pure_takes (other_byte b e) tt))

pub doubled_is : (t : List ℕ) → doubled t ≡ flat_map (λ b. byte_text (Some b)) t
doubled_is [] = refl
doubled_is (x ∷ xs) = at (x == 39) (doubled_is xs) where
  at : (t : Bool) → doubled xs ≡ flat_map (λ b. byte_text (Some b)) xs → cond t (39 ∷ 39 ∷ doubled xs) (x ∷ doubled xs) ≡ cond t (39 ∷ 39 ∷ []) (x ∷ []) ++ flat_map (λ b. byte_text (Some b)) xs
  at true later = ap (λ (r : List ℕ). 39 ∷ 39 ∷ r) later
  at false later = ap (λ (r : List ℕ). x ∷ r) later

abbrev pub IsText : List ℕ → Type 0
IsText t = IsUtf8 t × (list_all (λ b. not (b == 10)) t ≡ true)

-- up to the last quote
abbrev pub in_quotes : List ℕ → List ℕ
in_quotes t = doubled t ++ codes "'"

pub quoted_is : (t : List ℕ) → until_text byte_text t ≡ in_quotes t
quoted_is t = ap (λ (x : List ℕ). x ++ codes "'") (sym (doubled_is t))

quoted_takes : Takes IsText in_quotes [] quoted
unfolding quoted text_of
quoted_takes = then_takes (until_takes quoted_byte_takes) (λ t _. check_takes t (λ h. (let s = and_parts _ _ h in (quoted_is t, (IsUtf8-from_is_utf8 t s.1, s.0)))))

-- ---- values

text_value_takes : Takes IsValue value_text [] text_value
unfolding text_value
text_value_takes = then_takes (expect_takes _) (λ _ _. then_takes quoted_takes (λ t fits. pure_takes refl fits))

pub value_takes : Takes IsValue value_text [] value
unfolding value
value_takes = choice_takes _ text_value_takes (then_takes number_takes (λ n fits. pure_takes refl fits))
