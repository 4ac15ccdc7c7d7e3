-- The second word of a line.
use Rattle.std.proofs.Common.{◌≡◌, ℕ, ◌+◌, ◌^◌, ◌<◌, true, false, List, [], ◌∷◌, ◌++◌, length, take, drop, get_or, refl, sym, ap, ◌∙◌, arith}
use Rattle.std.specs.Prelude.{decimal}
use Rattle.std.specs.Char.{is_ascii_digit}
use Rattle.std.specs.List.{list_all}
use Rattle.std.proofs.lemmas.List.{get_or-append-add, take-append-drop}
use Rattle.std.proofs.lemmas.Slice.Eq.{bytes_eq-Decides}
use Rattle.lv_reading.specs.Reading.{begins}
use Rattle.lv_reading.proofs.Again.{prefix_len_again}
use Rattle.lv_reading.proofs.Decimals.{decimal_digits, decimal_some}
use Rattle.lv_values.specs.Names.{begins_name, continues_name}
use Rattle.lv_lines.specs.Entries.{IsWord}
use Rattle.lv_lines.specs.Words.{word_len, is_numbered}
use Rattle.lv_lines.proofs.TakesWords.{and_parts}
use Rattle.lv_lines.proofs.AgainWords.{word_all}

-- the first byte of a word is no digit, and that of a number is one
letter_first : (b : ℕ) → begins_name b ≡ true → is_ascii_digit b ≡ false
letter_first b h = grind arith

pub word_first : (w rest : List ℕ) → IsWord w → is_ascii_digit (get_or (w ++ rest) 0 0) ≡ false
word_first [] rest is = absurd cc
word_first (b ∷ bytes) rest is = letter_first b (and_parts (begins_name b) (list_all continues_name bytes) is).0

pub number_first : (n : ℕ) (rest : List ℕ) → n < 2 ^ 128 → is_ascii_digit (get_or (decimal n ++ rest) 0 0) ≡ true
number_first n rest fits = at (decimal n) (decimal_digits n fits) (decimal_some n fits) where
  at : (ds : List ℕ) → list_all is_ascii_digit ds ≡ true → 0 < length ds → is_ascii_digit (get_or (ds ++ rest) 0 0) ≡ true
  at [] h some = absurd (omega arith)
  at (d ∷ ds) h some = (and_parts (is_ascii_digit d) (list_all is_ascii_digit ds) h).0

-- behind a word and a space
pub behind_word : (w rest : List ℕ) → IsWord w → is_numbered (w ++ (32 ∷ rest)) ≡ is_ascii_digit (get_or rest 0 0)
behind_word w rest is =
    let len : word_len (w ++ (32 ∷ rest)) ≡ length w = prefix_len_again continues_name w (32 ∷ rest) (word_all w is) refl in
    let one : get_or (32 ∷ rest) 1 0 ≡ get_or rest 0 0 = refl in
    ap (λ (n : ℕ). is_ascii_digit (get_or (w ++ (32 ∷ rest)) (n + 1) 0)) len ∙ ap is_ascii_digit (get_or-append-add w (32 ∷ rest) 1 0 ∙ one)

pub numbered : (w : List ℕ) (n : ℕ) (rest : List ℕ) → IsWord w → n < 2 ^ 32 → is_numbered (w ++ (32 ∷ (decimal n ++ rest))) ≡ true
numbered w n rest is fits = behind_word w (decimal n ++ rest) is ∙ number_first n rest (omega arith)

pub not_numbered : (w v rest : List ℕ) → IsWord w → IsWord v → is_numbered (w ++ (32 ∷ (v ++ rest))) ≡ false
not_numbered w v rest is iv = behind_word w (v ++ rest) is ∙ word_first v rest iv

pub seen_text : (text bytes : List ℕ) → begins text bytes ≡ true → bytes ≡ text ++ drop (length text) bytes
unfolding begins
seen_text text bytes e = sym (take-append-drop (length text) bytes) ∙ ap (λ (t : List ℕ). t ++ drop (length text) bytes) (sym ((bytes_eq-Decides text (take (length text) bytes)).0 e))
