-- What was written is read again: words, names, texts and values.
use Rattle.std.proofs.Common.{◌≡◌, ℕ, zero, suc, ◌^◌, ◌<◌, Bool, true, false, cond, not, eqb, nat_lt, List, [], ◌∷◌, ◌++◌, length, get_or, Some, None, refl, sym, ap, ◌∙◌, arith}
use Rattle.std.specs.Prelude.{codes, decimal, ◌==◌, pos, negsuc, ℤ}
use Rattle.std.specs.Char.{is_ascii_digit}
use Rattle.std.specs.Fmt.{signed_decimal}
use Rattle.std.specs.List.{list_all, position_or_len, AllByRecursion, IsDistinct}
use Rattle.std.specs.Str.{bytes_eq, is_utf8, IsAscii}
use Rattle.std.proofs.lemmas.Bool.{eqb-true}
use Rattle.std.proofs.lemmas.Slice.Eq.{bytes_eq-Decides}
use Rattle.std.proofs.lemmas.Str.{is_utf8-from_IsUtf8, IsUtf8-from_ascii}
use Rattle.lv_values.specs.Names.{begins_name, continues_name}
use Rattle.lv_values.specs.declared.value.Value.{Value}
use Rattle.lv_values.specs.declared.value.Value.TheVariants.{Num, Text}
use Rattle.lv_values.specs.Print.{value_text}
use Rattle.lv_reading.specs.Reading.{begins, expect, byte, stops, until}
use Rattle.lv_reading.specs.Numbers.{IsWide}
use Rattle.lv_reading.proofs.Again.{run_again, until_again}
use Rattle.lv_reading.proofs.Decimals.{number_again, decimal_digits, decimal_some}
use Rattle.lv_lines.specs.Entries.{IsWord, AreWords, IsValue}
use Rattle.lv_lines.specs.Words.{name_of, word, place_in, name_in, own, own_word, quoted_byte, text_of, quoted, text_value, value}
use Rattle.lv_lines.proofs.TakesWords.{and_parts, byte_text, IsText, in_quotes, quoted_is}

-- ---- words and names

pub begins_continues : (b : ℕ) → begins_name b ≡ true → continues_name b ≡ true
begins_continues b h = rw h refl

pub word_all : (w : List ℕ) → IsWord w → list_all continues_name w ≡ true
word_all [] is = refl
word_all (b ∷ bytes) is = let s = and_parts (begins_name b) (list_all continues_name bytes) is in rw (begins_continues b s.0) s.1

pub word_some : (w : List ℕ) → IsWord w → 0 < length w
word_some [] is = absurd cc
word_some (b ∷ bytes) is = omega arith

pub word_again : (w rest : List ℕ) → IsWord w → stops continues_name rest ≡ true → word (w ++ rest) ≡ Some (w, rest)
unfolding word
word_again w rest is e = run_again continues_name w rest (word_all w is) e

same_name : (w : List ℕ) → bytes_eq w w ≡ true
same_name w = (bytes_eq-Decides w w).1 refl

pub name_is_word : (names : List (List ℕ)) (i : ℕ) → AllByRecursion IsWord names → i < length names → IsWord (name_of names i)
name_is_word [] i h lt = absurd (omega arith)
name_is_word (n ∷ ns) zero h lt = h.0
name_is_word (n ∷ ns) (suc i) h lt = name_is_word ns i h.1 (omega arith)

differs_at : (n : List ℕ) (ns : List (List ℕ)) (i : ℕ) → i < length ns → AllByRecursion (λ m. bytes_eq n m ≡ false) ns → bytes_eq n (get_or ns i []) ≡ false
differs_at n [] i lt h = absurd (omega arith)
differs_at n (m ∷ ns) zero lt h = h.0
differs_at n (m ∷ ns) (suc i) lt h = differs_at n ns i (omega arith) h.1

place_or_len : (names : List (List ℕ)) (i : ℕ) → IsDistinct bytes_eq names → i < length names → position_or_len (λ name. bytes_eq name (get_or names i [])) names ≡ i
unfolding IsDistinct
place_or_len [] i h lt = absurd (omega arith)
place_or_len (n ∷ ns) zero h lt = rw (same_name n) refl
place_or_len (n ∷ ns) (suc i) h lt =
    let other : bytes_eq n (get_or ns i []) ≡ false = differs_at n ns i (omega arith) h.0 in
    let later : position_or_len (λ name. bytes_eq name (get_or ns i [])) ns ≡ i = place_or_len ns i h.1 (omega arith) in
    rw (other, later) (omega arith)

pub place_again : (names : List (List ℕ)) (i : ℕ) (rest : List ℕ) → AreWords names → i < length names → i < 2 ^ 32 → place_in names (name_of names i) rest ≡ Some (i, rest)
unfolding place_in
place_again names i rest are lt fits =
    let at : position_or_len (λ name. bytes_eq name (get_or names i [])) names ≡ i = place_or_len names i are.1 lt in
    let inside : nat_lt i (length names) ≡ true = grind arith in
    let small : nat_lt i (2 ^ 32) ≡ true = grind arith in
    rw (at, inside, small) refl

pub name_again : (names : List (List ℕ)) (i : ℕ) (rest : List ℕ) → AreWords names → i < length names → i < 2 ^ 32 → stops continues_name rest ≡ true → name_in names (name_of names i ++ rest) ≡ Some (i, rest)
unfolding name_in
name_again names i rest are lt fits e = rw (word_again (name_of names i) rest (name_is_word names i are.0 lt) e) (place_again names i rest are lt fits)

-- a word is ASCII
continues_ascii : (b : ℕ) → continues_name b ≡ true → b < 128
continues_ascii b h = grind arith

all_ascii : (w : List ℕ) → list_all continues_name w ≡ true → IsAscii w
all_ascii [] h i = omega arith
all_ascii (b ∷ bytes) h zero = continues_ascii b (and_parts (continues_name b) (list_all continues_name bytes) h).0
all_ascii (b ∷ bytes) h (suc i) = all_ascii bytes (and_parts (continues_name b) (list_all continues_name bytes) h).1 i

pub own_again : (w rest : List ℕ) → IsWord w → own w rest ≡ Some (w, rest)
unfolding own
own_again w rest is =
    let text : is_utf8 w ≡ true = is_utf8-from_IsUtf8 w (IsUtf8-from_ascii w (all_ascii w (word_all w is))) in
    rw (is, text) refl

pub own_word_again : (w rest : List ℕ) → IsWord w → stops continues_name rest ≡ true → own_word (w ++ rest) ≡ Some (w, rest)
unfolding own_word
own_word_again w rest is e = rw (word_again w rest is e) (own_again w rest is)

-- ---- texts

-- no quote comes next
abbrev pub no_quote : List ℕ → Bool
no_quote rest = stops (λ b. b == 39) rest

byte_again : (b : ℕ) (rest : List ℕ) → Unit {0} → quoted_byte (byte_text (Some b) ++ rest) ≡ Some (Some b, rest)
unfolding quoted_byte byte begins expect
byte_again b rest u = at (b == 39) refl where
  at : (t : Bool) → (b == 39) ≡ t → quoted_byte (byte_text (Some b) ++ rest) ≡ Some (Some b, rest)
  at true h = let is : b ≡ 39 = eqb-true b 39 h in rw (h, is) refl
  at false h = rw (h, h) refl

byte_long : (b : ℕ) → Unit {0} → 0 < length (byte_text (Some b))
byte_long b u = at (b == 39) where
  at : (t : Bool) → 0 < length (cond t (39 ∷ 39 ∷ []) (b ∷ []))
  at true = omega arith
  at false = omega arith

quote_ends : (rest : List ℕ) → no_quote rest ≡ true → quoted_byte (byte_text None ++ rest) ≡ Some (None, rest)
unfolding quoted_byte byte begins
quote_ends [] e = refl
quote_ends (c ∷ cs) e = rw (flipped c (not_true (c == 39) e)) refl where
  not_true : (t : Bool) → not t ≡ true → t ≡ false
  not_true true h = absurd cc
  not_true false h = refl

  flipped : (c : ℕ) → (c == 39) ≡ false → eqb 39 c ≡ false
  flipped c h = grind arith

all_units : (t : List ℕ) → AllByRecursion (λ _. Unit {0}) t
all_units [] = tt
all_units (b ∷ bs) = (tt, all_units bs)

quoted_again : (t rest : List ℕ) → IsText t → no_quote rest ≡ true → quoted (in_quotes t ++ rest) ≡ Some (t, rest)
unfolding quoted text_of
quoted_again t rest fits e =
    let read : until quoted_byte (in_quotes t ++ rest) ≡ Some (t, rest) =
    ap (λ (x : List ℕ). until quoted_byte (x ++ rest)) (sym (quoted_is t))
    ∙ until_again quoted_byte byte_text (λ _. Unit {0}) byte_again byte_long (omega arith) t rest (all_units t) (quote_ends rest e) in
    let text : is_utf8 t ≡ true = is_utf8-from_IsUtf8 t fits.0 in
    rw (read, fits.1, text) refl

-- ---- values

-- neither a digit nor a quote comes next
abbrev pub Ends : List ℕ → Type 0
Ends rest = (stops is_ascii_digit rest ≡ true) × (no_quote rest ≡ true)

-- no text begins with a digit, and no number with this byte
pub digits_begin : (c : ℕ) (ds rest : List ℕ) → c < 48 → list_all is_ascii_digit ds ≡ true → 0 < length ds → begins (c ∷ []) (ds ++ rest) ≡ false
unfolding begins
digits_begin c [] rest lt h some = absurd (omega arith)
digits_begin c (d ∷ ds) rest lt h some =
    let digit : is_ascii_digit d ≡ true = (and_parts (is_ascii_digit d) (list_all is_ascii_digit ds) h).0 in
    let other : eqb c d ≡ false = grind arith in
    rw other refl

number_no_quote : (z : ℤ) (rest : List ℕ) → IsWide z → begins (codes "'") (signed_decimal z ++ rest) ≡ false
unfolding begins
number_no_quote (pos n) rest fits = let wider : n < 2 ^ 128 = omega arith in digits_begin 39 (decimal n) rest (omega arith) (decimal_digits n wider) (decimal_some n wider)
number_no_quote (negsuc n) rest fits = refl

number_value_again : (z : ℤ) (rest : List ℕ) → IsWide z → Ends rest → value (signed_decimal z ++ rest) ≡ Some (Num z, rest)
unfolding value
number_value_again z rest fits ends = rw (number_no_quote z rest fits, number_again z rest fits ends.0) refl

text_value_again : (t rest : List ℕ) → IsText t → Ends rest → value (39 ∷ (in_quotes t ++ rest)) ≡ Some (Text t, rest)
unfolding value text_value begins expect
text_value_again t rest fits ends = rw (quoted_again t rest fits ends.1) refl

pub value_again : (v : Value) (rest : List ℕ) → IsValue v → Ends rest → value (value_text v ++ rest) ≡ Some (v, rest)
value_again (Num z) rest fits ends = number_value_again z rest fits ends
value_again (Text t) rest fits ends = text_value_again t rest fits ends
