-- What is known of the bytes of a token of each kind.
use Rattle.std.proofs.Common.{◌≡◌, ℕ, zero, suc, ◌+◌, ◌-◌, ◌*◌, ◌^◌, ◌≤◌, ◌<◌, Bool, true, false, cond, List, [], ◌∷◌, ◌++◌, nat_eq, nat_lt, Some, length, get_or, take, drop, slice_range, refl, ap, ap₂, ◌==◌, ◌&&◌, ◌∙◌, subst, arith, inl, inr, eqb-true, length-drop}
use Rattle.std.specs.List.{list_all, prefix_len, starts_with}
use borrow.Author.Tests.{ltb-true}
use Rattle.std.proofs.lemmas.Bool.{cases_lt, leb-true}
use Rattle.std.proofs.lemmas.Bool.Decides.{nat_tests}
use Rattle.std.proofs.lemmas.List.{get_or_past, take_all, length-take-le}
use Rattle.std.proofs.lemmas.Grind.{common_steps}
use Rattle.std.specs.Char.{digit_value, to_ascii_lowercase, is_ascii_digit}
use Rattle.std.specs.Str.{IsCharBoundary, IsUtf8, IsAscii, str_to_ascii_lowercase}
use Rattle.std.specs.Str.Parse.{digits_value, AllDigits}
use Rattle.std.proofs.lemmas.Str.{IsUtf8-between, IsCharBoundary-after_ascii, IsCharBoundary-before_ascii}
use Rattle.std.proofs.lemmas.Int.Digits.{digits_value_more}
use Rattle.std.proofs.lemmas.Str.Parse.{digits_value-take-le, digits_value_short, numerals_by_value, tells_digits}
use Rattle.lv_values.specs.Names.{is_letter, is_word_byte}
use Rattle.lv_lexer.specs.declared.token.Token.{Token}
use Rattle.lv_lexer.specs.declared.token.TokenKind.{TokenKind}
use Rattle.lv_lexer.specs.declared.token.TokenKind.TheVariants.{Word, Number, Text, Sign}
use Rattle.lv_lexer.specs.Piece.{piece}
use Rattle.lv_lexer.specs.Scan.{Spells, IsTokenOf, text_in}
use Rattle.lv_lexer.proofs.Sorts.{IsPiece, piece_is}
use Rattle.lv_lexer.proofs.Fronts.{closes, found_is, begins}
use Rattle.lv_lexer.specs.Signs.{first_fit, long_signs, short_signs}
use Rattle.lv_lexer.specs.declared.terminals.Class.{Class}

-- where a run is all of the bytes, each of them passes
run_all : (p : ℕ → Bool) (bytes : List ℕ) → prefix_len p bytes ≡ length bytes → (i : ℕ) → i < length bytes → p (get_or bytes i 0) ≡ true
run_all p [] e i h = absurd (omega arith)
run_all p (b ∷ bytes) e i h = by (p b) i refl e h (run_all p bytes)
  where
    by : (t : Bool) (i : ℕ) → p b ≡ t → cond t (1 + prefix_len p bytes) 0 ≡ suc (length bytes) → i < suc (length bytes)
        → (prefix_len p bytes ≡ length bytes → (i : ℕ) → i < length bytes → p (get_or bytes i 0) ≡ true) → p (get_or (b ∷ bytes) i 0) ≡ true
    by true zero q e h more = q
    by true (suc i) q e h more = more (omega arith) i (omega arith)
    by false i q e h more = absurd (omega arith)

-- the first byte passes, and so do the others
each_from : (p : ℕ → Bool) (b : ℕ) (bytes : List ℕ) → p b ≡ true → prefix_len p bytes ≡ length bytes → (i : ℕ) → i < suc (length bytes) → p (get_or (b ∷ bytes) i 0) ≡ true
each_from p b bytes q e zero h = q
each_from p b bytes q e (suc i) h = run_all p bytes e i (omega arith)

-- ---- numbers

pub digit_known : (c : ℕ) → is_ascii_digit c ≡ true → (48 ≤ c) × (c ≤ 57) × (digit_value c ≡ c - 48)
digit_known c e = grind (arith, nat_tests)

all_digits : (bytes : List ℕ) → ((i : ℕ) → i < length bytes → is_ascii_digit (get_or bytes i 0) ≡ true) → AllDigits 10 bytes
all_digits [] each = tt
all_digits (b ∷ bytes) each =
    let here = digit_known b (each 0 (omega arith)) in
    (omega (arith, here), all_digits bytes (λ i h. each (suc i) (omega arith)))

-- the digits of a number
pub record IsNumber (digits : List ℕ) : Type 0 where
  pub each : (i : ℕ) → i < length digits → is_ascii_digit (get_or digits i 0) ≡ true
  pub few : length digits ≤ 38

pub is_number : (digits : List ℕ) → Spells digits Number → IsNumber digits
unfolding piece
is_number [] e = absurd cc
is_number (b ∷ bytes) e =
    let known : IsPiece b bytes Number (suc (length bytes)) = piece_is b bytes Number (suc (length bytes)) e in
    record { each = each_from is_ascii_digit b bytes known.1 (omega (arith, known.2)); few = omega (arith, known.2, leb-true (1 + prefix_len is_ascii_digit bytes) 38 known.3) }

digit_small : (c : ℕ) → is_ascii_digit c ≡ true → c < 128
digit_small c e = omega (arith, digit_known c e)

is_ascii_number : (digits : List ℕ) → IsNumber digits → IsAscii digits
is_ascii_number digits known i =
    elim (cases_lt i (length digits)) [
      | inl h ↦ digit_small (get_or digits i 0) (known.each i h)
      | inr h ↦ omega (arith, get_or_past digits i 0 h)
    ]

-- the number fits, and each step on the way to it
pub number_short : (most : ℕ) (digits : List ℕ) → IsNumber digits → length digits ≤ most → digits_value 10 digits < 10 ^ most
number_short most digits known few = digits_value_short (numerals_by_value (AllDigits 10) tells_digits) digits most (all_digits digits known.each) few

pub number_small : (digits : List ℕ) → IsNumber digits → digits_value 10 digits < 10 ^ 38
number_small digits known = number_short 38 digits known known.few

pub number_whole : (digits : List ℕ) (i : ℕ) → length digits ≤ i → digits_value 10 (take i digits) ≡ digits_value 10 digits
number_whole digits i h = ap (digits_value 10) (take_all i digits h)

pub step_short : (most : ℕ) (digits : List ℕ) (i : ℕ) → IsNumber digits → length digits ≤ most → i < length digits
    → digits_value 10 (take i digits) * 10 + digit_value (get_or digits i 0) < 10 ^ most
step_short most digits i known few h =
    omega (arith, number_short most digits known few, digits_value_more 10 digits i h, digits_value-take-le 10 digits (i + 1) (omega arith))

pub step_small : (digits : List ℕ) (i : ℕ) → IsNumber digits → i < length digits → digits_value 10 (take i digits) * 10 + digit_value (get_or digits i 0) < 10 ^ 38
step_small digits i known h = step_short 38 digits i known known.few h

-- ---- words

word_byte_small : (c : ℕ) → is_word_byte c ≡ true → c < 128
word_byte_small c e = grind (arith, nat_tests)

letter_in_word : (b : ℕ) → is_letter b ≡ true → is_word_byte b ≡ true
letter_in_word b l = rw l refl

is_ascii_word : (word : List ℕ) → Spells word Word → IsAscii word
unfolding piece
is_ascii_word [] e i = absurd cc
is_ascii_word (b ∷ bytes) e i =
    let known : IsPiece b bytes Word (suc (length bytes)) = piece_is b bytes Word (suc (length bytes)) e in
    elim (cases_lt i (suc (length bytes))) [
      | inl h ↦ word_byte_small (get_or (b ∷ bytes) i 0) (each_from is_word_byte b bytes (letter_in_word b known.0) (omega (arith, known.1)) i h)
      | inr h ↦ omega (arith, get_or_past (b ∷ bytes) i 0 h)
    ]

-- ---- signs

-- whether each of these spellings is ASCII
all_ascii : List (List ℕ × Class) → Bool
all_ascii table = list_all (λ s. list_all (λ b. nat_lt b 128) s.0) table

ascii_if : (bytes : List ℕ) → list_all (λ b. nat_lt b 128) bytes ≡ true → IsAscii bytes
ascii_if [] e i = omega arith
ascii_if (b ∷ bytes) e zero = by (nat_lt b 128) refl e
  where
    by : (t : Bool) → nat_lt b 128 ≡ t → (t && list_all (λ b. nat_lt b 128) bytes) ≡ true → b < 128
    by true q e = ltb-true b 128 q
    by false q e = absurd cc
ascii_if (b ∷ bytes) e (suc i) = by (nat_lt b 128) e (λ more. ascii_if bytes more i)
  where
    by : (t : Bool) → (t && list_all (λ b. nat_lt b 128) bytes) ≡ true → (list_all (λ b. nat_lt b 128) bytes ≡ true → get_or bytes i 0 < 128) → get_or bytes i 0 < 128
    by true e more = more e
    by false e more = absurd cc

-- bytes that are one of these spellings
fits_ascii : (table : List (List ℕ × Class)) (bytes : List ℕ) (class : Class) → all_ascii table ≡ true → first_fit table bytes ≡ Some (class, length bytes) → IsAscii bytes
unfolding all_ascii
fits_ascii [] bytes class a e = absurd cc
fits_ascii (s ∷ more) bytes class a e = by (starts_with nat_eq bytes s.0) (list_all (λ b. nat_lt b 128) s.0) refl refl a e (fits_ascii more bytes class)
  where
    by : (t u : Bool) → starts_with nat_eq bytes s.0 ≡ t → list_all (λ b. nat_lt b 128) s.0 ≡ u → (u && all_ascii more) ≡ true
        → cond t (Some (s.1, length s.0)) (first_fit more bytes) ≡ Some (class, length bytes)
        → (all_ascii more ≡ true → first_fit more bytes ≡ Some (class, length bytes) → IsAscii bytes) → IsAscii bytes
    by true true q l a e rest =
        let same = found_is s.1 class (length s.0) (length bytes) e in
        let whole : s.0 ≡ bytes = begins bytes s.0 q ∙ take_all (length s.0) bytes (omega (arith, same.1)) in
        subst IsAscii whole (ascii_if s.0 l)
    by true false q l a e rest = absurd cc
    by false true q l a e rest = rest a e
    by false false q l a e rest = absurd cc

is_ascii_sign : (sign : List ℕ) → Spells sign Sign → IsAscii sign
unfolding piece all_ascii
is_ascii_sign [] e i = absurd cc
is_ascii_sign (b ∷ bytes) e i =
    let known : IsPiece b bytes Sign (suc (length bytes)) = piece_is b bytes Sign (suc (length bytes)) e in
    fits_ascii (long_signs ++ short_signs) (b ∷ bytes) known.3.0 refl known.3.1 i

-- ---- texts

pub record IsQuoted (bytes : List ℕ) : Type 0 where
  pub long : 2 ≤ length bytes
  pub first : get_or bytes 0 0 ≡ 39
  pub last : get_or bytes (length bytes - 1) 0 ≡ 39

pub is_quoted : (bytes : List ℕ) → Spells bytes Text → IsQuoted bytes
unfolding piece
is_quoted [] e = absurd cc
is_quoted (b ∷ bytes) e =
    let known : IsPiece b bytes Text (suc (length bytes)) = piece_is b bytes Text (suc (length bytes)) e in
    let m = known.3.0 in
    let close = closes bytes m known.3.1 in
    let long : m ≡ length bytes = omega (arith, known.3.2) in
    let j = length bytes - 1 in
    let some : length bytes ≡ suc j = omega (arith, close.some, long) in
    let last : get_or (b ∷ bytes) (suc j) 0 ≡ 39 = close.quote j (long ∙ some) in
    record {
      long = omega arith;
      first = eqb-true b 39 known.2;
      last = let at : suc j ≡ suc (length bytes) - 1 = omega arith in subst (λ (i : ℕ). get_or (b ∷ bytes) i 0 ≡ 39) at last;
    }

-- between the quotes stands a text
pub inside_is_utf8 : (bytes : List ℕ) → IsQuoted bytes → IsUtf8 bytes → IsUtf8 (slice_range bytes 1 (length bytes - 1))
inside_is_utf8 bytes q u =
    let begin = IsCharBoundary-after_ascii bytes 0 u (omega (arith, q.long)) (omega (arith, q.first)) in
    let end = IsCharBoundary-before_ascii bytes (length bytes - 1) (omega (arith, q.long)) (omega (arith, q.last)) in
    IsUtf8-between bytes 1 (length bytes - 1) u (omega (arith, q.long)) begin end

-- ---- the ends of a token

-- its first and its last byte are ASCII
pub record HasAsciiEnds (bytes : List ℕ) : Type 0 where
  pub first : get_or bytes 0 0 < 128
  pub last : get_or bytes (length bytes - 1) 0 < 128

ascii_ends : (bytes : List ℕ) → IsAscii bytes → HasAsciiEnds bytes
ascii_ends bytes a = record { first = a 0; last = a (length bytes - 1) }

has_ascii_ends : (bytes : List ℕ) (kind : TokenKind) → Spells bytes kind → HasAsciiEnds bytes
has_ascii_ends bytes Word e = ascii_ends bytes (is_ascii_word bytes e)
has_ascii_ends bytes Number e = ascii_ends bytes (is_ascii_number bytes (is_number bytes e))
has_ascii_ends bytes Text e = let q = is_quoted bytes e in record { first = omega (arith, q.first); last = omega (arith, q.last) }
has_ascii_ends bytes Sign e = ascii_ends bytes (is_ascii_sign bytes e)

at_slice : (line : List ℕ) (start end i : ℕ) → start + i < end → get_or (slice_range line start end) i 0 ≡ get_or line (start + i) 0
at_slice line start end i h = grind (arith, common_steps)

-- a token begins and ends between characters
pub token_bounds : (line : List ℕ) (t : Token) → IsTokenOf line t → IsUtf8 line → IsCharBoundary line t.start × IsCharBoundary line t.end
token_bounds line t known u =
    let ends = has_ascii_ends (text_in line t) t.kind known.spelled in
    let order = known.order in
    let within = known.within in
    let whole : length (text_in line t) ≡ t.end - t.start = length-take-le (t.end - t.start) (drop t.start line) (omega (arith, length-drop t.start line)) in
    let first : get_or line (t.start + 0) 0 < 128 = omega (arith, at_slice line t.start t.end 0 (omega arith), ends.first) in
    let last_at : t.start + (length (text_in line t) - 1) ≡ t.end - 1 = omega arith in
    let same : get_or (text_in line t) (length (text_in line t) - 1) 0 ≡ get_or line (t.end - 1) 0 =
    at_slice line t.start t.end (length (text_in line t) - 1) (omega arith) ∙ ap (λ (i : ℕ). get_or line i 0) last_at in
    let last : get_or line (t.end - 1) 0 < 128 = omega (arith, same, ends.last) in
    let begin = IsCharBoundary-before_ascii line (t.start + 0) (omega arith) (omega arith) in
    let end = IsCharBoundary-after_ascii line (t.end - 1) u (omega arith) (omega arith) in
    let B : ℕ → Type 0 = λ i. IsCharBoundary line i in
    (subst B (omega arith) begin, subst B (omega arith) end)

-- a word of which each byte is itself in lower case is so too
pub is_in_lower_case : (word : List ℕ) → list_all (λ byte. to_ascii_lowercase byte == byte) word ≡ true → str_to_ascii_lowercase word ≡ word
is_in_lower_case [] e = refl
is_in_lower_case (byte ∷ word) e = by (to_ascii_lowercase byte == byte) refl e (is_in_lower_case word)
  where
    by : (b : Bool) → (to_ascii_lowercase byte == byte) ≡ b → (b && list_all (λ byte. to_ascii_lowercase byte == byte) word) ≡ true
        → (list_all (λ byte. to_ascii_lowercase byte == byte) word ≡ true → str_to_ascii_lowercase word ≡ word) → (to_ascii_lowercase byte ∷ str_to_ascii_lowercase word) ≡ byte ∷ word
    by true q more rest = ap₂ (λ x xs. x ∷ xs) (eqb-true (to_ascii_lowercase byte) byte q) (rest more)
    by false q more rest = cc
