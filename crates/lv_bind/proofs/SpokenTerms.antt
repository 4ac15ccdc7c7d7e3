-- The terminals of a line: what is known of a name, of a number and of a text.
use Rattle.std.proofs.Common.{◌≡◌, ℕ, zero, suc, ◌+◌, ◌-◌, ◌^◌, ◌≤◌, ◌<◌, Bool, true, false, not, cond, ◌&&◌, ◌||◌, ◌==◌, List, [], ◌∷◌, map, length, take, drop, slice_range, Option, Some, None, ◌⊎◌, inl, inr, refl, sym, ap, ◌∙◌, arith}
use Rattle.std.specs.Char.{to_ascii_lowercase, is_ascii_digit}
use Rattle.std.specs.List.{All, list_all, list_any, prefix_len}
use Rattle.std.specs.Str.{bytes_eq, str_to_ascii_lowercase}
use Rattle.std.proofs.lemmas.Bool.{false_from_ne_true, false≢true}
use Rattle.std.proofs.lemmas.Bool.Decides.{nat_tests}
use Rattle.std.proofs.lemmas.List.Elements.{All-head, All-tail}
use Rattle.std.proofs.lemmas.Slice.Eq.{bytes_eq-Decides}
use Rattle.std.proofs.lemmas.Str.Ascii.{lowercase_is}
use Rattle.lv_values.specs.Names.{is_letter, is_word_byte, begins_name, continues_name, has_name, keywords}
use Rattle.lv_lexer.specs.declared.terminals.Class.{Class}
use Rattle.lv_lexer.specs.declared.terminals.Class.TheVariants as k
use Rattle.lv_lexer.specs.declared.terminals.Terminal.{Terminal}
use Rattle.lv_lexer.specs.declared.token.Token.{Token}
use Rattle.lv_lexer.specs.declared.token.TokenKind.{TokenKind}
use Rattle.lv_lexer.specs.declared.token.TokenKind.TheVariants.{Word, Number, Text, Sign}
use Rattle.lv_lexer.specs.Keywords.{spellings, spelled_by, keyword_of}
use Rattle.lv_lexer.specs.Meaning.{said, terminal_of, word_at, undoubled}
use Rattle.lv_lexer.specs.Piece.{piece}
use Rattle.lv_lexer.specs.Scan.{Spells, IsTokenOf, text_in}
use Rattle.lv_lexer.proofs.Sorts.{IsPiece, piece_is}
use Rattle.lv_parser.specs.Lines as lines
use Rattle.lv_parser.proofs.PrintHonest.{IsHonest, IsNameText, honest_name, honest_number}
use Rattle.lv_bind.specs.Spoken.{is_spoken_name, is_in_line}

-- ---- keywords

same_words : map (λ entry. entry.0) spellings ≡ keywords
same_words = refl

other_way : (a b : List ℕ) → bytes_eq a b ≡ false → bytes_eq b a ≡ false
other_way a b e = false_from_ne_true _ (λ same. false≢true (sym e ∙ (bytes_eq-Decides a b).1 (sym ((bytes_eq-Decides b a).0 same))))

spelled_none : (table : List (List ℕ × Class)) (word : List ℕ) → spelled_by table word ≡ None → has_name word (map (λ entry. entry.0) table) ≡ false
spelled_none [] word e = refl
spelled_none (entry ∷ more) word e = by (bytes_eq entry.0 word) refl e (spelled_none more word)
  where
    by : (t : Bool) → bytes_eq entry.0 word ≡ t → cond t (Some entry.1) (spelled_by more word) ≡ None → (spelled_by more word ≡ None → has_name word (map (λ entry. entry.0) more) ≡ false)
        → (bytes_eq word entry.0 || has_name word (map (λ entry. entry.0) more)) ≡ false
    by true q e rest = absurd cc
    by false q e rest = rw (other_way entry.0 word q) (rest e)

no_keyword : (word : List ℕ) → keyword_of word ≡ None → has_name word keywords ≡ false
unfolding keyword_of
no_keyword word e = ap (has_name word) (sym same_words) ∙ spelled_none spellings word e

-- ---- bytes of a name

not_upper : (b : ℕ) → to_ascii_lowercase b ≡ b → 65 ≤ b → b ≤ 90 → ⊥
not_upper b e l h = omega (arith, (lowercase_is b).0 (l, h))

letter_is : (b : ℕ) → is_letter b ≡ true → ((65 ≤ b) × (b ≤ 90)) ⊎ (((97 ≤ b) × (b ≤ 122)) ⊎ (b ≡ 95))
letter_is b e = grind (arith, nat_tests)

small_begins : (b : ℕ) → 97 ≤ b → b ≤ 122 → begins_name b ≡ true
small_begins b l h = grind (arith, nat_tests)

begins : (b : ℕ) → is_letter b ≡ true → to_ascii_lowercase b ≡ b → begins_name b ≡ true
begins b l e = elim (letter_is b l) [
  | inl upper ↦ absurd (not_upper b e upper.0 upper.1)
  | inr other ↦ elim other [ inl small ↦ small_begins b small.0 small.1 | inr line ↦ ap begins_name line ]
]

digit_continues : (b : ℕ) → is_ascii_digit b ≡ true → continues_name b ≡ true
digit_continues b e = grind (arith, nat_tests)

continues : (b : ℕ) → is_word_byte b ≡ true → to_ascii_lowercase b ≡ b → continues_name b ≡ true
continues b w e = by (is_letter b) (is_ascii_digit b) refl refl w
  where
    by : (l d : Bool) → is_letter b ≡ l → is_ascii_digit b ≡ d → (l || d) ≡ true → continues_name b ≡ true
    by true d l q w = rw (begins b l e) refl
    by false true l q w = digit_continues b q
    by false false l q w = absurd cc

same_head : (b c : ℕ) (bs cs : List ℕ) → b ∷ bs ≡ c ∷ cs → b ≡ c
same_head b c bs cs e = cc

same_tail : (b c : ℕ) (bs cs : List ℕ) → b ∷ bs ≡ c ∷ cs → bs ≡ cs
same_tail b c bs cs e = cc

all_continue : (bytes : List ℕ) → prefix_len is_word_byte bytes ≡ length bytes → str_to_ascii_lowercase bytes ≡ bytes → list_all continues_name bytes ≡ true
all_continue [] r e = refl
all_continue (b ∷ bytes) r e =
    by (is_word_byte b) refl r (λ q. all_continue bytes q (same_tail (to_ascii_lowercase b) b (str_to_ascii_lowercase bytes) bytes e))
  where
    by : (t : Bool) → is_word_byte b ≡ t → cond t (1 + prefix_len is_word_byte bytes) 0 ≡ suc (length bytes) → (prefix_len is_word_byte bytes ≡ length bytes → list_all continues_name bytes ≡ true)
        → (continues_name b && list_all continues_name bytes) ≡ true
    by true q r rest = rw (continues b q (same_head (to_ascii_lowercase b) b (str_to_ascii_lowercase bytes) bytes e)) (rest (omega arith))
    by false q r rest = absurd (omega arith)

-- ---- names

no_empty_word : (c : List ℕ) → [] ≡ c → Spells c Word → ⊥
unfolding piece
no_empty_word [] e s = cc
no_empty_word (b ∷ c) e s = absurd cc

-- a name that is read again is in lower case and no keyword
kept_name : (name : List ℕ) → IsNameText name → (keyword_of name ≡ None) × (str_to_ascii_lowercase name ≡ name)
kept_name name h = by (keyword_of (str_to_ascii_lowercase name)) refl (h.again 0)
  where
    by : (o : Option Class) → keyword_of (str_to_ascii_lowercase name) ≡ o → word_at 0 (str_to_ascii_lowercase name) o ≡ record { class = k.Name; text = name; number = 0; byte = 0 }
        → (keyword_of name ≡ None) × (str_to_ascii_lowercase name ≡ name)
    by None q e = let same : str_to_ascii_lowercase name ≡ name = ap (λ (t : Terminal). t.text) e in (ap keyword_of (sym same) ∙ q, same)
    by (Some c) q e = absurd (no_empty_word name (ap (λ (t : Terminal). t.text) e) h.spelled)

spoken_name : (name : List ℕ) → Spells name Word → keyword_of name ≡ None → str_to_ascii_lowercase name ≡ name → is_spoken_name name ≡ true
unfolding piece
spoken_name [] s q e = absurd cc
spoken_name (b ∷ bytes) s q e =
    let known : IsPiece b bytes Word (suc (length bytes)) = piece_is b bytes Word (suc (length bytes)) s in
    let first = begins b known.0 (same_head (to_ascii_lowercase b) b (str_to_ascii_lowercase bytes) bytes e) in
    let rest = all_continue bytes (omega (arith, known.1)) (same_tail (to_ascii_lowercase b) b (str_to_ascii_lowercase bytes) bytes e) in
    rw (first, rest, no_keyword (b ∷ bytes) q) refl

name_spoken : (name : List ℕ) → IsNameText name → is_spoken_name name ≡ true
name_spoken name h = let kept = kept_name name h in spoken_name name h.spelled kept.0 kept.1

-- ---- texts

-- there is no line feed among the bytes
abbrev NoFeed : List ℕ → Type 0
NoFeed bytes = list_any (λ b. b == 10) bytes ≡ false

neither : (a b : Bool) → (a || b) ≡ false → (a ≡ false) × (b ≡ false)
neither true b e = absurd cc
neither false b e = (refl, e)

no_feed_cons : (b : ℕ) (bytes : List ℕ) → (b == 10) ≡ false → NoFeed bytes → NoFeed (b ∷ bytes)
no_feed_cons b bytes e h = rw e h

drop_no_feed : (n : ℕ) (bytes : List ℕ) → NoFeed bytes → NoFeed (drop n bytes)
drop_no_feed zero bytes h = h
drop_no_feed (suc n) [] h = refl
drop_no_feed (suc n) (b ∷ bytes) h = drop_no_feed n bytes (neither (b == 10) (list_any (λ c. c == 10) bytes) h).1

take_no_feed : (n : ℕ) (bytes : List ℕ) → NoFeed bytes → NoFeed (take n bytes)
take_no_feed zero bytes h = refl
take_no_feed (suc n) [] h = refl
take_no_feed (suc n) (b ∷ bytes) h = let both = neither (b == 10) (list_any (λ c. c == 10) bytes) h in no_feed_cons b (take n bytes) both.0 (take_no_feed n bytes both.1)

slice_no_feed : (bytes : List ℕ) (from to : ℕ) → NoFeed bytes → NoFeed (slice_range bytes from to)
slice_no_feed bytes from to h = take_no_feed (to - from) (drop from bytes) (drop_no_feed from bytes h)

undoubled_no_feed : (bytes : List ℕ) → NoFeed bytes → NoFeed (undoubled bytes)
undoubled_no_feed [] h = refl
undoubled_no_feed (b ∷ []) h = h
undoubled_no_feed (b ∷ c ∷ bytes) h =
    let both = neither (b == 10) (list_any (λ x. x == 10) (c ∷ bytes)) h in
    let rest = neither (c == 10) (list_any (λ x. x == 10) bytes) both.1 in
    by (b == 39 && c == 39) (undoubled_no_feed bytes rest.1) (no_feed_cons b (undoubled (c ∷ bytes)) both.0 (undoubled_no_feed (c ∷ bytes) both.1))
  where
    by : (t : Bool) → NoFeed (undoubled bytes) → NoFeed (b ∷ undoubled (c ∷ bytes)) → NoFeed (cond t (39 ∷ undoubled bytes) (b ∷ undoubled (c ∷ bytes)))
    by true p q = p
    by false p q = q

text_said : (kind : TokenKind) (bytes : List ℕ) (b : ℕ) → NoFeed bytes → (said kind bytes b).class ≡ k.Quoted → is_in_line (said kind bytes b).text ≡ true
text_said Word bytes b h e = by (keyword_of (str_to_ascii_lowercase bytes)) e
  where
    by : (o : Option Class) → (word_at b (str_to_ascii_lowercase bytes) o).class ≡ k.Quoted → is_in_line (word_at b (str_to_ascii_lowercase bytes) o).text ≡ true
    by None e = absurd cc
    by (Some c) e = refl
text_said Number bytes b h e = refl
text_said Text bytes b h e = ap not (undoubled_no_feed (slice_range bytes 1 (length bytes - 1)) (slice_no_feed bytes 1 (length bytes - 1) h))
text_said Sign bytes b h e = refl

-- ---- terminals

-- what is known of a terminal of a line
pub record IsSpokenTerm (t : Terminal) : Type 0 where
  pub name : t.class ≡ k.Name → is_spoken_name t.text ≡ true
  pub number : t.class ≡ k.Number → t.number < 10 ^ 38
  pub quoted : t.class ≡ k.Quoted → is_in_line t.text ≡ true

abbrev pub AreSpoken : List Terminal → Type 0
AreSpoken [] = Unit {0}
AreSpoken (t ∷ ts) = IsSpokenTerm t × AreSpoken ts

-- the byte of what is said is the given one
byte_is : (kind : TokenKind) (bytes : List ℕ) (b : ℕ) → (said kind bytes b).byte ≡ b
byte_is Word bytes b = by (keyword_of (str_to_ascii_lowercase bytes))
  where
    by : (o : Option Class) → (word_at b (str_to_ascii_lowercase bytes) o).byte ≡ b
    by None = refl
    by (Some c) = refl
byte_is Number bytes b = refl
byte_is Text bytes b = refl
byte_is Sign bytes b = refl

one_spoken : (line : List ℕ) (t : Token) → IsTokenOf line t → NoFeed line → IsSpokenTerm (terminal_of line t)
one_spoken line t of_line h =
    let bytes = text_in line t in
    let b = t.start + 1 in
    let honest : IsHonest (terminal_of line t) = record { kind = t.kind; bytes = bytes; spelled = of_line.spelled; is = ap (said t.kind bytes) (sym (byte_is t.kind bytes b)) } in
    record {
      name = λ e. name_spoken (terminal_of line t).text (honest_name (terminal_of line t) honest e);
      number = λ e. honest_number (terminal_of line t) honest e;
      quoted = λ e. text_said t.kind bytes b (slice_no_feed line t.start t.end h) e;
    }

-- the terminals of a line without a line feed
pub all_spoken : (line : List ℕ) (tokens : List Token) → All (IsTokenOf line) tokens → list_any (λ b. b == 10) line ≡ false → AreSpoken (lines.said line tokens)
all_spoken line [] all h = tt
all_spoken line (t ∷ more) all h = (one_spoken line t (All-head (IsTokenOf line) t more all) h, all_spoken line more (All-tail (IsTokenOf line) t more all) h)
