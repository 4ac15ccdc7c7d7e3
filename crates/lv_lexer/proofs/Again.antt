-- A written line is cut into the tokens that were written.
use Rattle.std.proofs.Common.{◌≡◌, ℕ, suc, ◌+◌, ◌-◌, Bool, true, false, not, cond, ◌&&◌, ◌||◌, nat_eq, nat_le, List, [], ◌∷◌, ◌++◌, length, take, drop, get_or, slice_range, Option, Some, None, refl, sym, ap, ◌∙◌, subst, append_assoc, arith, eqb-true, length-append}
use Rattle.std.specs.Char.{is_ascii_digit}
use Rattle.std.specs.List.{prefix_len}
use Rattle.std.proofs.lemmas.Bool.Decides.{nat_tests}
use Rattle.std.proofs.lemmas.Bool.{false≢true, false_from_ne_true}
use Rattle.std.proofs.Math.Bool.{and-false}
use Rattle.std.proofs.lemmas.List.{append-nil}
use Rattle.lv_values.specs.Names.{is_letter, is_word_byte, is_blank}
use Rattle.lv_lexer.specs.declared.terminals.Class.{Class}
use Rattle.lv_lexer.specs.declared.token.Token.{Token}
use Rattle.lv_lexer.specs.declared.token.TokenKind.{TokenKind}
use Rattle.lv_lexer.specs.declared.token.TokenKind.TheVariants.{Word, Number, Text, Sign}
use Rattle.lv_lexer.specs.Piece.{piece, closing}
use Rattle.lv_lexer.specs.Signs.{sign_at, long_signs, short_signs}
use Rattle.lv_lexer.specs.Scan.{Scans, is_over, after_blanks, Spells}
use Rattle.lv_lexer.specs.Written.{Lexeme, Written, is_word, gap, space_if, with_token, with_tokens, nothing, line_of, signs_part, can_follow, CanBeRead, AreWritten}
use Rattle.lv_lexer.proofs.Quotes.{further}
use Rattle.lv_lexer.specs.declared.terminals.Class.TheVariants as k
use Rattle.lv_lexer.proofs.Fronts.{fits, found_is}
use Rattle.lv_lexer.proofs.Sorts.{IsPiece, piece_is, piece_by}

-- ---- a run, a text and a sign go no further

run_stops : (p : ℕ → Bool) (rest : List ℕ) → p (get_or rest 0 0) ≡ false → prefix_len p rest ≡ 0
run_stops p [] e = refl
run_stops p (r ∷ rest) e = rw e refl

run_same : (p : ℕ → Bool) (bytes rest : List ℕ) → prefix_len p bytes ≡ length bytes → p (get_or rest 0 0) ≡ false → prefix_len p (bytes ++ rest) ≡ length bytes
run_same p [] rest e f = run_stops p rest f
run_same p (b ∷ bytes) rest e f = by (p b) refl e (λ h. run_same p bytes rest h f)
  where
    by : (t : Bool) → p b ≡ t → cond t (1 + prefix_len p bytes) 0 ≡ suc (length bytes) → (prefix_len p bytes ≡ length bytes → prefix_len p (bytes ++ rest) ≡ length bytes)
        → cond t (1 + prefix_len p (bytes ++ rest)) 0 ≡ suc (length bytes)
    by true q e more = omega (arith, more (omega arith))
    by false q e more = absurd (omega arith)

closed_is : (n : ℕ) (o : Option ℕ) (m : ℕ) → further n o ≡ Some (n + m) → o ≡ Some m
closed_is n None m e = absurd cc
closed_is n (Some k) m e = let h : n + k ≡ n + m = cc in ap (λ (i : ℕ). Some i) (omega arith)

closing_same : (bytes rest : List ℕ) → closing bytes ≡ Some (length bytes) → nat_eq (get_or rest 0 0) 39 ≡ false → closing (bytes ++ rest) ≡ Some (length bytes)
closing_same [] rest e f = absurd cc
closing_same (b ∷ []) [] e f = e
closing_same (b ∷ []) (r ∷ rest) e f = by (nat_eq b 39) e
  where
    by : (t : Bool) → cond {A = Option ℕ} t (Some 1) None ≡ Some 1 → cond {A = Option ℕ} t (cond (nat_eq r 39) (further 2 (closing rest)) (Some 1)) (further 1 (closing (r ∷ rest))) ≡ Some 1
    by true e = rw f refl
    by false e = absurd cc
closing_same (b ∷ c ∷ bytes) rest e f = by (nat_eq b 39) (nat_eq c 39) refl refl e (λ h. closing_same bytes rest h f) (λ h. closing_same (c ∷ bytes) rest h f)
  where
    by : (t u : Bool) → nat_eq b 39 ≡ t → nat_eq c 39 ≡ u → cond t (cond u (further 2 (closing bytes)) (Some 1)) (further 1 (closing (c ∷ bytes))) ≡ Some (suc (suc (length bytes)))
        → (closing bytes ≡ Some (length bytes) → closing (bytes ++ rest) ≡ Some (length bytes))
        → (closing (c ∷ bytes) ≡ Some (suc (length bytes)) → closing (c ∷ bytes ++ rest) ≡ Some (suc (length bytes)))
        → cond t (cond u (further 2 (closing (bytes ++ rest))) (Some 1)) (further 1 (closing (c ∷ bytes ++ rest))) ≡ Some (suc (suc (length bytes)))
    by true true q r e two one =
        let two_more : suc (suc (length bytes)) ≡ 2 + length bytes = omega arith in
        ap (further 2) (two (closed_is 2 (closing bytes) (length bytes) (e ∙ ap (λ (i : ℕ). Some i) two_more))) ∙ ap (λ (i : ℕ). Some i) (sym two_more)
    by true false q r e two one = let bad : 1 ≡ suc (suc (length bytes)) = cc in absurd (omega arith)
    by false u q r e two one =
        let one_more : suc (suc (length bytes)) ≡ 1 + suc (length bytes) = omega arith in
        ap (further 1) (one (closed_is 1 (closing (c ∷ bytes)) (suc (length bytes)) (e ∙ ap (λ (i : ℕ). Some i) one_more))) ∙ ap (λ (i : ℕ). Some i) (sym one_more)

turned : (c n : ℕ) → nat_eq c n ≡ false → nat_eq n c ≡ false
turned c n e = grind (arith, nat_tests)

sign_two : (b c : ℕ) (rest : List ℕ) → sign_at (b ∷ c ∷ rest) ≡ sign_at (b ∷ c ∷ [])
sign_two b c rest = refl

-- behind a sign of one byte stands none that makes it longer
sign_one : (b c : ℕ) (rest : List ℕ) → nat_eq c 61 ≡ false → nat_eq c 62 ≡ false → sign_at (b ∷ c ∷ rest) ≡ sign_at (b ∷ [])
sign_one b c rest e f = rw (turned c 62 f, turned c 61 e) (simp and-false)

all_false : (x y z : Bool) → not (x || y || z) ≡ true → (x ≡ false) × (y ≡ false) × (z ≡ false)
all_false false false false e = (refl, refl, refl)
all_false false false true e = absurd cc
all_false false true z e = absurd cc
all_false true y z e = absurd cc

-- what may begin right behind a token of this kind, whose first byte is b, so that the token ends there
abbrev pub Ends : TokenKind → ℕ → ℕ → Type 0
Ends Word b next = is_word_byte next ≡ false
Ends Number b next = is_ascii_digit next ≡ false
Ends Text b next = nat_eq next 39 ≡ false
Ends Sign b next = signs_part b next ≡ true

sign_same : (b : ℕ) (bytes rest : List ℕ) (class : Class) → sign_at (b ∷ bytes) ≡ Some (class, suc (length bytes)) → signs_part b (get_or rest 0 0) ≡ true
    → sign_at (b ∷ (bytes ++ rest)) ≡ Some (class, suc (length bytes))
sign_same b [] [] class s e = s
sign_same b [] (c ∷ rest) class s e = let ends = all_false (nat_eq c 61) (nat_eq c 62) (nat_eq b 45 && nat_eq c 45) e in sign_one b c rest ends.0 ends.1 ∙ s
sign_same b (c ∷ []) rest class s e = sign_two b c rest ∙ s
sign_same b (c ∷ d ∷ bytes) rest class s e =
    absurd (omega (arith, (fits (long_signs ++ short_signs) (b ∷ c ∷ []) class (suc (suc (suc (length bytes)))) (sym (sign_two b c (d ∷ bytes)) ∙ s)).within))

known_goes_on : (b : ℕ) (bytes rest : List ℕ) (kind : TokenKind) → IsPiece b bytes kind (suc (length bytes)) → Ends kind b (get_or rest 0 0) → IsPiece b (bytes ++ rest) kind (suc (length bytes))
known_goes_on b bytes rest Word (l, e) ends = (l, omega (arith, run_same is_word_byte bytes rest (omega arith) ends))
known_goes_on b bytes rest Number (l, d, e, s) ends =
    let same = run_same is_ascii_digit bytes rest (omega arith) ends in
    let small : nat_le (1 + prefix_len is_ascii_digit (bytes ++ rest)) 38 ≡ true = ap (λ (n : ℕ). nat_le (1 + n) 38) (same ∙ omega arith) ∙ s in
    (l, d, omega (arith, same), small)
known_goes_on b bytes rest Text (l, d, q, (m, t, e)) ends =
    let whole : m ≡ length bytes = omega arith in
    (l, d, q, (length bytes, closing_same bytes rest (t ∙ ap (λ (i : ℕ). Some i) whole) ends, omega arith))
known_goes_on b bytes rest Sign (l, d, q, (class, s)) ends = (l, d, q, (class, sign_same b bytes rest class s ends))

pub goes_on : (b : ℕ) (bytes rest : List ℕ) (kind : TokenKind) → Spells (b ∷ bytes) kind → Ends kind b (get_or rest 0 0) → piece (b ∷ (bytes ++ rest)) ≡ Some (kind, suc (length bytes))
goes_on b bytes rest kind e ends =
    piece_by b (bytes ++ rest) kind (suc (length bytes)) (known_goes_on b bytes rest kind (piece_is b bytes kind (suc (length bytes)) e) ends)

-- ---- first bytes

pub letter_is : (b : ℕ) → is_letter b ≡ true → (is_ascii_digit b ≡ false) × (is_blank b ≡ false) × (nat_eq b 39 ≡ false) × (nat_eq b 45 ≡ false) × (nat_eq b 61 ≡ false) × (nat_eq b 62 ≡ false)
letter_is b e = grind (arith, nat_tests)

pub digit_is : (b : ℕ) → is_ascii_digit b ≡ true → (is_blank b ≡ false) × (nat_eq b 39 ≡ false) × (nat_eq b 45 ≡ false) × (nat_eq b 61 ≡ false) × (nat_eq b 62 ≡ false)
digit_is b e = grind (arith, nat_tests)

-- the first byte of a token of this kind
abbrev pub Begins : TokenKind → ℕ → Type 0
Begins Word b = is_letter b ≡ true
Begins Number b = is_ascii_digit b ≡ true
Begins Text b = nat_eq b 39 ≡ true
Begins Sign b = (is_letter b ≡ false) × (is_ascii_digit b ≡ false) × (nat_eq b 39 ≡ false)

quote_is : (P : ℕ → Type 0) (b : ℕ) → nat_eq b 39 ≡ true → P 39 → P b
quote_is P b e p = subst P (sym (eqb-true b 39 e)) p

either_true : (x y : Bool) (A : Type 0) → (x || y) ≡ true → (x ≡ true → A) → (y ≡ true → A) → A
either_true true y A e f g = f refl
either_true false y A e f g = g e

blank_is_no_sign : (b : ℕ) (bytes : List ℕ) (class : Class) (n : ℕ) → sign_at (b ∷ bytes) ≡ Some (class, n) → is_blank b ≡ false
blank_is_no_sign b bytes class n s = false_from_ne_true (is_blank b) (λ (q : is_blank b ≡ true).
    let P : ℕ → Type 0 = λ x. sign_at (x ∷ bytes) ≡ Some (class, n) in
    either_true (nat_eq b 32) (nat_eq b 9) ⊥ q
    (λ e. let h : sign_at (32 ∷ bytes) ≡ Some (class, n) = subst P (eqb-true b 32 e) s in absurd (none_is class n h))
    (λ e. let h : sign_at (9 ∷ bytes) ≡ Some (class, n) = subst P (eqb-true b 9 e) s in absurd (none_is class n h)))
  where
    none_is : (class : Class) (n : ℕ) → ◌≡◌ {A = Option (Class × ℕ)} None (Some (class, n)) → ⊥
    none_is class n e = cc

first_of : (b : ℕ) (bytes : List ℕ) (kind : TokenKind) → IsPiece b bytes kind (suc (length bytes)) → Begins kind b × (is_blank b ≡ false)
first_of b bytes Word (l, e) = (l, (letter_is b l).1)
first_of b bytes Number (l, d, e, s) = (d, (digit_is b d).0)
first_of b bytes Text (l, d, q, t) = (q, quote_is (λ x. is_blank x ≡ false) b q refl)
first_of b bytes Sign (l, d, q, (class, s)) = ((l, d, q), blank_is_no_sign b bytes class (suc (length bytes)) s)

pub first_byte : (b : ℕ) (bytes : List ℕ) (kind : TokenKind) → Spells (b ∷ bytes) kind → Begins kind b × (is_blank b ≡ false)
first_byte b bytes kind e = first_of b bytes kind (piece_is b bytes kind (suc (length bytes)) e)

no_longer_sign : (b c : ℕ) → nat_eq c 45 ≡ false → nat_eq c 61 ≡ false → nat_eq c 62 ≡ false → signs_part b c ≡ true
no_longer_sign b c e f g = rw (e, f, g) (simp and-false)

-- a token ends before one that can follow it
ends_before : (k m : TokenKind) (b c : ℕ) (bytes more rest : List ℕ) → Begins m c
    → can_follow (record { kind = k; text = b ∷ bytes }) (record { kind = m; text = c ∷ more }) ≡ true
    → Ends k b (get_or (gap (is_word k) m ++ (c ∷ more ++ rest)) 0 0)
ends_before Word Word b c bytes more rest f e = refl
ends_before Word Number b c bytes more rest f e = refl
ends_before Word Text b c bytes more rest f e = quote_is (λ x. is_word_byte x ≡ false) c f refl
ends_before Word Sign b c bytes more rest (l, d, q) e = rw (l, d) refl
ends_before Number Word b c bytes more rest f e = (letter_is c f).0
ends_before Number Number b c bytes more rest f e = absurd (false≢true e)
ends_before Number Text b c bytes more rest f e = quote_is (λ x. is_ascii_digit x ≡ false) c f refl
ends_before Number Sign b c bytes more rest (l, d, q) e = d
ends_before Text Word b c bytes more rest f e = (letter_is c f).2
ends_before Text Number b c bytes more rest f e = (digit_is c f).1
ends_before Text Text b c bytes more rest f e = absurd (false≢true e)
ends_before Text Sign b c bytes more rest (l, d, q) e = q
ends_before Sign Word b c bytes more rest f e = let k = letter_is c f in no_longer_sign b c k.3 k.4 k.5
ends_before Sign Number b c bytes more rest f e = let k = digit_is c f in no_longer_sign b c k.2 k.3 k.4
ends_before Sign Text b c bytes more rest f e = quote_is (λ x. signs_part b x ≡ true) c f (no_longer_sign b 39 refl refl refl)
ends_before Sign Sign b c bytes more rest f e = e

ends_at_last : (k : TokenKind) (b : ℕ) → Ends k b 0
ends_at_last Word b = refl
ends_at_last Number b = refl
ends_at_last Text b = refl
ends_at_last Sign b = no_longer_sign b 0 refl refl refl

-- ---- no comment begins

not_minus : (b : ℕ) (rest : List ℕ) → nat_eq b 45 ≡ false → is_over (b ∷ rest) ≡ false
not_minus b rest e = rw (turned b 45 e) refl

minus_alone : (b : ℕ) (rest : List ℕ) → nat_eq (get_or rest 0 0) 45 ≡ false → is_over (b ∷ rest) ≡ false
minus_alone b [] e = simp and-false
minus_alone b (c ∷ rest) e = rw (turned c 45 e) (simp and-false)

minus_is_short : (c : ℕ) (bytes : List ℕ) (class : Class) → sign_at (45 ∷ c ∷ bytes) ≡ Some (class, suc (suc (length bytes))) → ⊥
minus_is_short c bytes class s = let h : (1 ≡ suc (suc (length bytes))) = (found_is k.Minus class 1 (suc (suc (length bytes))) s).1 in omega arith

sign_not_over : (b : ℕ) (bytes rest : List ℕ) (class : Class) → sign_at (b ∷ bytes) ≡ Some (class, suc (length bytes)) → signs_part b (get_or rest 0 0) ≡ true → is_over (b ∷ (bytes ++ rest)) ≡ false
sign_not_over b bytes rest class s e = by (nat_eq b 45) refl
  where
    minus : (bytes : List ℕ) → nat_eq b 45 ≡ true → sign_at (b ∷ bytes) ≡ Some (class, suc (length bytes)) → is_over (b ∷ (bytes ++ rest)) ≡ false
    minus [] q s =
        let both = (all_false (nat_eq (get_or rest 0 0) 61) (nat_eq (get_or rest 0 0) 62) (nat_eq b 45 && nat_eq (get_or rest 0 0) 45) e).2 in
        minus_alone b rest (ap (λ (t : Bool). t && nat_eq (get_or rest 0 0) 45) (sym q) ∙ both)
    minus (c ∷ bytes) q s = let P : ℕ → Type 0 = λ x. sign_at (x ∷ c ∷ bytes) ≡ Some (class, suc (suc (length bytes))) in absurd (minus_is_short c bytes class (subst P (eqb-true b 45 q) s))

    by : (t : Bool) → nat_eq b 45 ≡ t → is_over (b ∷ (bytes ++ rest)) ≡ false
    by true q = minus bytes q s
    by false q = not_minus b (bytes ++ rest) q

known_not_over : (b : ℕ) (bytes rest : List ℕ) (kind : TokenKind) → IsPiece b bytes kind (suc (length bytes)) → Ends kind b (get_or rest 0 0) → is_over (b ∷ (bytes ++ rest)) ≡ false
known_not_over b bytes rest Word (l, e) ends = not_minus b (bytes ++ rest) (letter_is b l).3
known_not_over b bytes rest Number (l, d, e, s) ends = not_minus b (bytes ++ rest) (digit_is b d).2
known_not_over b bytes rest Text (l, d, q, t) ends = not_minus b (bytes ++ rest) (quote_is (λ x. nat_eq x 45 ≡ false) b q refl)
known_not_over b bytes rest Sign (l, d, q, (class, s)) ends = sign_not_over b bytes rest class s ends

-- ---- the line

-- the tokens, behind a word or not
abbrev pub spelled : Bool → List Lexeme → List ℕ
spelled after_word [] = []
spelled after_word (x ∷ xs) = gap after_word x.kind ++ (x.text ++ spelled (is_word x.kind) xs)

pub line_spelled : (w : Written) (xs : List Lexeme) → (with_tokens w xs).line ≡ w.line ++ spelled w.after_word xs
line_spelled w [] = sym (append-nil w.line)
line_spelled w (x ∷ xs) = line_spelled (with_token w x) xs ∙ simp append_assoc

-- the tokens with their places, from this offset on
abbrev pub placed : ℕ → Bool → List Lexeme → List Token
placed at after_word [] = []
placed at after_word (x ∷ xs) =
    record { kind = x.kind; start = at + length (gap after_word x.kind); end = at + length (gap after_word x.kind) + length x.text }
    ∷ placed (at + length (gap after_word x.kind) + length x.text) (is_word x.kind) xs

blanks_of : (space : Bool) (bytes : List ℕ) → prefix_len is_blank bytes ≡ 0 → prefix_len is_blank (space_if space ++ bytes) ≡ length (space_if space)
blanks_of true bytes e = rw e refl
blanks_of false bytes e = e

gap_blanks : (space : Bool) (kind : TokenKind) (bytes : List ℕ) → prefix_len is_blank bytes ≡ 0 → prefix_len is_blank (gap space kind ++ bytes) ≡ length (gap space kind)
gap_blanks space Word bytes e = blanks_of space bytes e
gap_blanks space Number bytes e = blanks_of space bytes e
gap_blanks space Text bytes e = e
gap_blanks space Sign bytes e = e

drop_front : (front rest : List ℕ) → drop (length front) (front ++ rest) ≡ rest
drop_front [] rest = refl
drop_front (x ∷ front) rest = drop_front front rest

token_scans : (at : ℕ) (space : Bool) (kind : TokenKind) (b : ℕ) (bytes rest : List ℕ) (more : List Token) (stopped : Option ℕ)
    → Spells (b ∷ bytes) kind → Ends kind b (get_or rest 0 0) → Scans (at + length (gap space kind) + suc (length bytes)) rest more stopped
    → Scans at (gap space kind ++ (b ∷ (bytes ++ rest))) (record { kind = kind; start = at + length (gap space kind); end = at + length (gap space kind) + suc (length bytes) } ∷ more) stopped
token_scans at space kind b bytes rest more stopped e ends h =
    let text = b ∷ (bytes ++ rest) in
    let start = at + length (gap space kind) in
    let known = piece_is b bytes kind (suc (length bytes)) e in
    let first : prefix_len is_blank text ≡ 0 = rw (first_of b bytes kind known).1 refl in
    let blanks : prefix_len is_blank (gap space kind ++ text) ≡ length (gap space kind) = gap_blanks space kind text first in
    let after : after_blanks (gap space kind ++ text) ≡ text = ap (λ (n : ℕ). drop n (gap space kind ++ text)) blanks ∙ drop_front (gap space kind) text in
    let len : start + suc (length bytes) - start ≡ suc (length bytes) = omega arith in
    let P : List ℕ → Type 0 = λ left. Scans (start + suc (length bytes)) left more stopped in
    let left : drop (start + suc (length bytes) - start) (after_blanks (gap space kind ++ text)) ≡ rest =
    ap (drop (start + suc (length bytes) - start)) after ∙ ap (λ (n : ℕ). drop n text) len ∙ drop_front (b ∷ bytes) rest in (
      ap is_over after ∙ known_not_over b bytes rest kind known ends,
      ap piece after ∙ goes_on b bytes rest kind e ends ∙ ap (λ (n : ℕ). Some (kind, n)) (sym len),
      ap (λ (n : ℕ). at + n) (sym blanks),
      omega arith,
      subst P (sym left) h,
    )

step : (at : ℕ) (space : Bool) (kind : TokenKind) (text rest : List ℕ) (more : List Token) (stopped : Option ℕ)
    → Spells text kind → ((b : ℕ) (bytes : List ℕ) → text ≡ b ∷ bytes → Ends kind b (get_or rest 0 0)) → Scans (at + length (gap space kind) + length text) rest more stopped
    → Scans at (gap space kind ++ (text ++ rest)) (record { kind = kind; start = at + length (gap space kind); end = at + length (gap space kind) + length text } ∷ more) stopped
unfolding piece
step at space kind [] rest more stopped e ends h = absurd cc
step at space kind (b ∷ bytes) rest more stopped e ends h = token_scans at space kind b bytes rest more stopped e (ends b bytes refl) h

ends_for : (k m : TokenKind) (s t rest : List ℕ) → Spells t m → can_follow (record { kind = k; text = s }) (record { kind = m; text = t }) ≡ true
    → (b : ℕ) (bytes : List ℕ) → s ≡ b ∷ bytes → Ends k b (get_or (gap (is_word k) m ++ (t ++ rest)) 0 0)
unfolding piece
ends_for k m s [] rest e f b bytes is = absurd cc
ends_for k m s (c ∷ more) rest e f b bytes is =
    let P : List ℕ → Type 0 = λ x. can_follow (record { kind = k; text = x }) (record { kind = m; text = c ∷ more }) ≡ true in
    ends_before k m b c bytes more rest (first_byte c more m e).0 (subst P is f)

-- what is written is cut into what was written
pub scans_written : (at : ℕ) (space : Bool) (xs : List Lexeme) → CanBeRead xs → Scans at (spelled space xs) (placed at space xs) None
scans_written at space [] h = refl
scans_written at space (x ∷ []) h =
    step at space x.kind x.text [] [] None h (λ b bytes is. ends_at_last x.kind b) refl
scans_written at space (x ∷ y ∷ more) (e, f, h) =
    step at space x.kind x.text (spelled (is_word x.kind) (y ∷ more)) (placed (at + length (gap space x.kind) + length x.text) (is_word x.kind) (y ∷ more)) None e
    (ends_for x.kind y.kind x.text y.text (spelled (is_word y.kind) more) (first_spelled y more h) f) (scans_written (at + length (gap space x.kind) + length x.text) (is_word x.kind) (y ∷ more) h)
  where
    first_spelled : (y : Lexeme) (more : List Lexeme) → CanBeRead (y ∷ more) → Spells y.text y.kind
    first_spelled y [] h = h
    first_spelled y (z ∷ more) h = h.0

-- ---- the texts of the tokens

pub take_front : (text rest : List ℕ) → take (length text) (text ++ rest) ≡ text
take_front [] rest = refl
take_front (x ∷ text) rest = ap (λ (ys : List ℕ). x ∷ ys) (take_front text rest)

slice_at : (front text rest : List ℕ) (start end : ℕ) → start ≡ length front → end ≡ start + length text → slice_range (front ++ (text ++ rest)) start end ≡ text
slice_at front text rest start end s e =
    let len : end - start ≡ length text = omega arith in
    ap (λ (n : ℕ). take n (drop start (front ++ (text ++ rest)))) len ∙ ap (λ (n : ℕ). take (length text) (drop n (front ++ (text ++ rest)))) s
    ∙ ap (take (length text)) (drop_front front (text ++ rest)) ∙ take_front text rest

are_written : (front : List ℕ) (at : ℕ) (space : Bool) (xs : List Lexeme) → at ≡ length front → AreWritten (front ++ spelled space xs) (placed at space xs) xs
are_written front at space [] e = tt
are_written front at space (x ∷ xs) e =
    let g = gap space x.kind in
    let rest = spelled (is_word x.kind) xs in
    let here : front ++ (g ++ (x.text ++ rest)) ≡ (front ++ g) ++ (x.text ++ rest) = simp append_assoc in
    let there : (front ++ g ++ x.text) ++ rest ≡ front ++ (g ++ (x.text ++ rest)) = simp append_assoc in
    let start = at + length g in
    let end = start + length x.text in
    let text : slice_range (front ++ (g ++ (x.text ++ rest))) start end ≡ x.text =
    ap (λ (line : List ℕ). slice_range line start end) here ∙ slice_at (front ++ g) x.text rest start end (omega (arith, length-append front g)) refl in
    let more = are_written (front ++ g ++ x.text) end (is_word x.kind) xs (omega (arith, length-append front g, length-append (front ++ g) x.text)) in
    let P : List ℕ → Type 0 = λ line. AreWritten line (placed end (is_word x.kind) xs) xs in
    (record { kind = refl; text = text }, subst P there more)

-- A written line is cut into the tokens that were written, each with its text.
pub line_again : (xs : List Lexeme) → CanBeRead xs → Scans 0 (line_of xs) (placed 0 false xs) None × AreWritten (line_of xs) (placed 0 false xs) xs
line_again xs h =
    let line : spelled false xs ≡ line_of xs = sym (line_spelled nothing xs) in
    let P : List ℕ → Type 0 = λ l. Scans 0 l (placed 0 false xs) None in
    let Q : List ℕ → Type 0 = λ l. AreWritten l (placed 0 false xs) xs in
    (subst P line (scans_written 0 false xs h), subst Q line (are_written [] 0 false xs refl))
