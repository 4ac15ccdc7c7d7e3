-- A piece is told by its own bytes: what follows them can be cut off.
use Rattle.std.proofs.Common.{◌≡◌, ℕ, suc, ◌+◌, ◌-◌, ◌≤◌, ◌<◌, Bool, true, false, List, [], ◌∷◌, ◌++◌, length, get_or, take, Option, Some, None, option_map, nat_eq, nat_lt, ◌&&◌, cond, refl, sym, ap, ◌∙◌, subst, arith, one-add, eqb-true}
use Rattle.std.specs.Char.{is_ascii_digit}
use Rattle.std.specs.List.{starts_with, list_all, prefix_len}
use borrow.Author.Tests.{ltb-true}
use Rattle.std.proofs.lemmas.List.Sums.{prefix_len-le-length}
use Rattle.std.proofs.lemmas.Grind.{common_steps}
use Rattle.std.proofs.lemmas.List.{length-take}
use Rattle.std.proofs.lemmas.Bool.{false_from_ne_true, false≢true}
use Rattle.std.specs.Str.{bytes_eq}
use Rattle.std.proofs.lemmas.Slice.Eq.{bytes_eq-Decides}
use Rattle.lv_values.specs.Names.{is_word_byte}
use Rattle.lv_lexer.specs.declared.terminals.Class.{Class}
use Rattle.lv_lexer.specs.declared.token.TokenKind.{TokenKind}
use Rattle.lv_lexer.specs.declared.token.TokenKind.TheVariants.{Word, Number, Text, Sign}
use Rattle.lv_lexer.specs.Piece.{piece, closing}
use Rattle.lv_lexer.specs.Signs.{sign_at, first_fit, long_signs, short_signs}
use Rattle.lv_lexer.proofs.Quotes.{further, other_first, two_first}
use Rattle.lv_lexer.proofs.Sorts.{IsPiece, piece_is, piece_by}

-- a run is a run of its own bytes
pub run_front : (p : ℕ → Bool) (bytes : List ℕ) → prefix_len p (take (prefix_len p bytes) bytes) ≡ prefix_len p bytes
run_front p [] = refl
run_front p (b ∷ bytes) = by (p b) refl (run_front p bytes)
  where
    by : (t : Bool) → p b ≡ t → prefix_len p (take (prefix_len p bytes) bytes) ≡ prefix_len p bytes → prefix_len p (take (cond t (1 + prefix_len p bytes) 0) (b ∷ bytes)) ≡ cond t (1 + prefix_len p bytes) 0
    by true e more = rw (one-add (prefix_len p bytes), e) (ap (λ n. 1 + n) more ∙ one-add (prefix_len p bytes))
    by false e more = refl

-- the closing quote is in the text, and what follows it can be cut off
pub record Closes (bytes : List ℕ) (m : ℕ) : Type 0 where
  pub some : 0 < m
  pub within : m ≤ length bytes
  pub quote : (i : ℕ) → m ≡ suc i → get_or bytes i 0 ≡ 39
  pub front : closing (take m bytes) ≡ Some m

moved : (n : ℕ) (o : Option ℕ) (m : ℕ) → option_map (λ k. n + k) o ≡ Some m → (k : ℕ) × (o ≡ Some k) × (n + k ≡ m)
moved n None m e = absurd cc
moved n (Some k) m e = (k, refl, cc)

some_is : (k m : ℕ) → ◌≡◌ {A = Option ℕ} (Some k) (Some m) → k ≡ m
some_is k m e = cc

-- the quote that comes first closes
at_once : (b : ℕ) (bytes : List ℕ) (m : ℕ) → nat_eq b 39 ≡ true → 1 ≡ m → Closes (b ∷ bytes) m
at_once b bytes m q e =
    let P : ℕ → Type 0 = λ n. Closes (b ∷ bytes) n in
    subst P e (record {
      some = omega arith;
      within = omega arith;
      quote = λ i s. let z : 0 ≡ i = omega arith in subst (λ (j : ℕ). get_or (b ∷ bytes) j 0 ≡ 39) z (eqb-true b 39 q);
      front = rw q refl;
    })

-- two quotes come first
past_pair : (b c : ℕ) (bytes : List ℕ) (k : ℕ) → nat_eq b 39 ≡ true → nat_eq c 39 ≡ true → Closes bytes k → Closes (b ∷ c ∷ bytes) (suc (suc k))
past_pair b c bytes k q r more = record {
  some = omega arith;
  within = omega (arith, more.within);
  quote = λ i s.
      let z : suc (suc (k - 1)) ≡ i = omega (arith, more.some) in
      subst (λ (j : ℕ). get_or (b ∷ c ∷ bytes) j 0 ≡ 39) z (more.quote (k - 1) (omega (arith, more.some)));
  front = two_first b c (take k bytes) q r ∙ ap (further 2) more.front ∙ ap (λ (n : ℕ). Some n) (omega arith);
}

-- another byte comes first
past_one : (b c : ℕ) (bytes : List ℕ) (k : ℕ) → nat_eq b 39 ≡ false → Closes (c ∷ bytes) k → Closes (b ∷ c ∷ bytes) (suc k)
past_one b c bytes k q more = record {
  some = omega arith;
  within = omega (arith, more.within);
  quote = λ i s.
      let z : suc (k - 1) ≡ i = omega (arith, more.some) in
      subst (λ (j : ℕ). get_or (b ∷ c ∷ bytes) j 0 ≡ 39) z (more.quote (k - 1) (omega (arith, more.some)));
  front = other_first b (take k (c ∷ bytes)) q ∙ ap (further 1) more.front ∙ ap (λ (n : ℕ). Some n) (omega arith);
}

pub closes : (bytes : List ℕ) (m : ℕ) → closing bytes ≡ Some m → Closes bytes m
closes [] m e = absurd cc
closes (b ∷ []) m e = by (nat_eq b 39) refl e
  where
    by : (t : Bool) → nat_eq b 39 ≡ t → cond t (Some 1) None ≡ Some m → Closes (b ∷ []) m
    by true q e = at_once b [] m q (some_is 1 m e)
    by false q e = absurd cc
closes (b ∷ c ∷ bytes) m e = by (nat_eq b 39) (nat_eq c 39) refl refl e (closes bytes) (closes (c ∷ bytes))
  where
    by : (t u : Bool) → nat_eq b 39 ≡ t → nat_eq c 39 ≡ u
        → cond t (cond u (option_map (λ n. 2 + n) (closing bytes)) (Some 1)) (option_map (λ n. 1 + n) (closing (c ∷ bytes))) ≡ Some m
        → ((k : ℕ) → closing bytes ≡ Some k → Closes bytes k) → ((k : ℕ) → closing (c ∷ bytes) ≡ Some k → Closes (c ∷ bytes) k) → Closes (b ∷ c ∷ bytes) m
    by true true q r e two one =
        let w = moved 2 (closing bytes) m e in
        let P : ℕ → Type 0 = λ n. Closes (b ∷ c ∷ bytes) n in
        subst P (omega (arith, w.2)) (past_pair b c bytes w.0 q r (two w.0 w.1))
    by true false q r e two one = at_once b (c ∷ bytes) m q (some_is 1 m e)
    by false u q r e two one =
        let w = moved 1 (closing (c ∷ bytes)) m e in
        let P : ℕ → Type 0 = λ n. Closes (b ∷ c ∷ bytes) n in
        subst P (omega (arith, w.2)) (past_one b c bytes w.0 q (one w.0 w.1))

-- a sign is in the bytes, and what follows it can be cut off
pub record Fits (table : List (List ℕ × Class)) (bytes : List ℕ) (class : Class) (n : ℕ) : Type 0 where
  pub within : n ≤ length bytes
  pub front : first_fit table (take n bytes) ≡ Some (class, n)

pub found_is : (c d : Class) (m n : ℕ) → ◌≡◌ {A = Option (Class × ℕ)} (Some (c, m)) (Some (d, n)) → (c ≡ d) × (m ≡ n)
found_is c d m n e =
    let at : Option (Class × ℕ) → Class × ℕ = λ o. elim o [ None ↦ (c, m) | Some p ↦ p ] in (ap (λ o. (at o).0) e, ap (λ o. (at o).1) e)

-- the spelling that begins the bytes
pub begins : (bytes spelling : List ℕ) → starts_with nat_eq bytes spelling ≡ true → spelling ≡ take (length spelling) bytes
begins bytes spelling e = (bytes_eq-Decides spelling (take (length spelling) bytes)).0 e

fits_in : (bytes spelling : List ℕ) → spelling ≡ take (length spelling) bytes → length spelling ≤ length bytes
fits_in bytes spelling e = omega (arith, ap length e, length-take (length spelling) bytes)

take_take : (m n : ℕ) (bytes : List ℕ) → m ≤ n → take m (take n bytes) ≡ take m bytes
take_take m n bytes h = grind (arith, common_steps)

pub fits : (table : List (List ℕ × Class)) (bytes : List ℕ) (class : Class) (n : ℕ) → first_fit table bytes ≡ Some (class, n) → Fits table bytes class n
fits [] bytes class n e = absurd cc
fits (s ∷ more) bytes class n e = by (starts_with nat_eq bytes s.0) refl e (fits more bytes class n)
  where
    by : (t : Bool) → starts_with nat_eq bytes s.0 ≡ t → cond t (Some (s.1, length s.0)) (first_fit more bytes) ≡ Some (class, n)
        → (first_fit more bytes ≡ Some (class, n) → Fits more bytes class n) → Fits (s ∷ more) bytes class n
    by true q e rest =
        let same = found_is s.1 class (length s.0) n e in
        let here : starts_with nat_eq (take (length s.0) bytes) s.0 ≡ true = ap (bytes_eq s.0) (take_take (length s.0) (length s.0) bytes (omega arith)) ∙ q in
        let whole : Fits (s ∷ more) bytes s.1 (length s.0) = record { within = fits_in bytes s.0 (begins bytes s.0 q); front = rw here refl } in
        let P : ℕ → Type 0 = λ k. Fits (s ∷ more) bytes s.1 k in
        let Q : Class → Type 0 = λ c. Fits (s ∷ more) bytes c n in
        subst Q same.0 (subst P same.1 whole)
    by false q e rest =
        let inner = rest e in
        let short : length (take n bytes) ≤ n = omega (arith, length-take n bytes) in
        let none = false_from_ne_true (starts_with nat_eq (take n bytes) s.0) (λ (t : starts_with nat_eq (take n bytes) s.0 ≡ true).
        let there = begins (take n bytes) s.0 t in
        let long : length s.0 ≤ n = omega (arith, fits_in (take n bytes) s.0 there) in
        false≢true (sym q ∙ (bytes_eq-Decides s.0 (take (length s.0) bytes)).1 (there ∙ take_take (length s.0) n bytes long))) in
        record { within = inner.within; front = rw none inner.front }

-- a sign has bytes
pub fits_some : (table : List (List ℕ × Class)) (bytes : List ℕ) (class : Class) (n : ℕ) → list_all (λ s. nat_lt 0 (length s.0)) table ≡ true → first_fit table bytes ≡ Some (class, n) → 0 < n
fits_some [] bytes class n a e = absurd cc
fits_some (s ∷ more) bytes class n a e = by (starts_with nat_eq bytes s.0) (nat_lt 0 (length s.0)) refl a e (fits_some more bytes class n)
  where
    by : (t u : Bool) → nat_lt 0 (length s.0) ≡ u → (u && list_all (λ s. nat_lt 0 (length s.0)) more) ≡ true → cond t (Some (s.1, length s.0)) (first_fit more bytes) ≡ Some (class, n)
        → (list_all (λ s. nat_lt 0 (length s.0)) more ≡ true → first_fit more bytes ≡ Some (class, n) → 0 < n) → 0 < n
    by true true l a e rest = let same = found_is s.1 class (length s.0) n e in omega (arith, ltb-true 0 (length s.0) l)
    by true false l a e rest = absurd cc
    by false true l a e rest = rest a e
    by false false l a e rest = absurd cc

-- the bytes of a piece are a piece by themselves
pub record IsFront (bytes : List ℕ) (kind : TokenKind) (n : ℕ) : Type 0 where
  pub some : 0 < n
  pub within : n ≤ length bytes
  pub front : piece (take n bytes) ≡ Some (kind, n)

at_length : (b : ℕ) (bytes : List ℕ) (kind : TokenKind) (n r : ℕ) → suc r ≡ n → r ≤ length bytes → piece (b ∷ take r bytes) ≡ Some (kind, suc r) → IsFront (b ∷ bytes) kind n
at_length b bytes kind n r e within front =
    let P : ℕ → Type 0 = λ k. IsFront (b ∷ bytes) kind k in
    subst P e (record { some = omega arith; within = omega arith; front = front })

of_kind : (b : ℕ) (bytes : List ℕ) (kind : TokenKind) (n : ℕ) → IsPiece b bytes kind n → IsFront (b ∷ bytes) kind n
of_kind b bytes Word n (l, e) =
    let r = prefix_len is_word_byte bytes in
    at_length b bytes Word n r (omega arith) (prefix_len-le-length is_word_byte bytes)
    (piece_by b (take r bytes) Word (suc r) (l, omega (arith, run_front is_word_byte bytes)))
of_kind b bytes Number n (l, d, e, s) =
    let r = prefix_len is_ascii_digit bytes in
    at_length b bytes Number n r (omega arith) (prefix_len-le-length is_ascii_digit bytes)
    (piece_by b (take r bytes) Number (suc r) (l, d, omega (arith, run_front is_ascii_digit bytes), rw run_front s))
of_kind b bytes Text n (l, d, q, (m, t, e)) =
    let known = closes bytes m t in
    at_length b bytes Text n m (omega arith) known.within (piece_by b (take m bytes) Text (suc m) (l, d, q, (m, known.front, omega arith)))
of_kind b bytes Sign n (l, d, q, (class, s)) =
    let known = fits (long_signs ++ short_signs) (b ∷ bytes) class n s in
    let some = fits_some (long_signs ++ short_signs) (b ∷ bytes) class n refl s in
    let one : suc (n - 1) ≡ n = omega arith in
    let front : sign_at (b ∷ take (n - 1) bytes) ≡ Some (class, suc (n - 1)) =
    let P : ℕ → Type 0 = λ k. sign_at (take k (b ∷ bytes)) ≡ Some (class, k) in subst P (sym one) known.front in
    at_length b bytes Sign n (n - 1) one (omega (arith, known.within)) (piece_by b (take (n - 1) bytes) Sign (suc (n - 1)) (l, d, q, (class, front)))

pub is_front : (bytes : List ℕ) (kind : TokenKind) (n : ℕ) → piece bytes ≡ Some (kind, n) → IsFront bytes kind n
unfolding piece
is_front [] kind n e = absurd cc
is_front (b ∷ bytes) kind n e = of_kind b bytes kind n (piece_is b bytes kind n e)
