-- What a piece of each kind is.
use Rattle.std.proofs.Common.{◌≡◌, ℕ, ◌+◌, Bool, true, false, List, ◌∷◌, Option, Some, None, option_map, nat_eq, nat_le, cond, refl, ap, subst}
use Rattle.std.specs.Char.{is_ascii_digit}
use Rattle.std.specs.List.{prefix_len}
use Rattle.lv_values.specs.Names.{is_letter, is_word_byte}
use Rattle.lv_lexer.specs.declared.terminals.Class.{Class}
use Rattle.lv_lexer.specs.declared.token.TokenKind.{TokenKind}
use Rattle.lv_lexer.specs.declared.token.TokenKind.TheVariants.{Word, Number, Text, Sign}
use Rattle.lv_lexer.specs.Piece.{piece, closing, number_of}
use Rattle.lv_lexer.specs.Signs.{sign_at}

-- a piece, where the tests of its first byte and the parts are known
abbrev shape : Bool → Bool → Bool → ℕ → ℕ → Option ℕ → Option (Class × ℕ) → Option (TokenKind × ℕ)
shape letter digit quote word number text sign =
    cond letter (Some (Word, word))
    (cond digit (number_of number) (cond quote (option_map (λ n. (Text, 1 + n)) text) (option_map (λ found. (Sign, found.1)) sign)))

-- what is known of a piece of this kind and this length
abbrev pub IsPart : Bool → Bool → Bool → ℕ → ℕ → Option ℕ → Option (Class × ℕ) → TokenKind → ℕ → Type 0
IsPart letter digit quote word number text sign Word n = (letter ≡ true) × (n ≡ word)
IsPart letter digit quote word number text sign Number n = (letter ≡ false) × (digit ≡ true) × (n ≡ number) × (nat_le number 38 ≡ true)
IsPart letter digit quote word number text sign Text n = (letter ≡ false) × (digit ≡ false) × (quote ≡ true) × ((m : ℕ) × (text ≡ Some m) × (n ≡ 1 + m))
IsPart letter digit quote word number text sign Sign n = (letter ≡ false) × (digit ≡ false) × (quote ≡ false) × ((class : Class) × (sign ≡ Some (class, n)))

some_pair : (k l : TokenKind) (m n : ℕ) → ◌≡◌ {A = Option (TokenKind × ℕ)} (Some (k, m)) (Some (l, n)) → (k ≡ l) × (m ≡ n)
some_pair k l m n e =
    let at : Option (TokenKind × ℕ) → TokenKind × ℕ = λ o. elim o [ None ↦ (k, m) | Some p ↦ p ] in (ap (λ o. (at o).0) e, ap (λ o. (at o).1) e)

module _ (letter digit quote : Bool) (word number : ℕ) (text : Option ℕ) (sign : Option (Class × ℕ)) where
  there : (k l : TokenKind) (m n : ℕ) → IsPart letter digit quote word number text sign k m → ◌≡◌ {A = Option (TokenKind × ℕ)} (Some (k, m)) (Some (l, n)) → IsPart letter digit quote word number text sign l n
  there k l m n part e =
      let same = some_pair k l m n e in
      let P : TokenKind → Type 0 = λ x. IsPart letter digit quote word number text sign x n in
      let Q : ℕ → Type 0 = λ x. IsPart letter digit quote word number text sign k x in
      subst P same.0 (subst Q same.1 part)

parts : (letter digit quote : Bool) (word number : ℕ) (text : Option ℕ) (sign : Option (Class × ℕ)) (k : TokenKind) (n : ℕ) → shape letter digit quote word number text sign ≡ Some (k, n) → IsPart letter digit quote word number text sign k n
parts true digit quote word number text sign k n e = there true digit quote word number text sign Word k word n (refl, refl) e
parts false true quote word number text sign k n e = by (nat_le number 38) refl e
  where
    by : (small : Bool) → nat_le number 38 ≡ small → cond {A = Option (TokenKind × ℕ)} small (Some (Number, number)) None ≡ Some (k, n) → IsPart false true quote word number text sign k n
    by true s e = there false true quote word number text sign Number k number n (refl, refl, refl, s) e
    by false s e = absurd cc
parts false false true word number None sign k n e = absurd cc
parts false false true word number (Some m) sign k n e = there false false true word number (Some m) sign Text k (1 + m) n (refl, refl, refl, (m, refl, refl)) e
parts false false false word number text None k n e = absurd cc
parts false false false word number text (Some found) k n e = there false false false word number text (Some found) Sign k found.1 n (refl, refl, refl, (found.0, refl)) e

-- what is known of the token that begins these bytes
abbrev pub IsPiece : ℕ → List ℕ → TokenKind → ℕ → Type 0
IsPiece b bytes k n = IsPart (is_letter b) (is_ascii_digit b) (nat_eq b 39) (1 + prefix_len is_word_byte bytes) (1 + prefix_len is_ascii_digit bytes) (closing bytes) (sign_at (b ∷ bytes)) k n

pub piece_is : (b : ℕ) (bytes : List ℕ) (k : TokenKind) (n : ℕ) → piece (b ∷ bytes) ≡ Some (k, n) → IsPiece b bytes k n
unfolding piece
piece_is b bytes k n e =
    parts (is_letter b) (is_ascii_digit b) (nat_eq b 39) (1 + prefix_len is_word_byte bytes) (1 + prefix_len is_ascii_digit bytes) (closing bytes) (sign_at (b ∷ bytes)) k n e

back : (letter digit quote : Bool) (word number : ℕ) (text : Option ℕ) (sign : Option (Class × ℕ)) (k : TokenKind) (n : ℕ) → IsPart letter digit quote word number text sign k n → shape letter digit quote word number text sign ≡ Some (k, n)
back letter digit quote word number text sign Word n (l, e) = rw (l, e) refl
back letter digit quote word number text sign Number n (l, d, e, s) = rw (l, d, s, e) refl
back letter digit quote word number text sign Text n (l, d, q, (m, t, e)) = rw (l, d, q, t, e) refl
back letter digit quote word number text sign Sign n (l, d, q, (class, s)) = rw (l, d, q, s) refl

pub piece_by : (b : ℕ) (bytes : List ℕ) (k : TokenKind) (n : ℕ) → IsPiece b bytes k n → piece (b ∷ bytes) ≡ Some (k, n)
unfolding piece
piece_by b bytes k n known =
    back (is_letter b) (is_ascii_digit b) (nat_eq b 39) (1 + prefix_len is_word_byte bytes) (1 + prefix_len is_ascii_digit bytes) (closing bytes) (sign_at (b ∷ bytes)) k n known
