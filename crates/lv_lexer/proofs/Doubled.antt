-- A text between quotes: it is a text again, and says what it was made of.
use Rattle.std.proofs.Common.{◌≡◌, ℕ, Bool, true, false, cond, ◌&&◌, nat_eq, List, [], ◌∷◌, ◌++◌, refl, sym, ap, ◌∙◌, arith, inl, inr, eqb-true, codes}
use Rattle.std.proofs.lemmas.Bool.{cases_lt}
use Rattle.std.specs.Str.{IsUtf8, is_utf8, encode_utf8_all, all_scalars}
use Rattle.std.proofs.lemmas.Str.{encode_ascii, IsUtf8-append, IsUtf8-from_is_utf8, is_utf8-from_IsUtf8}
use lib.Utf8.{encode, scalar}
use Rattle.lv_values.specs.Print.{doubled, quoted}
use Rattle.lv_lexer.proofs.Undoubled.{NoQuotes, no_quotes, quote}

-- bytes without quotes stay
stay : (xs rest : List ℕ) → NoQuotes xs → doubled (xs ++ rest) ≡ xs ++ doubled rest
stay [] rest n = refl
stay (x ∷ xs) rest n = rw n.0 (ap (λ ys. x ∷ ys) (stay xs rest n.1))

-- quotes are doubled alike in characters and in bytes
doubled-encodes : (cs : List ℕ) → doubled (encode_utf8_all cs) ≡ encode_utf8_all (doubled cs)
doubled-encodes [] = refl
doubled-encodes (c ∷ cs) = by (nat_eq c 39) refl (doubled-encodes cs)
  where
    by : (t : Bool) → nat_eq c 39 ≡ t → doubled (encode_utf8_all cs) ≡ encode_utf8_all (doubled cs)
        → doubled (encode c ++ encode_utf8_all cs) ≡ encode_utf8_all (cond t (39 ∷ 39 ∷ doubled cs) (c ∷ doubled cs))
    by true e more =
        let one : encode c ≡ 39 ∷ [] = ap encode (eqb-true c 39 e) ∙ quote in
        let two : encode_utf8_all (39 ∷ 39 ∷ doubled cs) ≡ 39 ∷ 39 ∷ encode_utf8_all (doubled cs) =
        ap (λ (bytes : List ℕ). bytes ++ (encode 39 ++ encode_utf8_all (doubled cs))) quote ∙ ap (λ (bytes : List ℕ). 39 ∷ (bytes ++ encode_utf8_all (doubled cs))) quote in
        ap (λ (bytes : List ℕ). doubled (bytes ++ encode_utf8_all cs)) one ∙ ap (λ (bytes : List ℕ). 39 ∷ 39 ∷ bytes) more ∙ sym two
    by false e more = elim (cases_lt c 128) [
      | inl h ↦
          let one = encode_ascii c h in
          let first : doubled (c ∷ encode_utf8_all cs) ≡ c ∷ doubled (encode_utf8_all cs) = rw e refl in
          ap (λ (bytes : List ℕ). doubled (bytes ++ encode_utf8_all cs)) one ∙ first ∙ ap (λ (bytes : List ℕ). c ∷ bytes) more ∙ sym (ap (λ (bytes : List ℕ). bytes ++ encode_utf8_all (doubled cs)) one)
      | inr h ↦ stay (encode c) (encode_utf8_all cs) (no_quotes c h) ∙ ap (λ (bytes : List ℕ). encode c ++ bytes) more
    ]

scalars-doubled : (cs : List ℕ) → all_scalars cs ≡ true → all_scalars (doubled cs) ≡ true
scalars-doubled [] h = h
scalars-doubled (c ∷ cs) h = by (nat_eq c 39) (scalar c) refl h (scalars-doubled cs)
  where
    by : (t u : Bool) → scalar c ≡ u → (u && all_scalars cs) ≡ true → (all_scalars cs ≡ true → all_scalars (doubled cs) ≡ true)
        → all_scalars (cond t (39 ∷ 39 ∷ doubled cs) (c ∷ doubled cs)) ≡ true
    by true true e h more = more h
    by false true e h more = rw e (more h)
    by t false e h more = absurd cc

quote_is_utf8 : IsUtf8 (39 ∷ [])
quote_is_utf8 = (39 ∷ [], (refl, ap (λ (bytes : List ℕ). bytes ++ []) quote))

pub quoted_is_utf8 : (t : List ℕ) → IsUtf8 t → IsUtf8 (quoted t)
quoted_is_utf8 t (cs, (ok, are)) =
    let inside : IsUtf8 (doubled t) = (doubled cs, (scalars-doubled cs ok, sym (doubled-encodes cs) ∙ ap doubled are)) in
    IsUtf8-append (codes "'" ++ doubled t) (codes "'") (IsUtf8-append (codes "'") (doubled t) quote_is_utf8 inside) quote_is_utf8

-- what is appended to a text is a text again
pub utf8_append : (line bytes : List ℕ) → is_utf8 line ≡ true → IsUtf8 bytes → is_utf8 (line ++ bytes) ≡ true
utf8_append line bytes h u = is_utf8-from_IsUtf8 (line ++ bytes) (IsUtf8-append line bytes (IsUtf8-from_is_utf8 line h) u)

pub space_is_utf8 : IsUtf8 (codes " ")
space_is_utf8 = (32 ∷ [], (refl, ap (λ (bytes : List ℕ). bytes ++ []) (encode_ascii 32 (omega arith))))
