-- A text in which pairs of quotes become one quote is still a text.
use Rattle.std.proofs.Common.{◌≡◌, ℕ, ◌+◌, ◌<◌, ◌≤◌, Bool, true, false, cond, ◌&&◌, nat_eq, ltb, ◌/◌, ◌%◌, List, [], ◌∷◌, ◌++◌, length, get_or, refl, sym, ap, ◌∙◌, arith, inl, inr, eqb-true, eq-eqb}
use Rattle.std.proofs.lemmas.Bool.{cases_lt, false≢true, false_from_ne_true}
use Rattle.std.proofs.lemmas.Bool.Decides.{nat_tests}
use Rattle.std.specs.Str.{IsUtf8, encode_utf8_all, all_scalars}
use Rattle.std.proofs.lemmas.Str.{encode_ascii, char_from_byte}
use lib.Utf8.{encode, next, scalar}
use Rattle.lv_lexer.specs.Meaning.{undoubled}

-- a byte that is no quote stays
pub stays : (b : ℕ) (bytes : List ℕ) → nat_eq b 39 ≡ false → undoubled (b ∷ bytes) ≡ b ∷ undoubled bytes
stays b [] e = refl
stays b (c ∷ bytes) e = rw e refl

-- so does a quote that no other follows
alone : (b : ℕ) (bytes : List ℕ) → nat_eq (get_or bytes 0 0) 39 ≡ false → undoubled (b ∷ bytes) ≡ b ∷ undoubled bytes
alone b [] e = refl
alone b (c ∷ bytes) e = by (nat_eq b 39)
  where
    by : (t : Bool) → cond (t && nat_eq c 39) (39 ∷ undoubled bytes) (b ∷ undoubled (c ∷ bytes)) ≡ b ∷ undoubled (c ∷ bytes)
    by true = rw e refl
    by false = refl

high : (b : ℕ) → 128 ≤ b → nat_eq b 39 ≡ false
high b h = grind (arith, nat_tests)

-- no byte of these is a quote
abbrev pub NoQuotes : List ℕ → Type 0
NoQuotes [] = Unit {0}
NoQuotes (b ∷ bytes) = (nat_eq b 39 ≡ false) × NoQuotes bytes

either : (t : Bool) (xs ys : List ℕ) → NoQuotes xs → NoQuotes ys → NoQuotes (cond t xs ys)
either true xs ys x y = x
either false xs ys x y = y

-- the bytes of a character of more than one byte
pub no_quotes : (c : ℕ) → 128 ≤ c → NoQuotes (encode c)
unfolding encode
no_quotes c h =
    let tail : (n : ℕ) → nat_eq (128 + n % 64) 39 ≡ false = λ n. high (128 + n % 64) (omega arith) in
    either (ltb c 128) (c ∷ []) _ (high c h, tt)
    (either (ltb c 2048) ((192 + c / 64) ∷ next c ∷ []) _ (high (192 + c / 64) (omega arith), (tail c, tt))
    (either (ltb c 65536) ((224 + c / 4096) ∷ next (c / 64) ∷ next c ∷ []) ((240 + c / 262144) ∷ next (c / 4096) ∷ next (c / 64) ∷ next c ∷ [])
    (high (224 + c / 4096) (omega arith), (tail (c / 64), (tail c, tt)))
    (high (240 + c / 262144) (omega arith), (tail (c / 4096), (tail (c / 64), (tail c, tt))))))

all_stay : (xs rest : List ℕ) → NoQuotes xs → undoubled (xs ++ rest) ≡ xs ++ undoubled rest
all_stay [] rest n = refl
all_stay (x ∷ xs) rest n = stays x (xs ++ rest) n.0 ∙ ap (λ ys. x ∷ ys) (all_stay xs rest n.1)

-- a character stays, unless it is a quote that another follows
character : (c : ℕ) (rest : List ℕ) → (nat_eq c 39 ≡ true → nat_eq (get_or rest 0 0) 39 ≡ false) → undoubled (encode c ++ rest) ≡ encode c ++ undoubled rest
character c rest last = elim (cases_lt c 128) [
  | inl h ↦
      let one : encode c ++ rest ≡ c ∷ rest = ap (λ bytes. bytes ++ rest) (encode_ascii c h) in
      let all : encode c ++ undoubled rest ≡ c ∷ undoubled rest = ap (λ bytes. bytes ++ undoubled rest) (encode_ascii c h) in
      ap undoubled one ∙ by (nat_eq c 39) refl ∙ sym all
  | inr h ↦ all_stay (encode c) rest (no_quotes c h)
]
  where
    by : (t : Bool) → nat_eq c 39 ≡ t → undoubled (c ∷ rest) ≡ c ∷ undoubled rest
    by true e = alone c rest (last e)
    by false e = stays c rest e

pub quote : encode 39 ≡ 39 ∷ []
quote = encode_ascii 39 (omega arith)

pair : (c d : ℕ) (rest : List ℕ) → c ≡ 39 → d ≡ 39 → undoubled (encode c ++ (encode d ++ rest)) ≡ 39 ∷ undoubled rest
pair c d rest e f =
    let first : encode c ≡ 39 ∷ [] = ap encode e ∙ quote in
    let second : encode d ≡ 39 ∷ [] = ap encode f ∙ quote in
    ap (λ (bytes : List ℕ). undoubled (bytes ++ (encode d ++ rest))) first ∙ ap (λ (bytes : List ℕ). undoubled (39 ∷ (bytes ++ rest))) second

some_byte : (bytes : List ℕ) → get_or bytes 0 0 ≡ 39 → 0 < length bytes
some_byte [] e = absurd (omega arith)
some_byte (b ∷ bytes) e = omega arith

other : (d : ℕ) (rest : List ℕ) → nat_eq d 39 ≡ false → nat_eq (get_or (encode d ++ rest) 0 0) 39 ≡ false
other d rest e = false_from_ne_true (nat_eq (get_or (encode d ++ rest) 0 0) 39) (λ (q : nat_eq (get_or (encode d ++ rest) 0 0) 39 ≡ true).
    let is = eqb-true (get_or (encode d ++ rest) 0 0) 39 q in
    let same : d ≡ get_or (encode d ++ rest) 0 0 = char_from_byte (encode d ++ rest) rest d refl (omega arith) (some_byte (encode d ++ rest) is) in
    false≢true (sym e ∙ eq-eqb d 39 (same ∙ is)))

-- pairs of quotes are the same in characters and in bytes
pub undoubled-encodes : (cs : List ℕ) → undoubled (encode_utf8_all cs) ≡ encode_utf8_all (undoubled cs)
undoubled-encodes [] = refl
undoubled-encodes (c ∷ []) = character c [] (λ e. refl)
undoubled-encodes (c ∷ d ∷ cs) = by (nat_eq c 39) (nat_eq d 39) refl refl (undoubled-encodes cs) (undoubled-encodes (d ∷ cs))
  where
    by : (t u : Bool) → nat_eq c 39 ≡ t → nat_eq d 39 ≡ u
        → undoubled (encode_utf8_all cs) ≡ encode_utf8_all (undoubled cs) → undoubled (encode_utf8_all (d ∷ cs)) ≡ encode_utf8_all (undoubled (d ∷ cs))
        → undoubled (encode c ++ encode_utf8_all (d ∷ cs)) ≡ encode_utf8_all (cond (t && u) (39 ∷ undoubled cs) (c ∷ undoubled (d ∷ cs)))
    by true true e f two one =
        pair c d (encode_utf8_all cs) (eqb-true c 39 e) (eqb-true d 39 f) ∙ ap (λ bytes. 39 ∷ bytes) two ∙ sym (ap (λ bytes. bytes ++ encode_utf8_all (undoubled cs)) quote)
    by true false e f two one = character c (encode_utf8_all (d ∷ cs)) (λ q. other d (encode_utf8_all cs) f) ∙ ap (λ bytes. encode c ++ bytes) one
    by false u e f two one = character c (encode_utf8_all (d ∷ cs)) (λ q. absurd (false≢true (sym e ∙ q))) ∙ ap (λ bytes. encode c ++ bytes) one

scalars_stay : (cs : List ℕ) → all_scalars cs ≡ true → all_scalars (undoubled cs) ≡ true
scalars_stay [] h = h
scalars_stay (c ∷ []) h = h
scalars_stay (c ∷ d ∷ cs) h = by (nat_eq c 39 && nat_eq d 39) (scalar c) (scalar d) refl h (scalars_stay cs) (scalars_stay (d ∷ cs))
  where
    by : (t u v : Bool) → scalar c ≡ u → (u && (v && all_scalars cs)) ≡ true → (all_scalars cs ≡ true → all_scalars (undoubled cs) ≡ true)
        → ((v && all_scalars cs) ≡ true → all_scalars (undoubled (d ∷ cs)) ≡ true) → all_scalars (cond t (39 ∷ undoubled cs) (c ∷ undoubled (d ∷ cs))) ≡ true
    by true true true e h two one = two h
    by false true v e h two one = rw e (one h)
    by true true false e h two one = absurd cc
    by t false v e h two one = absurd cc

pub undoubled_is_utf8 : (bytes : List ℕ) → IsUtf8 bytes → IsUtf8 (undoubled bytes)
undoubled_is_utf8 bytes (cs, (ok, are)) = (undoubled cs, (scalars_stay cs ok, sym (undoubled-encodes cs) ∙ ap undoubled are))
