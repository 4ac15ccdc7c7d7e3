-- Terminals that come from a line: what is known of a name and of a number.
use Rattle.std.proofs.Common.{◌≡◌, ℕ, ◌^◌, ◌<◌, Bool, true, false, cond, ◌&&◌, List, [], ◌∷◌, ◌++◌, length, Option, Some, None, nat_eq, refl, sym, ap, ◌∙◌, subst}
use Rattle.std.specs.List.{starts_with, list_all}
use Rattle.std.specs.Str.{bytes_eq, str_to_ascii_lowercase}
use Rattle.lv_lexer.specs.declared.terminals.Class.{Class}
use Rattle.lv_lexer.specs.declared.terminals.Class.TheVariants as k
use Rattle.lv_lexer.specs.declared.terminals.Terminal.{Terminal}
use Rattle.lv_lexer.specs.declared.token.TokenKind.{TokenKind}
use Rattle.lv_lexer.specs.declared.token.TokenKind.TheVariants.{Word, Number, Text, Sign}
use Rattle.lv_lexer.specs.Keywords.{spellings, spelled_by, keyword_of}
use Rattle.lv_lexer.specs.Meaning.{said, word_at, sign_of}
use Rattle.lv_lexer.specs.Scan.{Spells}
use Rattle.lv_lexer.specs.Signs.{first_fit, long_signs, short_signs, sign_at}
use Rattle.lv_lexer.proofs.Said.{is_number, number_small}
use Rattle.lv_lexer.proofs.Spelling.{lower_spells, lower-lower}

-- a terminal that some bytes say
pub record IsHonest (t : Terminal) : Type 0 where
  pub kind : TokenKind
  pub bytes : List ℕ
  pub spelled : Spells bytes kind
  pub is : t ≡ said kind bytes t.byte

-- ---- keywords and signs are neither names nor numbers

is_fixed : Class → Bool
is_fixed k.Name = false
is_fixed k.Number = false
is_fixed k.Quoted = false
is_fixed _ = true

spelled_fixed : (table : List (List ℕ × Class)) (word : List ℕ) (c : Class) → list_all (λ e. is_fixed e.1) table ≡ true → spelled_by table word ≡ Some c → is_fixed c ≡ true
spelled_fixed [] word c a e = absurd cc
spelled_fixed (entry ∷ more) word c a e = by (bytes_eq entry.0 word) (is_fixed entry.1) refl a e (spelled_fixed more word c)
  where
    some_is : (d : Class) → ◌≡◌ {A = Option Class} (Some d) (Some c) → d ≡ c
    some_is d e = cc

    by : (t u : Bool) → is_fixed entry.1 ≡ u → (u && list_all (λ e. is_fixed e.1) more) ≡ true → cond t (Some entry.1) (spelled_by more word) ≡ Some c
        → (list_all (λ e. is_fixed e.1) more ≡ true → spelled_by more word ≡ Some c → is_fixed c ≡ true) → is_fixed c ≡ true
    by true true f a e rest = ap is_fixed (sym (some_is entry.1 e)) ∙ f
    by false true f a e rest = rest a e
    by t false f a e rest = absurd cc

keyword_fixed : (word : List ℕ) (c : Class) → keyword_of word ≡ Some c → is_fixed c ≡ true
unfolding keyword_of is_fixed
keyword_fixed word c e = spelled_fixed spellings word c refl e

fit_fixed : (table : List (List ℕ × Class)) (bytes : List ℕ) (c : Class) (n : ℕ) → list_all (λ e. is_fixed e.1) table ≡ true → first_fit table bytes ≡ Some (c, n) → is_fixed c ≡ true
fit_fixed [] bytes c n a e = absurd cc
fit_fixed (entry ∷ more) bytes c n a e = by (starts_with nat_eq bytes entry.0) (is_fixed entry.1) refl a e (fit_fixed more bytes c n)
  where
    first_is : (d : Class) (m : ℕ) → ◌≡◌ {A = Option (Class × ℕ)} (Some (d, m)) (Some (c, n)) → d ≡ c
    first_is d m e = let at : Option (Class × ℕ) → Class = λ o. elim o [ None ↦ d | Some p ↦ p.0 ] in ap at e

    by : (t u : Bool) → is_fixed entry.1 ≡ u → (u && list_all (λ e. is_fixed e.1) more) ≡ true → cond t (Some (entry.1, length entry.0)) (first_fit more bytes) ≡ Some (c, n)
        → (list_all (λ e. is_fixed e.1) more ≡ true → first_fit more bytes ≡ Some (c, n) → is_fixed c ≡ true) → is_fixed c ≡ true
    by true true f a e rest = ap is_fixed (sym (first_is entry.1 (length entry.0) e)) ∙ f
    by false true f a e rest = rest a e
    by t false f a e rest = absurd cc

sign_fixed : (bytes : List ℕ) → is_fixed (sign_of (sign_at bytes)) ≡ true
unfolding is_fixed
sign_fixed bytes = by (sign_at bytes) refl
  where
    by : (o : Option (Class × ℕ)) → sign_at bytes ≡ o → is_fixed (sign_of o) ≡ true
    by None e = refl
    by (Some found) e = fit_fixed (long_signs ++ short_signs) bytes found.0 found.1 refl e

fixed_no_name : is_fixed k.Name ≡ false
unfolding is_fixed
fixed_no_name = refl

fixed_no_number : is_fixed k.Number ≡ false
unfolding is_fixed
fixed_no_number = refl

clash : (c d : Class) → is_fixed c ≡ true → is_fixed d ≡ false → c ≡ d → ⊥
clash c d e f g = let h : true ≡ false = sym e ∙ (ap is_fixed g ∙ f) in cc

-- ---- names

-- a name that is read again where it is written
pub record IsNameText (name : List ℕ) : Type 0 where
  pub spelled : Spells name Word
  pub again : (b : ℕ) → said Word name b ≡ record { class = k.Name; text = name; number = 0; byte = b }

named_word : (bytes : List ℕ) (b : ℕ) → Spells bytes Word → (word_at b (str_to_ascii_lowercase bytes) (keyword_of (str_to_ascii_lowercase bytes))).class ≡ k.Name
    → IsNameText (word_at b (str_to_ascii_lowercase bytes) (keyword_of (str_to_ascii_lowercase bytes))).text
named_word bytes b e = by (keyword_of (str_to_ascii_lowercase bytes)) refl
  where
    by : (o : Option Class) → keyword_of (str_to_ascii_lowercase bytes) ≡ o → (word_at b (str_to_ascii_lowercase bytes) o).class ≡ k.Name → IsNameText (word_at b (str_to_ascii_lowercase bytes) o).text
    by (Some c) q n = absurd (clash c k.Name (keyword_fixed (str_to_ascii_lowercase bytes) c q) fixed_no_name n)
    by None q n = record {
      spelled = lower_spells bytes e;
      again = λ d. ap (λ (w : List ℕ). word_at d w (keyword_of w)) (lower-lower bytes) ∙ ap (word_at d (str_to_ascii_lowercase bytes)) q;
    }

name_said : (kind : TokenKind) (bytes : List ℕ) (b : ℕ) → Spells bytes kind → (said kind bytes b).class ≡ k.Name → IsNameText (said kind bytes b).text
name_said Word bytes b e n = named_word bytes b e n
name_said Number bytes b e n = absurd cc
name_said Text bytes b e n = absurd cc
name_said Sign bytes b e n = absurd (clash (sign_of (sign_at bytes)) k.Name (sign_fixed bytes) fixed_no_name n)

pub honest_name : (t : Terminal) → IsHonest t → t.class ≡ k.Name → IsNameText t.text
honest_name t h n =
    let P : Terminal → Type 0 = λ u. IsNameText u.text in
    subst P (sym h.is) (name_said h.kind h.bytes t.byte h.spelled (ap (λ (u : Terminal). u.class) (sym h.is) ∙ n))

-- ---- numbers

number_said : (kind : TokenKind) (bytes : List ℕ) (b : ℕ) → Spells bytes kind → (said kind bytes b).class ≡ k.Number → (said kind bytes b).number < 10 ^ 38
number_said Word bytes b e n = by (keyword_of (str_to_ascii_lowercase bytes)) refl n
  where
    by : (o : Option Class) → keyword_of (str_to_ascii_lowercase bytes) ≡ o → (word_at b (str_to_ascii_lowercase bytes) o).class ≡ k.Number → (word_at b (str_to_ascii_lowercase bytes) o).number < 10 ^ 38
    by (Some c) q n = absurd (clash c k.Number (keyword_fixed (str_to_ascii_lowercase bytes) c q) fixed_no_number n)
    by None q n = absurd cc
number_said Number bytes b e n = number_small bytes (is_number bytes e)
number_said Text bytes b e n = absurd cc
number_said Sign bytes b e n = absurd (clash (sign_of (sign_at bytes)) k.Number (sign_fixed bytes) fixed_no_number n)

pub honest_number : (t : Terminal) → IsHonest t → t.class ≡ k.Number → t.number < 10 ^ 38
honest_number t h n =
    let P : Terminal → Type 0 = λ u. u.number < 10 ^ 38 in
    subst P (sym h.is) (number_said h.kind h.bytes t.byte h.spelled (ap (λ (u : Terminal). u.class) (sym h.is) ∙ n))
