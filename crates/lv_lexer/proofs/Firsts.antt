-- A word is looked up among the keywords of its first letter.
use Rattle.std.proofs.Common.{◌≡◌, ℕ, suc, Bool, true, false, cond, nat_eq, List, [], ◌∷◌, get_or, filter, Option, Some, None, codes, refl, sym, ap, ◌∙◌, arith}
use Rattle.std.specs.List.{AllPass, list_any}
use Rattle.std.proofs.lemmas.List.Sums.{AllPass-from_list_all}
use Rattle.std.specs.Char.{to_ascii_lowercase}
use Rattle.std.specs.Str.{bytes_eq, str_to_ascii_lowercase}
use Rattle.std.proofs.lemmas.Bool.{false_from_ne_true, false≢true}
use Rattle.std.proofs.lemmas.Bool.Decides.{Decides-eqb}
use Rattle.std.proofs.lemmas.Slice.Eq.{bytes_eq-Decides}
use Rattle.lv_lexer.specs.declared.terminals.Class.{Class}
use Rattle.lv_lexer.specs.Keywords.{spellings, spelled_by}

abbrev first : List ℕ → ℕ
first word = get_or word 0 0

pub first_lower : (word : List ℕ) → get_or (str_to_ascii_lowercase word) 0 0 ≡ to_ascii_lowercase (get_or word 0 0)
first_lower [] = refl
first_lower (b ∷ bytes) = refl

-- a word does not begin with another letter
differs : (keyword word : List ℕ) → (first keyword ≡ first word → ⊥) → bytes_eq keyword word ≡ false
differs keyword word other =
    false_from_ne_true _ (λ (e : bytes_eq keyword word ≡ true). other (ap (λ (w : List ℕ). get_or w 0 0) ((bytes_eq-Decides keyword word).0 e)))

pub of_first : (n : ℕ) (table : List (List ℕ × Class)) (word : List ℕ) → get_or word 0 0 ≡ n → spelled_by (filter (λ e. nat_eq (get_or e.0 0 0) n) table) word ≡ spelled_by table word
of_first n [] word e = refl
of_first n (one ∷ more) word e = by (nat_eq (first one.0) n) refl (of_first n more word e)
  where
    by : (b : Bool) → nat_eq (first one.0) n ≡ b → spelled_by (filter (λ e. nat_eq (first e.0) n) more) word ≡ spelled_by more word
        → spelled_by (cond b (one ∷ filter (λ e. nat_eq (first e.0) n) more) (filter (λ e. nat_eq (first e.0) n) more)) word ≡ spelled_by (one ∷ more) word
    by true q rest = ap (λ (o : Option Class). cond (bytes_eq one.0 word) (Some one.1) o) rest
    by false q rest = rw (differs one.0 word (λ same. false≢true (sym q ∙ rw (same ∙ e) ((Decides-eqb n n).1 refl)))) rest

-- a word that begins with none of these letters is no keyword
abbrev pub is_first : ℕ → Bool
is_first n = list_any (λ m. nat_eq n m) (codes "abcdfgijkmnoprstuvw")

of_no_first_in : (table : List (List ℕ × Class)) (word : List ℕ) → AllPass (λ e. is_first (get_or e.0 0 0)) table → is_first (get_or word 0 0) ≡ false → spelled_by table word ≡ None
of_no_first_in [] word within outside = refl
of_no_first_in (one ∷ more) word within outside = rw (differs one.0 word other) (of_no_first_in more word (λ k d lt. within (suc k) d (omega (arith, lt))) outside)
  where
    other : first one.0 ≡ first word → ⊥
    other same = false≢true (sym outside ∙ ap is_first (sym same) ∙ within 0 one (omega arith))

pub of_no_first : (word : List ℕ) → is_first (get_or word 0 0) ≡ false → spelled_by spellings word ≡ None
of_no_first word = of_no_first_in spellings word (AllPass-from_list_all (λ e. is_first (get_or e.0 0 0)) spellings refl)
