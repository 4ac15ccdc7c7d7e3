-- A look-up among keywords, from a place on.
use Rattle.std.proofs.Common.{◌≡◌, ℕ, ◌+◌, ◌<◌, true, List, ◌∷◌, length, get_or, drop, Some, refl, sym, ap, ◌∙◌, Bor}
use Rattle.std.specs.Str.{bytes_eq, str_to_ascii_lowercase}
use Rattle.std.proofs.lemmas.List.{drop_more}
use Rattle.std.proofs.lemmas.Bool.{false_from_ne_true}
use Rattle.std.proofs.lemmas.Slice.Eq.{bytes_eq-Decides}
use Rattle.lv_lexer.specs.declared.terminals.Class.{Class}
use Rattle.lv_lexer.specs.Keywords.{spelled_by, in_lower_case}

module _ (table : List (Bor (List ℕ) × Class)) (i : ℕ) (d : Bor (List ℕ) × Class) (word : List ℕ) (here : i < length table) where
  entry : Bor (List ℕ) × Class
  entry = get_or table i d

  one : spelled_by (in_lower_case (drop i table)) word ≡ spelled_by (in_lower_case (get_or table i d ∷ drop (i + 1) table)) word
  one = ap (λ (rest : List (Bor (List ℕ) × Class)). spelled_by (in_lower_case rest) word) (drop_more table i d here)

  -- the entry there spells the word
  pub found : word ≡ str_to_ascii_lowercase (get_or table i d).0.now → spelled_by (in_lower_case (drop i table)) word ≡ Some (get_or table i d).1
  found same = let same_bytes = (bytes_eq-Decides (str_to_ascii_lowercase (get_or table i d).0.now) word).1 (sym same) in one ∙ rw same_bytes refl

  -- it doesn't
  pub passed : (word ≡ str_to_ascii_lowercase (get_or table i d).0.now → ⊥) → spelled_by (in_lower_case (drop i table)) word ≡ spelled_by (in_lower_case (drop (i + 1) table)) word
  passed other =
      let decides = bytes_eq-Decides (str_to_ascii_lowercase (get_or table i d).0.now) word in
      let differ = false_from_ne_true _ (λ (e : bytes_eq (str_to_ascii_lowercase (get_or table i d).0.now) word ≡ true). other (sym (decides.0 e))) in
      one ∙ rw differ refl
