-- What holds of each element of a list.
use Rattle.std.proofs.Common.{◌≡◌, ℕ, ◌+◌, Bool, true, List, [], ◌∷◌, length, refl, ap₂, sym, ◌∙◌, length-append}
use Rattle.std.specs.Prelude.{Option, Some, None, Result, Ok, Err, IfOk, IfSome}
use Rattle.std.specs.List.{list_all, flat_map, sum_by, AllByRecursion}
use Rattle.std.proofs.lemmas.Bool.{and_from, and_parts}
use Rattle.std.proofs.lemmas.List.Sums.{sum_by-cons}

module _ {A : Type 0} (F : A → Type 0) where
  -- from two tests
  pub all_given : (p q : A → Bool) → ((a : A) → p a ≡ true → q a ≡ true → F a) → (xs : List A) → list_all p xs ≡ true → list_all q xs ≡ true → AllByRecursion F xs
  all_given p q one [] e f = tt
  all_given p q one (x ∷ xs) e f =
      let at = and_parts (p x) (list_all p xs) e in
      let by = and_parts (q x) (list_all q xs) f in
      (one x at.0 by.0, all_given p q one xs at.1 by.1)

  -- to a test
  pub all_shown : (p : A → Bool) → ((a : A) → F a → p a ≡ true) → (xs : List A) → AllByRecursion F xs → list_all p xs ≡ true
  all_shown p one [] all = refl
  all_shown p one (x ∷ xs) all = and_from (p x) (list_all p xs) (one x all.0) (all_shown p one xs all.1)

  -- the texts are together as long as the sizes say
  pub all_long : (text : A → List ℕ) (size : A → ℕ) → ((a : A) → F a → length (text a) ≡ size a) → (xs : List A) → AllByRecursion F xs → length (flat_map text xs) ≡ sum_by size xs
  all_long text size one [] all = refl
  all_long text size one (x ∷ xs) all =
      length-append (text x) (flat_map text xs) ∙ ap₂ (λ (m n : ℕ). m + n) (one x all.0) (all_long text size one xs all.1) ∙ sym (sum_by-cons size x xs)

-- what is found, where it is found, meets more
pub found_meets : {A E : Type 0} (P Q : A → Type 0) → ((a : A) → P a → Q a) → (result : Result (Option A) E) → IfOk result (λ found. IfSome found P) → IfOk result (λ found. IfSome found Q)
found_meets P Q more (Ok (Some a)) h = more a h
found_meets P Q more (Ok None) h = tt
found_meets P Q more (Err e) h = tt
