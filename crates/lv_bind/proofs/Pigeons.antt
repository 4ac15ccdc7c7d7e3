-- A list in which nothing stands twice is no longer than a list that has each of its elements.
use Rattle.std.proofs.Common.{◌≡◌, ◌≤◌, suc, Bool, true, false, not, cond, List, [], ◌∷◌, length, refl, ap, subst, ◌∙◌, arith, ⊎_elim}
use Rattle.std.specs.List.{list_all, list_any}
use Rattle.std.proofs.lemmas.Bool.{and_from, and_parts, not-true, or_cases, or_left, or_parts, or_right}
use Rattle.lv_schema.specs.Once.{are_apart}

-- the list without the first that is the same
abbrev without : {K : Type 0} → (K → K → Bool) → K → List K → List K
without same x [] = []
without same x (y ∷ ys) = cond (same x y) ys (y ∷ without same x ys)

module _ {K : Type 0} (same : K → K → Bool) (tells : (a b : K) → same a b ≡ true → a ≡ b) (comm : (a b : K) → same a b ≡ same b a) where
  shorter : (x : K) (ys : List K) → list_any (same x) ys ≡ true → suc (length (without same x ys)) ≡ length ys
  shorter x [] e = cc
  shorter x (y ∷ ys) e = by (same x y) refl (shorter x ys)
    where
      by : (b : Bool) → same x y ≡ b → (list_any (same x) ys ≡ true → suc (length (without same x ys)) ≡ length ys) → suc (length (without same x (y ∷ ys))) ≡ length (y ∷ ys)
      by true is more = rw is refl
      by false is more = rw is (ap suc (more (rw is at e)))

  stays : (x z : K) → same z x ≡ false → (ys : List K) → list_any (same z) ys ≡ true → list_any (same z) (without same x ys) ≡ true
  stays x z d [] e = e
  stays x z d (y ∷ ys) e = by (same x y) refl (stays x z d ys)
    where
      by : (b : Bool) → same x y ≡ b → (list_any (same z) ys ≡ true → list_any (same z) (without same x ys) ≡ true) → list_any (same z) (without same x (y ∷ ys)) ≡ true
      by true is more =
          let other : same z y ≡ false = subst (λ w. same z w ≡ false) (tells x y is) d in
          rw is (rw other at e)
      by false is more =
          rw is (⊎_elim (λ t. or_left (same z y) (list_any (same z) (without same x ys)) t) (λ t. or_right (same z y) (list_any (same z) (without same x ys)) (more t))
          (or_cases (same z y) (list_any (same z) ys) e))

  all_stay : (x : K) (xs ys : List K) → list_any (same x) xs ≡ false → list_all (λ z. list_any (same z) ys) xs ≡ true → list_all (λ z. list_any (same z) (without same x ys)) xs ≡ true
  all_stay x [] ys d e = refl
  all_stay x (z ∷ xs) ys d e =
      let ds : (same x z ≡ false) × (list_any (same x) xs ≡ false) = or_parts (same x z) (list_any (same x) xs) d in
      let es : (list_any (same z) ys ≡ true) × (list_all (λ z. list_any (same z) ys) xs ≡ true) = and_parts (list_any (same z) ys) (list_all (λ z. list_any (same z) ys) xs) e in
      and_from (list_any (same z) (without same x ys)) _ (stays x z (comm z x ∙ ds.0) ys es.0) (all_stay x xs ys ds.1 es.1)

  pub no_longer : (xs ys : List K) → are_apart same xs ≡ true → list_all (λ z. list_any (same z) ys) xs ≡ true → length xs ≤ length ys
  no_longer [] ys a e = omega arith
  no_longer (x ∷ xs) ys a e =
      let as_ : (not (list_any (same x) xs) ≡ true) × (are_apart same xs ≡ true) = and_parts (not (list_any (same x) xs)) (are_apart same xs) a in
      let es : (list_any (same x) ys ≡ true) × (list_all (λ z. list_any (same z) ys) xs ≡ true) = and_parts (list_any (same x) ys) (list_all (λ z. list_any (same z) ys) xs) e in
      let more : length xs ≤ length (without same x ys) = no_longer xs (without same x ys) as_.1 (all_stay x xs ys (not-true (list_any (same x) xs) as_.0) es.1) in
      omega (arith, shorter x ys es.0, more)
