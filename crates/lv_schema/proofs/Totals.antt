-- Laws of `total`.
use Rattle.std.proofs.Common.{◌≡◌, ℤ, pos, ◌+ℤ◌, List, [], ◌∷◌, ◌++◌, map, length, Bool, true, false, cond, refl, ap, ◌∙◌, arith}
use Rattle.std.proofs.lemmas.Int.{ints}
use Rattle.std.specs.List.{flat_map, filter}
use Rattle.lv_schema.specs.Groups.{total}
use Rattle.lv_schema.specs.Tuples.{tuples}

pub total_same : {X : Type 0} (f g : X → ℤ) → ((x : X) → f x ≡ g x) → (xs : List X) → total f xs ≡ total g xs
total_same f g same [] = refl
total_same f g same (x ∷ xs) = λ i. same x i +ℤ total_same f g same xs i

pub total-append : {X : Type 0} (f : X → ℤ) (xs ys : List X) → total f (xs ++ ys) ≡ total f xs +ℤ total f ys
total-append f [] ys = omega (arith, ints)
total-append f (x ∷ xs) ys = omega (arith, ints, total-append f xs ys)

pub total-map : {X Y : Type 0} (f : Y → ℤ) (g : X → Y) (xs : List X) → total f (map g xs) ≡ total (λ x. f (g x)) xs
total-map f g [] = refl
total-map f g (x ∷ xs) = ap (λ n. f (g x) +ℤ n) (total-map f g xs)

pub total-flat_map : {X Y : Type 0} (f : Y → ℤ) (g : X → List Y) (xs : List X) → total f (flat_map g xs) ≡ total (λ x. total f (g x)) xs
total-flat_map f g [] = refl
total-flat_map f g (x ∷ xs) = total-append f (g x) (flat_map g xs) ∙ ap (λ n. total f (g x) +ℤ n) (total-flat_map f g xs)

pub total-add : {X : Type 0} (f g : X → ℤ) (xs : List X) → total (λ x. f x +ℤ g x) xs ≡ total f xs +ℤ total g xs
total-add f g [] = refl
total-add f g (x ∷ xs) = omega (arith, ints, total-add f g xs)

pub total-filter : {X : Type 0} (f : X → ℤ) (p : X → Bool) (xs : List X) → total f (filter p xs) ≡ total (λ x. cond (p x) (f x) (pos 0)) xs
total-filter f p [] = refl
total-filter f p (x ∷ xs) =
    elim (p x) as (λ b. total f (cond b (x ∷ filter p xs) (filter p xs)) ≡ cond b (f x) (pos 0) +ℤ total (λ x. cond (p x) (f x) (pos 0)) xs) [
      | true ↦ ap (λ n. f x +ℤ n) (total-filter f p xs)
      | false ↦ omega (arith, ints, total-filter f p xs)
    ]

pub total-ones : {X : Type 0} (xs : List X) → total (λ _. pos 1) xs ≡ pos (length xs)
total-ones [] = refl
total-ones (x ∷ xs) = omega (arith, ints, total-ones xs)

-- over tuples: the first list's rows outermost
pub total-tuples : {R : Type 0} (f : List R → ℤ) (rows : List R) (rest : List (List R)) → total f (tuples (rows ∷ rest)) ≡ total (λ row. total (λ tuple. f (row ∷ tuple)) (tuples rest)) rows
total-tuples {R} f rows rest =
    total-flat_map f (λ row. map (λ tuple. row ∷ tuple) (tuples rest)) rows
    ∙ total_same _ _ (λ row. total-map f (λ (tuple : List R). row ∷ tuple) (tuples rest)) rows
