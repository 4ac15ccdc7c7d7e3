-- Sums of equal sizes.
use Rattle.std.proofs.Common.{◌≡◌, ℕ, suc, ◌+◌, ◌*◌, List, [], ◌∷◌, length, ap, ◌∙◌, arith}
use Rattle.std.specs.List.{sum_by}
use Rattle.std.proofs.lemmas.List.Sums.{sum_by-cons}

pub sum_of_equal : {A : Type 0} (size : ℕ) (xs : List A) → sum_by (λ (_ : A). size) xs ≡ length xs * size
sum_of_equal size [] = omega arith
sum_of_equal {A} size (x ∷ xs) =
    let more : size + length xs * size ≡ suc (length xs) * size = grind arith in
    sum_by-cons (λ (_ : A). size) x xs ∙ ap (λ n. size + n) (sum_of_equal size xs) ∙ more
