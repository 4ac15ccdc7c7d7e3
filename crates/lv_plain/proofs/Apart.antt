-- Lists that agree at each place, and the first place at which two differ.
use Rattle.std.proofs.Common.{◌≡◌, ℕ, suc, ◌<◌, ◌≤◌, List, [], ◌∷◌, length, refl, arith}
use Rattle.std.specs.Prelude.{slice_get}

pub same_at_each : {A : Type 0} (xs ys : List A) → length ys ≤ length xs → ((k : ℕ) → k < length xs → slice_get xs k ≡ slice_get ys k) → xs ≡ ys
same_at_each [] [] len h = refl
same_at_each [] (y ∷ ys) len h = absurd (omega arith)
same_at_each (x ∷ xs) [] len h = let first = h 0 (omega arith) in absurd cc
same_at_each (x ∷ xs) (y ∷ ys) len h =
    let first = h 0 (omega arith) in
    let rest = same_at_each xs ys (omega arith) (λ k lt. h (suc k) (omega arith)) in
    cc
