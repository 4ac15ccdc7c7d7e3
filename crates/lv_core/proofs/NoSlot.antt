-- A worker without a slot: there is nothing in it, and nothing is put into it.
use Rattle.std.proofs.Common.{◌≡◌, ℕ, zero, suc, ◌≤◌, List, [], ◌∷◌, length, Option, None, refl, ap, arith}
use Rattle.std.specs.Prelude.{slice_index_or, slice_set}
use Rattle.lv_maint.specs.Inputs.{Input}

pub stays : (xs : List (Option Input)) (k : ℕ) (x : Option Input) → length xs ≤ k → slice_set xs k x ≡ xs
stays [] k x le = refl
stays (y ∷ xs) zero x le = absurd (omega (arith, le))
stays (y ∷ xs) (suc k) x le = ap (λ (ys : List (Option Input)). y ∷ ys) (stays xs k x (omega (arith, le)))

pub empty : (xs : List (Option Input)) (k : ℕ) → length xs ≤ k → slice_index_or xs k None ≡ None
empty [] k le = refl
empty (y ∷ xs) zero le = absurd (omega (arith, le))
empty (y ∷ xs) (suc k) le = empty xs k (omega (arith, le))
