-- Sums that are added place by place.
use Rattle.std.proofs.Common.{◌≡◌, ℕ, zero, suc, ◌<◌, ◌≤◌, ℤ, ◌+ℤ◌, min, List, [], ◌∷◌, length, get_or, set, refl, sym, ap, arith}
use Rattle.std.specs.Int.{int_wrap, w128}
use Rattle.lv_viewrows.specs.Changed.{sums_added}

-- the first so many added
abbrev pub added_upto : ℕ → List ℤ → List ℤ → List ℤ
added_upto zero sums more = more
added_upto (suc i) [] more = more
added_upto (suc i) (n ∷ sums) [] = []
added_upto (suc i) (n ∷ sums) (m ∷ more) = int_wrap w128 (n +ℤ m) ∷ added_upto i sums more

pub added_step : (i : ℕ) (sums more : List ℤ) (a b : ℤ) → i < length sums → i < length more → a ≡ get_or sums i a → b ≡ get_or (added_upto i sums more) i b → added_upto (suc i) sums more ≡ set (added_upto i sums more) i (int_wrap w128 (a +ℤ b))
added_step zero [] more a b l k e f = absurd (omega arith)
added_step zero (n ∷ sums) [] a b l k e f = absurd (omega arith)
added_step zero (n ∷ sums) (m ∷ more) a b l k e f = λ i. int_wrap w128 (sym e i +ℤ sym f i) ∷ more
added_step (suc i) [] more a b l k e f = absurd (omega arith)
added_step (suc i) (n ∷ sums) [] a b l k e f = absurd (omega arith)
added_step (suc i) (n ∷ sums) (m ∷ more) a b l k e f = ap (λ r. int_wrap w128 (n +ℤ m) ∷ r) (added_step i sums more a b (omega arith) (omega arith) e f)

pub length-added : (i : ℕ) (sums more : List ℤ) → length (added_upto i sums more) ≡ length more
length-added zero sums more = refl
length-added (suc i) [] more = refl
length-added (suc i) (n ∷ sums) [] = refl
length-added (suc i) (n ∷ sums) (m ∷ more) = ap suc (length-added i sums more)

-- all of them
pub added_all : (i : ℕ) (sums more : List ℤ) → min (length sums) (length more) ≤ i → added_upto i sums more ≡ sums_added sums more
added_all zero [] more l = refl
added_all zero (n ∷ sums) [] l = refl
added_all zero (n ∷ sums) (m ∷ more) l = absurd (omega arith)
added_all (suc i) [] more l = refl
added_all (suc i) (n ∷ sums) [] l = refl
added_all (suc i) (n ∷ sums) (m ∷ more) l = ap (λ r. int_wrap w128 (n +ℤ m) ∷ r) (added_all i sums more (omega arith))
