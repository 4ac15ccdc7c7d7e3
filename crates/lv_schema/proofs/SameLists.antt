-- Lists that are the same: place by place, and by the test of their elements.
use Rattle.std.proofs.Common.{◌≡◌, ◌≢◌, ℕ, suc, ◌<◌, Bool, true, List, [], ◌∷◌, length, refl, ap, subst, arith}
use Rattle.std.specs.Prelude.{slice_get}
use Rattle.std.specs.Prelude.{Decides, MatchBool}
use Rattle.std.proofs.lemmas.Bool.{cases_from_iff}
use Rattle.std.specs.Cmp.{tied_itself}
use Rattle.std.specs.Cmp.Lexicographic.{pointwise}
use Rattle.std.specs.Ordering.{is_eq}
use Rattle.std.proofs.lemmas.Slice.Eq.{slice_eq-Decides}
use Rattle.lv_values.specs.declared.value.Value.{Value}
use Rattle.lv_values.specs.Order.{value_eq}
use Rattle.lv_values.specs.OrderLaws.{value_total, value_exact}
use Rattle.lv_schema.proofs.OnceLists.{is_equal}

pub same_by_places : {A : Type 0} (xs ys : List A) → length xs ≡ length ys → ((k : ℕ) → k < length xs → slice_get xs k ≡ slice_get ys k) → xs ≡ ys
same_by_places [] [] len h = refl
same_by_places [] (y ∷ ys) len h = absurd (omega arith)
same_by_places (x ∷ xs) [] len h = absurd (omega arith)
same_by_places (x ∷ xs) (y ∷ ys) len h =
    let first = h 0 (omega arith) in
    let rest = same_by_places xs ys (omega arith) (λ k lt. h (suc k) (omega arith)) in
    cc

value_decides : (a b : Value) → Decides (value_eq a b) (a ≡ b)
value_decides a b = (λ h. value_exact a b (is_equal _ h), λ e. subst (λ z. value_eq a z ≡ true) e (ap is_eq (tied_itself value_total a)))

row_decides : (a b : List Value) → Decides (pointwise value_eq a b) (a ≡ b)
row_decides a b = slice_eq-Decides value_decides a b (pointwise value_eq a b) refl

-- what `==` says of two lists of rows
pub rows_told : (a b : List (List Value)) (r : Bool) → r ≡ pointwise (pointwise value_eq) a b → MatchBool r (a ≡ b) (a ≢ b)
rows_told a b r e = cases_from_iff (slice_eq-Decides row_decides a b r e)
