-- Lists in which no element stands twice.
use Rattle.std.specs.Prelude.{◌≡◌, Bool, true, not, ◌&&◌, List, [], ◌∷◌}
use Rattle.std.specs.List.{list_any, AllByRecursion}
use Rattle.std.specs.declared.cmp.Ordering.{Ordering}
use Rattle.std.specs.declared.cmp.Ordering.TheVariants.{Less}
use Rattle.std.specs.FinMap.Entries.{by_order}

-- whether no two elements are the same
abbrev pub are_apart : {K : Type 0} → (K → K → Bool) → List K → Bool
are_apart same [] = true
are_apart same (x ∷ xs) = not (list_any (same x) xs) && are_apart same xs

-- each element is less than those after it
abbrev pub Ascends : {K : Type 0} → (K → K → Ordering) → List K → Type 0
Ascends R [] = Unit {0}
Ascends R (x ∷ xs) = AllByRecursion (λ y. R x y ≡ Less) xs × Ascends R xs

-- each element of a list once, in ascending order
module _ {K : Type 0} (R : K → K → Ordering) where
  -- x in its place, if it is not there
  abbrev pub put_once : K → List K → List K
  put_once x [] = x ∷ []
  put_once x (y ∷ ys) = by_order (R x y) (x ∷ y ∷ ys) (y ∷ ys) (y ∷ put_once x ys)

  abbrev pub once : List K → List K
  once [] = []
  once (x ∷ xs) = put_once x (once xs)
