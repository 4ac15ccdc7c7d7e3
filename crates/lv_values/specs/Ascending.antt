-- A list in ascending order: the one definition on which answers, groups and views rest.
use Rattle.std.specs.Prelude.{cond, List, [], ◌∷◌}
use Rattle.std.specs.declared.cmp.Ordering.{Ordering}
use Rattle.std.specs.Ordering.{is_gt}

module _ {A : Type 0} (R : A → A → Ordering) where
  -- x before the first element that is not less
  abbrev pub placed : A → List A → List A
  placed x [] = x ∷ []
  placed x (y ∷ ys) = cond (is_gt (R x y)) (y ∷ placed x ys) (x ∷ y ∷ ys)

  -- the same elements in ascending order, equal ones as often as they occur
  abbrev pub ascending : List A → List A
  ascending [] = []
  ascending (x ∷ xs) = placed x (ascending xs)
