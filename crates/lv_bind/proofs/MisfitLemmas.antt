-- The first of two lists, one behind the other.
use Rattle.std.proofs.Common.{◌≡◌, ◌++◌, List, [], ◌∷◌, Option, Some, None, refl}
use Rattle.std.specs.Option.{option_or}
use Rattle.lv_bind.specs.Sources.{first}

first_append : {A : Type 0} (xs ys : List A) → first (xs ++ ys) ≡ option_or (first xs) (first ys)
first_append [] ys = refl
first_append (x ∷ xs) ys = refl

-- what was found before goes first
pub or_first : {A : Type 0} (found : Option A) (xs ys : List A) → option_or found (first (xs ++ ys)) ≡ option_or (option_or found (first xs)) (first ys)
or_first None xs ys = first_append xs ys
or_first (Some x) xs ys = refl
