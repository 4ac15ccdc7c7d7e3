-- Lists that only grow.
use Rattle.std.specs.Prelude.{◌≡◌, List, ◌++◌}

-- the first list is a front of the second
abbrev pub IsFront : {A : Type 0} → List A → List A → Type 0
IsFront {A} xs ys = (more : List A) × (ys ≡ xs ++ more)
