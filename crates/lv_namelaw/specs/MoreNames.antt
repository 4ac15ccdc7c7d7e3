-- More names than there were: those that were there keep their places.
use Rattle.std.specs.Prelude.{◌≡◌, ℕ, ◌≤◌, List, ◌++◌}
use Rattle.lv_plain.specs.Named.{Counts}

-- these names come first in those
abbrev pub IsFront : List (List ℕ) → List (List ℕ) → Type 0
IsFront xs ys = (rest : List (List ℕ)) × (ys ≡ xs ++ rest)

-- no more sessions, tables and views than those
pub record AreAtMost (n m : Counts) : Type 0 where
  pub sessions : n.sessions ≤ m.sessions
  pub tables : n.tables ≤ m.tables
  pub views : n.views ≤ m.views
