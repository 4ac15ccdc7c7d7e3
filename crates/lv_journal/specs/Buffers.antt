-- A buffer for a frame between its gates.
use Rattle.std.specs.Prelude.{ℕ, List}

-- its bytes, and how many it has room for
pub record Filled : Type 0 where
  pub bytes : List ℕ
  pub room : ℕ
