-- What an order leaves.
use Rattle.std.specs.Prelude.{ℕ, ◌-◌, List, slice_index}

-- how many statements are left of a session, of a list that begins with session 1
abbrev pub left_in : List ℕ → ℕ → ℕ
left_in left session = slice_index left (session - 1)
