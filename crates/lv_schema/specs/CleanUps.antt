-- The floor of a clean-up, and how much it keeps.
use Rattle.std.specs.Prelude.{ℕ, ◌+◌, ◌-◌, nat_lt, List, length, filter}
use Rattle.std.specs.List.{range_with_len, sum_by}
use Rattle.lv_values.specs.declared.value.Value.{Value}
use Rattle.lv_schema.specs.Databases.{rows_of}
use Rattle.lv_schema.specs.Nets.{lacking}
use Rattle.lv_schema.specs.World.{Visible, World, last, snap, commit_at, numbers, live, least}

-- the floor of a clean-up: the least of the last commit, the points and the live snapshots
abbrev pub floor : World → ℕ
floor w = least (least (last w.visible) w.upkeep.points) (live w.visible.sessions)

-- the commits above a number
abbrev pub commits_above : Visible → ℕ → List ℕ
commits_above s floor = filter (nat_lt floor) (numbers (last s))

-- what a clean-up keeps. Of the deltas: the actions of the commits above the floor.
abbrev pub deltas_kept : Visible → ℕ → ℕ
deltas_kept s floor = sum_by (λ k. length (commit_at s.commits k)) (commits_above s floor)

-- Of the versions: the rows at the floor and, for each later commit, its rows that the state before lacks.
abbrev pub rows_gained : Visible → ℕ → ℕ → List (List Value)
rows_gained s table k = lacking (rows_of (snap s k) table) (rows_of (snap s (k - 1)) table)

abbrev pub table_versions : Visible → ℕ → ℕ → ℕ
table_versions s floor table = length (rows_of (snap s floor) table) + sum_by (λ k. length (rows_gained s table k)) (commits_above s floor)

abbrev pub versions_kept : Visible → ℕ → ℕ
versions_kept s floor = sum_by (table_versions s floor) (range_with_len 0 (length s.tables))
