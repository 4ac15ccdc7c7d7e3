-- The order of the writes, by table and key.
use Rattle.std.specs.Prelude.{ℕ, ◌==◌, ◌&&◌, ◌≤◌, nat_lt, false, Bool, List, Option, Some, None}
use Rattle.std.specs.List.{AllByRecursion}
use Rattle.std.specs.Ordering.{is_eq, is_gt, is_lt}
use Rattle.std.specs.declared.cmp.Ordering.{Ordering}
use Rattle.lv_values.specs.declared.value.Value.{Value}
use Rattle.lv_values.specs.Order.{row_cmp}
use Rattle.lv_schema.specs.Commits.{Place, place_cmp, same_place}
use Rattle.lv_overlay.specs.declared.put.Put.{Put}

abbrev pub put_place : Put → Place
put_place q = (q.table, q.key)

abbrev pub put_cmp : Put → Put → Ordering
put_cmp a b = place_cmp (put_place a) (put_place b)

-- a write before a place, and one at it
abbrev pub is_before : Place → Put → Bool
is_before p q = is_lt (place_cmp (put_place q) p)

abbrev pub is_there : Place → Option Put → Bool
is_there p None = false
is_there p (Some q) = same_place p (put_place q)

-- a write of one of the tables below a number
abbrev pub is_below : ℕ → Put → Bool
is_below bound q = nat_lt q.table bound

-- a write of the table
abbrev pub is_of : ℕ → Option Put → Bool
is_of t None = false
is_of t (Some q) = t == q.table

-- a write of the table whose key is less, and one whose key is the same
abbrev pub is_less : ℕ → List Value → Option Put → Bool
is_less t k None = false
is_less t k (Some q) = (t == q.table) && is_gt (row_cmp k q.key)

abbrev pub is_same : ℕ → List Value → Option Put → Bool
is_same t k None = false
is_same t k (Some q) = (t == q.table) && is_eq (row_cmp k q.key)

-- writes of a table and of later ones alone
abbrev pub AreFrom : ℕ → List Put → Type 0
AreFrom t puts = AllByRecursion (λ q. t ≤ q.table) puts
