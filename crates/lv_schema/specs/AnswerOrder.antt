-- The order of an answer's rows: by the values of the ORDER BY columns, each up or down, and then by the rows.
use Rattle.std.specs.Prelude.{ℕ, pos, Bool}
use Rattle.std.specs.Cmp.Lexicographic.{slice_cmp}
use Rattle.std.specs.Ordering.{nat_cmp, on, flip_args, then_cmp, is_eq}
use Rattle.std.specs.declared.cmp.Ordering.{Ordering}
use Rattle.lv_values.specs.declared.value.Value.{Value}
use Rattle.lv_values.specs.declared.value.Value.TheVariants.{Num}
use Rattle.lv_values.specs.Order.{value_cmp, row_cmp}
use Rattle.lv_schema.specs.declared.directed.Directed.{Directed}
use Rattle.lv_schema.specs.declared.directed.Directed.TheVariants.{Up, Down}
use Rattle.lv_schema.specs.declared.directed.SortedRow.{SortedRow}

-- the direction; the value where it is up, and where it is down
abbrev pub way_of : Directed → ℕ
way_of (Up v) = 0
way_of (Down v) = 1

abbrev pub rising : Directed → Value
rising (Up v) = v
rising (Down v) = Num (pos 0)

abbrev pub falling : Directed → Value
falling (Up v) = Num (pos 0)
falling (Down v) = v

-- values of an ascending column ascend, those of a descending one descend
abbrev pub directed_cmp : Directed → Directed → Ordering
directed_cmp = then_cmp (on way_of nat_cmp) (then_cmp (on rising value_cmp) (on falling (flip_args value_cmp)))

abbrev pub directed_eq : Directed → Directed → Bool
directed_eq a b = is_eq (directed_cmp a b)

-- by the values of the ORDER BY columns from the left, and then by the row
abbrev pub sorted_cmp : SortedRow → SortedRow → Ordering
sorted_cmp = then_cmp (on (λ r. r.order) (slice_cmp directed_cmp)) (on (λ r. r.row) row_cmp)

abbrev pub sorted_eq : SortedRow → SortedRow → Bool
sorted_eq a b = is_eq (sorted_cmp a b)
