-- The sums that an UPDATE computes stay inside signed 128 bits.
use Rattle.std.specs.Prelude.{◌+ℤ◌, FitsSigned, List}
use Rattle.std.specs.Int.{w128}
use Rattle.std.specs.List.{AllByRecursion}
use Rattle.lv_values.specs.declared.value.Value.{Value}
use Rattle.lv_values.specs.Order.{number_of}
use Rattle.lv_values.specs.Rows.{value_in}
use Rattle.lv_schema.specs.declared.change.Change.{Change}
use Rattle.lv_schema.specs.declared.change.Change.TheVariants.{Insert, Update, Delete}
use Rattle.lv_schema.specs.declared.change.Set.{Set}
use Rattle.lv_schema.specs.declared.change.SetValue.{SetValue}
use Rattle.lv_schema.specs.declared.change.SetValue.TheVariants.{Literal, Column, Plus}

-- the sum that a SET computes from the old row
abbrev pub SumFits : List Value → SetValue → Type 0
SumFits old (Literal v) = Unit {0}
SumFits old (Column c) = Unit {0}
SumFits old (Plus c amount) = FitsSigned w128 (number_of (value_in old c) +ℤ amount)

-- the sums of all SETs, and those over all rows
abbrev pub RowSumsFit : List Set → List Value → Type 0
RowSumsFit sets old = AllByRecursion (λ s. SumFits old s.value) sets

abbrev pub SumsFit : List Set → List (List Value) → Type 0
SumsFit sets rows = AllByRecursion (RowSumsFit sets) rows

-- those of a change
abbrev pub ChangeSumsFit : Change → List (List Value) → Type 0
ChangeSumsFit (Insert table new) rows = Unit {0}
ChangeSumsFit (Update table sets c) rows = SumsFit sets rows
ChangeSumsFit (Delete table c) rows = Unit {0}
