-- Rows by their first value.
use Rattle.std.specs.Prelude.{◌≡◌, ℕ, nat_lt, Bool, true, false, not, if◌then◌else◌, List, [], ◌∷◌, Option, Some, None, position}
use Rattle.std.specs.List.{AllByRecursion}
use Rattle.std.specs.Ordering.{is_gt, is_lt}
use Rattle.lv_values.specs.declared.value.Value.{Value}
use Rattle.lv_values.specs.Order.{value_cmp}
use Rattle.lv_values.specs.Rows.{value_in}
use Rattle.lv_schema.specs.Bound.{same_col}
use Rattle.lv_schema.specs.declared.cond.Col.{Col}
use Rattle.lv_schema.specs.declared.view.Item.{Item}
use Rattle.lv_schema.specs.declared.view.Item.TheVariants.{Plain, Sum, Count}
use Rattle.lv_schema.specs.declared.signed.SignedRow.{SignedRow}
use Rattle.lv_schema.specs.declared.view.ViewDef.{ViewDef}
use Rattle.lv_viewrows.specs.declared.version.GroupVersion.{GroupVersion}
use Rattle.lv_viewrows.specs.Kept.{row_listed}

-- whether a value is below the lowest one, and whether it is above the highest one, where there is one
abbrev pub lies_below : Option Value → Value → Bool
lies_below None v = false
lies_below (Some low) v = is_lt (value_cmp v low)

abbrev pub lies_above : Option Value → Value → Bool
lies_above None v = false
lies_above (Some high) v = is_gt (value_cmp v high)

-- a group of which a view lists a row that passes has no value first that is below the lowest one, and none that is above
-- the highest one
abbrev pub AllFrom : ViewDef → (List Value → Bool) → Option Value → Type 0
AllFrom view p low = (group : SignedRow) → p (row_listed view group) ≡ true → lies_below low (value_in group.row 0) ≡ false

abbrev pub AllUpTo : ViewDef → (List Value → Bool) → Option Value → Type 0
AllUpTo view p high = (group : SignedRow) → p (row_listed view group) ≡ true → lies_above high (value_in group.row 0) ≡ false

-- a column of what a view lists is the first value of its groups
abbrev pub IsFirst : ViewDef → ℕ → Type 0
IsFirst view column = (group : SignedRow) → value_in (row_listed view group) column ≡ value_in group.row 0

-- whether an item of a view's list is this column
abbrev pub is_plain : Item → Col → Bool
is_plain (Plain col name) column = same_col col column
is_plain (Sum col name) column = false
is_plain (Count name) column = false

-- the first item that is the first column of the groups
abbrev pub first_listed : List Col → List Item → Option ℕ
first_listed [] items = None
first_listed (first ∷ groups) items = position (λ item. is_plain item first) items

-- a column has one of 256 numbers
abbrev pub column_numbered : Option ℕ → Option ℕ
column_numbered None = None
column_numbered (Some at) = if nat_lt at 256 then Some at else None

-- the column of what a view lists that is the first value of its groups
abbrev pub first_column : ViewDef → Option ℕ
first_column view = if view.grouped then column_numbered (first_listed view.groups view.items) else Some 0

-- whether a row begins below a value, and whether it begins with no greater one; a row without a value does
abbrev pub begins_below : Value → List Value → Bool
begins_below low [] = true
begins_below low (v ∷ row) = is_lt (value_cmp v low)

abbrev pub begins_up_to : Value → List Value → Bool
begins_up_to high [] = true
begins_up_to high (v ∷ row) = not (is_gt (value_cmp v high))

-- each version's row has a value first that is below the lowest one, and each has one that is above the highest one
abbrev pub AllBelow : Option Value → List GroupVersion → Type 0
AllBelow low versions = AllByRecursion (λ v. lies_below low (value_in v.group.row 0) ≡ true) versions

abbrev pub AllAbove : Option Value → List GroupVersion → Type 0
AllAbove high versions = AllByRecursion (λ v. lies_above high (value_in v.group.row 0) ≡ true) versions

-- no row passes that a view lists of a group with the row of one of these versions
abbrev pub NonePasses : ViewDef → (List Value → Bool) → List GroupVersion → Type 0
NonePasses view p versions = AllByRecursion (λ v. (group : SignedRow) → group.row ≡ v.group.row → p (row_listed view group) ≡ false) versions
