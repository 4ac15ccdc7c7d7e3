-- Changes that a view cannot tell: rows that go and rows that come in their place, which are the same in each column that
-- the view uses of their alias. They make no difference to the view through that alias (Blakeley, Coburn and Larson,
-- "Updating Derived Relations: Detecting Irrelevant and Autonomously Computable Updates", 1989).
use Rattle.std.specs.Prelude.{◌≡◌, ℕ, suc, Bool, true, not, cond, ◌||◌, ◌==◌, nat_eq, Option, Some, None, List, [], ◌∷◌, ◌++◌}
use Rattle.std.specs.Cmp.Lexicographic.{pointwise}
use Rattle.std.specs.List.{list_all, list_any}
use Rattle.lv_values.specs.declared.value.Value.{Value}
use Rattle.lv_values.specs.Order.{value_eq}
use Rattle.lv_values.specs.Rows.{value_in}
use Rattle.lv_schema.specs.declared.cond.Col.{Col}
use Rattle.lv_schema.specs.declared.cond.Cond.{Cond}
use Rattle.lv_schema.specs.declared.cond.Cond.TheOpen.{Cond-F, True, Cmp, And, Or, Not}
use Rattle.lv_schema.specs.declared.cond.Cond.TheFolds.{fold-Cond}
use Rattle.lv_schema.specs.declared.cond.Operand.{Operand}
use Rattle.lv_schema.specs.declared.cond.Operand.TheVariants.{Column, Number, Text}
use Rattle.lv_schema.specs.declared.net.Net.{Net}
use Rattle.lv_schema.specs.declared.part.Part.{Part}
use Rattle.lv_schema.specs.declared.view.ViewDef.{ViewDef}
use Rattle.lv_schema.specs.Differences.{key_columns, summed_columns}
use Rattle.lv_schema.specs.Nets.{has_row}

-- ---- the columns that a view uses
-- the column that one side of a comparison names
abbrev pub operand_columns : Operand → List Col
operand_columns (Column col) = col ∷ []
operand_columns (Number n) = []
operand_columns (Text t) = []

-- lists of columns, one behind another
abbrev pub joined : List (List Col) → List Col
joined [] = []
joined (cols ∷ more) = cols ++ joined more

-- one node, with the columns of each part in its place
abbrev pub columns_step : Cond-F (List Col) → List Col
columns_step True = []
columns_step (Cmp op left right) = operand_columns left ++ operand_columns right
columns_step (And parts) = joined parts
columns_step (Or parts) = joined parts
columns_step (Not part) = part

-- the columns that a condition names
abbrev pub columns_of : Cond → List Col
columns_of c = fold-Cond (List Col) columns_step c

-- the columns that a view tests, those that tell its rows or groups apart, and those that it sums
abbrev pub used_columns : ViewDef → List Col
used_columns view = columns_of view.cond ++ (key_columns view ++ summed_columns view)

-- whether a column is of another alias, or is among these
abbrev pub is_among : ℕ → List ℕ → Col → Bool
is_among alias columns col = not (col.alias == alias) || list_any (λ column. nat_eq column col.column) columns

-- whether there is none, or it is
abbrev pub is_among_if : ℕ → List ℕ → Option Col → Bool
is_among_if alias columns None = true
is_among_if alias columns (Some col) = is_among alias columns col

-- whether a view uses no other columns of an alias than these
abbrev pub uses_only : ViewDef → ℕ → List ℕ → Bool
uses_only view alias columns = list_all (is_among alias columns) (used_columns view)

-- ---- changes that they do not show
-- whether a column is of another alias, or two rows have equal values in it
abbrev pub same_at : ℕ → List Value → List Value → Col → Bool
same_at alias a b col = not (col.alias == alias) || value_eq (value_in a col.column) (value_in b col.column)

-- whether two rows have equal values in each of these columns that is of this alias
abbrev pub same_in : List Col → ℕ → List Value → List Value → Bool
same_in cols alias a b = list_all (same_at alias a b) cols

-- whether as many rows come as go, and each is the same as the one in its place. An UPDATE assigns no column of a key, so
-- in the order of their keys the old row and the new one stand at the same place.
abbrev pub is_untold : List Col → ℕ → Part → Bool
is_untold cols alias p = pointwise (same_in cols alias) p.minus p.plus

-- the part of a table with these rows and this net change
abbrev pub part_of : List (List Value) → Net → Part
part_of rows net = record { old = rows; minus = net.minus; plus = net.plus }

-- a part without its changes
abbrev pub unchanged : Part → Part
unchanged p = record { old = p.old; minus = []; plus = [] }

-- a part without its changes, if these columns do not show them
abbrev pub told_part : List Col → ℕ → Part → Part
told_part cols alias p = cond (is_untold cols alias p) (unchanged p) p

-- the parts so; the aliases count from i
abbrev pub told_from : List Col → ℕ → List Part → List Part
told_from cols i [] = []
told_from cols i (p ∷ parts) = told_part cols i p ∷ told_from cols (suc i) parts

-- the parts without those changes that the view cannot tell
abbrev pub told : ViewDef → List Part → List Part
told view parts = told_from (used_columns view) 0 parts

-- ---- what stays
-- the changes alone
abbrev pub without_old : Part → Part
without_old p = record { old = []; minus = p.minus; plus = p.plus }

-- what is left of a part: its own old rows, and no changes but its own
pub record IsToldOf (left p : Part) : Type 0 where
  pub old : left.old ≡ p.old
  pub minus : (row : List Value) → has_row row left.minus ≡ true → has_row row p.minus ≡ true
  pub plus : (row : List Value) → has_row row left.plus ≡ true → has_row row p.plus ≡ true
