-- The groups of a view with their numbers, and the rows that they give.
use Rattle.std.specs.Prelude.{◌≡◌, ℕ, ℤ, pos, Bool, true, not, cond, List, [], ◌∷◌, ◌++◌, map, filter}
use Rattle.std.specs.List.{list_all, AllByRecursion}
use Rattle.std.specs.Ordering.{int_eq}
use Rattle.lv_values.specs.declared.value.Value.{Value}
use Rattle.lv_values.specs.declared.value.Value.TheVariants.{Num}
use Rattle.lv_values.specs.Ascending.{ascending}
use Rattle.lv_values.specs.Order.{row_cmp}
use Rattle.lv_schema.specs.declared.cond.Col.{Col}
use Rattle.lv_schema.specs.declared.signed.SignedRow.{SignedRow}
use Rattle.lv_schema.specs.declared.view.Item.{Item}
use Rattle.lv_schema.specs.declared.view.Item.TheVariants.{Plain, Sum, Count}
use Rattle.lv_schema.specs.declared.view.ViewDef.{ViewDef}
use Rattle.lv_schema.specs.Bound.{same_col}
use Rattle.lv_schema.specs.Databases.{is_int}
use Rattle.lv_schema.specs.Differences.{change_of, changes, key_of, summed_columns}
use Rattle.lv_schema.specs.Groups.{number_at}
use Rattle.lv_schema.specs.SignedRows.{netted}
use Rattle.lv_schema.specs.Tuples.{Tuple}
use Rattle.lv_bags.specs.Tallies.{IsEntry, Rising}

-- the columns that tell groups apart, the view's list, the groups with their numbers, and how many more groups go in
-- without memory
pub record Gathered : Type 0 where
  pub by : List Col
  pub items : List Item
  pub groups : List SignedRow
  pub spare : ℕ

-- groups each once, in ascending order, each with n sums, their numbers of 128 bits
pub record AreGroups (n : ℕ) (groups : List SignedRow) : Type 0 where
  pub rising : Rising groups
  pub entries : AllByRecursion (IsEntry n) groups

-- groups of this view
pub record IsOfView (view : ViewDef) (g : Gathered) : Type 0 where
  pub by : g.by ≡ view.groups
  pub items : g.items ≡ view.items

-- the groups of these tuples with their numbers, each once, in ascending order
abbrev pub groups_among : ViewDef → List Tuple → List SignedRow
groups_among view tuples = changes (change_of view [] tuples) (map (key_of view) tuples)

-- whether a group has a tuple
abbrev pub has_tuples : SignedRow → Bool
has_tuples s = not (int_eq s.count (pos 0))

-- groups with n sums after changes of them: counts added, sums added modulo 2 ^ 128, and groups without a tuple gone
abbrev pub regrouped : ℕ → List SignedRow → List SignedRow → List SignedRow
regrouped n groups changes = filter has_tuples (netted n (groups ++ changes))

-- the value that a group has in one of the columns that tell groups apart, 0 in any other column
abbrev pub group_value : List Col → List Value → Col → Value
group_value [] group col = Num (pos 0)
group_value (c ∷ cs) [] col = Num (pos 0)
group_value (c ∷ cs) (v ∷ vs) col = cond (same_col col c) v (group_value cs vs col)

-- the listed values of a group: those of its columns, its sums one after another, and its count
abbrev pub listed_values : List Col → SignedRow → List Item → List ℤ → List Value
listed_values by group [] sums = []
listed_values by group (Plain col name ∷ items) sums = group_value by group.row col ∷ listed_values by group items sums
listed_values by group (Sum col name ∷ items) [] = Num (pos 0) ∷ listed_values by group items []
listed_values by group (Sum col name ∷ items) (n ∷ sums) = Num n ∷ listed_values by group items sums
listed_values by group (Count name ∷ items) sums = Num group.count ∷ listed_values by group items sums

-- the row of each group, in ascending order
abbrev pub rows_of : Gathered → List (List Value)
rows_of g = ascending row_cmp (map (λ group. listed_values g.by group g.items group.sums) g.groups)

-- each tuple has a number of 64 bits in each column that the view sums
abbrev pub AreInts : ViewDef → List Tuple → Type 0
AreInts view tuples = AllByRecursion (λ tuple. list_all (λ col. is_int (number_at col tuple)) (summed_columns view) ≡ true) tuples
