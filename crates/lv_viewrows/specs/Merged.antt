-- The groups of a view with changes, by one walk over both in the order of their rows.
use Rattle.std.specs.Prelude.{◌≡◌, true, Bool, ℕ, ◌+ℤ◌, List, [], ◌∷◌, ◌++◌, map, filter}
use Rattle.std.specs.List.{AllByRecursion}
use Rattle.std.specs.Ordering.{is_gt}
use Rattle.std.specs.declared.cmp.Ordering.TheVariants.{Equal}
use Rattle.std.specs.FinMap.Entries.{by_order}
use Rattle.lv_values.specs.declared.value.Value.{Value}
use Rattle.lv_values.specs.Order.{row_cmp}
use Rattle.lv_schema.specs.declared.signed.SignedRow.{SignedRow}
use Rattle.lv_schema.specs.declared.view.ViewDef.{ViewDef}
use Rattle.lv_group.specs.Gathered.{has_tuples}
use Rattle.lv_viewrows.specs.declared.version.GroupVersion.{GroupVersion}
use Rattle.lv_viewrows.specs.Changed.{group_with}
use Rattle.lv_viewrows.specs.Kept.{is_there, row_listed}
use Rattle.lv_viewrows.specs.Standing.{IsCount}

-- a group where it has a tuple
abbrev pub if_some : SignedRow → List SignedRow
if_some group = filter has_tuples (group ∷ [])

-- a group, behind those that changes of lesser rows make and with the change of its own row; and the changes that are
-- left
abbrev pub up_to : SignedRow → List SignedRow → List SignedRow
up_to group [] = group ∷ []
up_to group (s ∷ list) = by_order (row_cmp s.row group.row) (if_some s ++ up_to group list) (if_some (group_with group s)) (group ∷ [])

abbrev pub left_by : SignedRow → List SignedRow → List SignedRow
left_by group [] = []
left_by group (s ∷ list) = by_order (row_cmp s.row group.row) (left_by group list) list (s ∷ list)

-- whether the row of a group is below those of ascending changes
abbrev pub is_below : List SignedRow → SignedRow → Bool
is_below [] group = true
is_below (s ∷ list) group = is_gt (row_cmp s.row group.row)

-- ascending groups with ascending changes
abbrev pub merged : List SignedRow → List SignedRow → List SignedRow
merged list [] = filter has_tuples list
merged list (group ∷ groups) = up_to group list ++ merged (left_by group list) groups

-- the rows listed of groups, those that pass
abbrev pub passing : ViewDef → (List Value → Bool) → List SignedRow → List (List Value)
passing view p groups = filter p (map (row_listed view) groups)

-- a change of its own row leaves a group a count, and so each change does a version that is there at commit n
abbrev pub FitsInto : SignedRow → SignedRow → Type 0
FitsInto group s = row_cmp s.row group.row ≡ Equal → IsCount (group.count +ℤ s.count)

abbrev pub AllFitAt : ℕ → List SignedRow → GroupVersion → Type 0
AllFitAt n list v = is_there n v ≡ true → AllByRecursion (FitsInto v.group) list
