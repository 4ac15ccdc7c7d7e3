-- Groups with changes.
use Rattle.std.specs.Prelude.{◌≡◌, ℕ, ℤ, ◌<◌, FitsSigned, pos, true, false, ◌+ℤ◌, List, [], ◌∷◌, ◌++◌, map, filter, if◌then◌else◌, length}
use Rattle.std.specs.Int.{int_wrap, w128}
use Rattle.std.specs.List.{AllByRecursion}
use Rattle.lv_values.specs.declared.value.Value.{Value}
use Rattle.lv_schema.specs.declared.signed.SignedRow.{SignedRow}
use Rattle.lv_schema.specs.declared.view.ViewDef.{ViewDef}
use Rattle.lv_schema.specs.Applicable.{AreNetted, ApplyToGroups, ApplyToRows}
use Rattle.lv_schema.specs.Differences.{changes, summed_columns}
use Rattle.lv_schema.specs.SignedRows.{entries_of}
use Rattle.lv_group.specs.Gathered.{has_tuples}
use Rattle.lv_viewrows.specs.Kept.{ViewKept, groups_at, shown}

-- each sum is a number of 128 bits
abbrev pub SumsFit : SignedRow → Type 0
SumsFit s = AllByRecursion (FitsSigned w128) s.sums

-- how many sums a view's groups and changes have
abbrev pub sums_of : ViewDef → ℕ
sums_of view = if view.grouped then length (summed_columns view) else 0

-- a change that a view can take, whose commits end at `hi`: that is above its point, and the change can be applied to
-- the rows of a join view or to the groups of a grouped one
pub record CanInstall (kept : ViewKept) (hi : ℕ) (list : List SignedRow) : Type 0 where
  pub later : kept.at < hi
  pub netted : AreNetted (sums_of kept.def) list
  pub rows : kept.def.grouped ≡ false → ApplyToRows (shown kept.at kept) list
  pub groups : kept.def.grouped ≡ true → ApplyToGroups (groups_at kept.at kept.versions) list

-- sums and by how much each is more, modulo 2 ^ 128
abbrev pub sums_added : List ℤ → List ℤ → List ℤ
sums_added [] more = more
sums_added (n ∷ sums) [] = []
sums_added (n ∷ sums) (m ∷ more) = int_wrap w128 (n +ℤ m) ∷ sums_added sums more

-- a group with a change
abbrev pub group_with : SignedRow → SignedRow → SignedRow
group_with group s = record { row = s.row; count = group.count +ℤ s.count; sums = sums_added group.sums s.sums }

-- what becomes of a row that has these groups, one at most, with these changes, one at most
abbrev pub after_changes : List Value → List SignedRow → List SignedRow → SignedRow
after_changes row [] [] = record { row = row; count = pos 0; sums = [] }
after_changes row [] (s ∷ more) = s
after_changes row (group ∷ groups) [] = group
after_changes row (group ∷ groups) (s ∷ more) = group_with group s

-- groups with changes: those that have none stay as they are, and one without a tuple is gone
abbrev pub groups_with : List SignedRow → List SignedRow → List SignedRow
groups_with list groups = filter has_tuples (changes (λ row. after_changes row (entries_of row groups) (entries_of row list)) (map (λ s. s.row) (groups ++ list)))
