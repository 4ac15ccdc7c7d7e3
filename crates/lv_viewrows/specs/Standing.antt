-- What holds of the versions of a view's rows, and what a change does to them.
use Rattle.std.specs.Prelude.{◌≡◌, ℕ, ℤ, pos, ◌-◌, ◌<◌, ◌≤◌, ◌^◌, ◌+ℤ◌, Bool, true, false, not, ◌&&◌, if◌then◌else◌, List, [], ◌∷◌, ◌++◌, drop, take, length, nat_le, map, filter, slice_get, Option, Some, None, is_none}
use Rattle.std.specs.List.{AllByRecursion}
use Rattle.std.specs.Ordering.{nat_cmp, on, then_cmp, is_lt}
use Rattle.std.specs.declared.cmp.Ordering.{Ordering}
use Rattle.std.specs.declared.cmp.Ordering.TheVariants.{Less, Equal, Greater}
use Rattle.lv_values.specs.declared.value.Value.{Value}
use Rattle.lv_values.specs.Ascending.{placed}
use Rattle.lv_values.specs.Order.{row_cmp, row_eq}
use Rattle.lv_schema.specs.declared.signed.SignedRow.{SignedRow}
use Rattle.lv_schema.specs.declared.view.ViewDef.{ViewDef}
use Rattle.lv_schema.specs.Once.{Ascends}
use Rattle.lv_schema.specs.Versions.{end_by, ends_after}
use Rattle.lv_group.specs.Gathered.{has_tuples}
use Rattle.lv_shelf.specs.Cuts.{Apart}
use Rattle.lv_viewrows.specs.declared.version.GroupVersion.{GroupVersion}
use Rattle.lv_viewrows.specs.Changed.{group_with}
use Rattle.lv_viewrows.specs.Kept.{one_row, version_from}

-- an end, at or below n; and none above n
abbrev pub EndsBy : ℕ → Option ℕ → Type 0
EndsBy n None = ⊥
EndsBy n (Some k) = k ≤ n

abbrev pub EndsAtMost : ℕ → Option ℕ → Type 0
EndsAtMost n None = Unit {0}
EndsAtMost n (Some k) = k ≤ n

-- the one stands before the other: its row is less, or it ended when the other came
abbrev pub precedes_by : Ordering → GroupVersion → GroupVersion → Type 0
precedes_by Less v w = Unit {0}
precedes_by Equal v w = (v.from < w.from) × EndsBy w.from v.until
precedes_by Greater v w = ⊥

abbrev pub Precedes : GroupVersion → GroupVersion → Type 0
Precedes v w = precedes_by (row_cmp v.group.row w.group.row) v w

-- it came, and if it ended then it ended, by commit n
abbrev pub IsBy : ℕ → GroupVersion → Type 0
IsBy n v = (v.from ≤ n) × EndsAtMost n v.until

-- a row of a join view is a group of one tuple
abbrev pub IsRow : GroupVersion → Type 0
IsRow v = v.group ≡ one_row v.group.row

pub record AreVersions (view : ViewDef) (at : ℕ) (versions : List GroupVersion) : Type 0 where
  pub order : Apart Precedes versions
  pub each : AllByRecursion (IsBy at) versions
  pub counts : AllByRecursion (λ v. has_tuples v.group ≡ true) versions
  pub rows : view.grouped ≡ false → AllByRecursion IsRow versions

-- ---- versions that have not ended
abbrev pub has_no_end : GroupVersion → Bool
has_no_end v = is_none v.until

abbrev pub not_ended : List GroupVersion → List GroupVersion
not_ended versions = filter has_no_end versions

-- no version has ended
abbrev pub AreOpen : List GroupVersion → Type 0
AreOpen versions = AllByRecursion (λ v. has_no_end v ≡ true) versions

-- the versions that did not end at or below a commit
abbrev pub pruned : ℕ → List GroupVersion → List GroupVersion
pruned number versions = filter (λ v. ends_after number v.until) versions

-- how many of the first so many versions have not ended
abbrev pub not_ended_before : ℕ → List GroupVersion → ℕ
not_ended_before at versions = length (not_ended (take at versions))

-- the versions that are looked at for those that are there at commit n, where none came or ended above commit `at`
abbrev pub read_at : ℕ → ℕ → List GroupVersion → List GroupVersion
read_at at n versions = if nat_le at n then not_ended versions else versions

-- ---- what a change does
-- versions stand in the order of their rows, and under one row in the order in which they came
abbrev pub version_cmp : GroupVersion → GroupVersion → Ordering
version_cmp = then_cmp (on (λ v. v.group.row) row_cmp) (on (λ v. v.from) nat_cmp)

-- whether a version comes before one of a row from a commit on
abbrev pub comes_before : List Value → ℕ → GroupVersion → Bool
comes_before row number v = is_lt (version_cmp v (version_from number (one_row row)))

-- no version from a place on comes before one of a row from a commit on
abbrev pub NoneBefore : List Value → ℕ → ℕ → List GroupVersion → Type 0
NoneBefore row number at versions = AllByRecursion (λ v. comes_before row number v ≡ false) (drop at versions)

-- whether a version has a row and has not ended, and the groups of those that are so
abbrev pub is_current : List Value → GroupVersion → Bool
is_current row v = has_no_end v && row_eq row v.group.row

abbrev pub current : List Value → List GroupVersion → List SignedRow
current row versions = map (λ v. v.group) (filter (is_current row) versions)

-- a version that ends, and one that ends if it has the row
abbrev pub ended_at : ℕ → GroupVersion → GroupVersion
ended_at number v = record v { until = Some number }

abbrev pub ended : ℕ → List Value → GroupVersion → GroupVersion
ended number row v = record v { until = end_by v.until (not (row_eq row v.group.row)) number }

-- a change with what its row has
abbrev pub joined : List SignedRow → SignedRow → SignedRow
joined [] s = s
joined (group ∷ groups) s = group_with group s

-- a group goes in if it has a tuple
abbrev pub put : ℕ → SignedRow → List GroupVersion → List GroupVersion
put number group versions = if has_tuples group then placed version_cmp (version_from number group) versions else versions

-- the versions after a change, and after several, the last one first
abbrev pub changed : ℕ → SignedRow → List GroupVersion → List GroupVersion
changed number s versions = put number (joined (current s.row versions) s) (map (ended number s.row) versions)

abbrev pub changed_all : ℕ → List SignedRow → List GroupVersion → List GroupVersion
changed_all number [] versions = versions
changed_all number (s ∷ list) versions = changed number s (changed_all number list versions)

-- a change ends the version before a place, and leaves no group of its row
pub record EndsBefore (s : SignedRow) (at : ℕ) (versions : List GroupVersion) : Type 0 where
  pub some : 0 < at
  pub current : (v : GroupVersion) → slice_get versions (at - 1) ≡ Some v → is_current s.row v ≡ true
  pub gone : (v : GroupVersion) → slice_get versions (at - 1) ≡ Some v → has_tuples (group_with v.group s) ≡ false

-- the last change, t, ends the version before a place and leaves no group of its row, and s, which follows it, brings one
pub record AreBoth (t s : SignedRow) (at : ℕ) (changes left : List SignedRow) (versions : List GroupVersion) : Type 0 where
  pub last : changes ≡ left ++ t ∷ []
  pub ends : EndsBefore t at versions
  pub brings : has_tuples s ≡ true

-- a number of tuples that a count can hold
pub record IsCount (n : ℤ) : Type 0 where
  pub count : ℕ
  pub is : n ≡ pos count
  pub small : count < 2 ^ 64

-- a version meets a change: it came before, if it has the row, and its count with the change's is a count
abbrev pub meets_by : Ordering → ℕ → SignedRow → GroupVersion → Type 0
meets_by Less number s v = Unit {0}
meets_by Equal number s v = (v.from < number) × (v.until ≡ None → IsCount (v.group.count +ℤ s.count))
meets_by Greater number s v = Unit {0}

abbrev pub Meets : ℕ → SignedRow → GroupVersion → Type 0
Meets number s v = meets_by (row_cmp v.group.row s.row) number s v

abbrev pub MeetAll : ℕ → List GroupVersion → SignedRow → Type 0
MeetAll number versions s = AllByRecursion (Meets number s) versions

-- changes that are left to be applied, from the last one on, in the order of their rows: no version from a place on comes
-- before a row of theirs, and none of those that have not ended from a place among these on
pub record AreLeft (number : ℕ) (changes : List SignedRow) (versions : List GroupVersion) (all few : ℕ) : Type 0 where
  pub order : Apart Precedes versions
  pub each : AllByRecursion (IsBy number) versions
  pub ascend : Ascends (λ (a b : SignedRow). row_cmp a.row b.row) changes
  pub meet : AllByRecursion (MeetAll number versions) changes
  pub within : all ≤ length versions
  pub above : AllByRecursion (λ s. NoneBefore s.row number all versions) changes
  pub within_few : few ≤ length (not_ended versions)
  pub above_few : AllByRecursion (λ s. NoneBefore s.row number few (not_ended versions)) changes
