-- What a view keeps: its rows or groups of several commits, each with the commits that it is there at.
use Rattle.std.specs.Prelude.{ℕ, pos, Bool, if◌then◌else◌, ◌&&◌, nat_le, List, [], map, filter, None}
use Rattle.lv_values.specs.declared.value.Value.{Value}
use Rattle.lv_schema.specs.declared.signed.SignedRow.{SignedRow}
use Rattle.lv_schema.specs.declared.view.ViewDef.{ViewDef}
use Rattle.lv_schema.specs.Versions.{ends_after}
use Rattle.lv_group.specs.Gathered.{listed_values, rows_of}
use Rattle.lv_viewrows.specs.declared.version.GroupVersion.{GroupVersion}

-- a view, the commit to which its rows are maintained, the versions of its rows or groups in the order of their values
-- and then of their commits, and how many more versions go in without memory
pub record ViewKept : Type 0 where
  pub def : ViewDef
  pub at : ℕ
  pub versions : List GroupVersion
  pub spare : ℕ

-- versions in that order, and how many more go in without memory
pub record VersionsKept : Type 0 where
  pub list : List GroupVersion
  pub spare : ℕ

-- a row of a join view is a group of one tuple, without sums
abbrev pub one_row : List Value → SignedRow
one_row row = record { row = row; count = pos 1; sums = [] }

-- a group that is there from a commit on
abbrev pub version_from : ℕ → SignedRow → GroupVersion
version_from number group = record { group = group; from = number; until = None }

-- whether a version is there at commit n, and the groups that are
abbrev pub is_there : ℕ → GroupVersion → Bool
is_there n v = nat_le v.from n && ends_after n v.until

abbrev pub groups_at : ℕ → List GroupVersion → List SignedRow
groups_at n versions = map (λ v. v.group) (filter (is_there n) versions)

-- the row that a view lists of a group, and the rows of groups, in ascending order
abbrev pub row_listed : ViewDef → SignedRow → List Value
row_listed view group = if view.grouped then listed_values view.groups group view.items group.sums else group.row

abbrev pub rows_listed : ViewDef → List SignedRow → List (List Value)
rows_listed view groups = if view.grouped then rows_of (record { by = view.groups; items = view.items; groups = groups; spare = 0 }) else map (λ group. group.row) groups

-- the rows that a view shows at commit n
abbrev pub shown : ℕ → ViewKept → List (List Value)
shown n kept = rows_listed kept.def (groups_at n kept.versions)
