-- What a table's versions give after a commit.
use Rattle.std.specs.Prelude.{◌≡◌, ℕ, min, ◌+◌, ◌<◌, ◌≤◌, ◌-◌, ◌^◌, Bool, true, false, cond, not, ◌&&◌, nat_eq, nat_le, nat_lt, List, [], ◌∷◌, ◌++◌, length, map, filter, take, slice_get, slice_index_or, Option, Some, None, is_none}
use Rattle.std.specs.Cmp.Lexicographic.{pointwise}
use Rattle.std.specs.List.{AllByRecursion, list_any}
use Rattle.std.specs.Ordering.{nat_cmp, on, then_cmp, is_gt, is_lt}
use Rattle.std.specs.declared.cmp.Ordering.{Ordering}
use Rattle.std.specs.declared.cmp.Ordering.TheVariants.{Less, Equal, Greater}
use Rattle.lv_values.specs.declared.value.Value.{Value}
use Rattle.lv_values.specs.Ascending.{placed}
use Rattle.lv_values.specs.Order.{row_cmp, row_eq}
use Rattle.lv_values.specs.Rows.{key_cmp, values_at}
use Rattle.lv_schema.specs.declared.table.TableDef.{TableDef}
use Rattle.lv_schema.specs.declared.net.Net.{Net}
use Rattle.lv_schema.specs.Effects.{has_key, same_key}
use Rattle.lv_schema.specs.Nets.{has_row, lacking}
use Rattle.lv_schema.specs.Once.{Ascends}
use Rattle.lv_schema.specs.declared.version.RowVersion.{RowVersion}
pub use Rattle.lv_schema.specs.Versions.{ends_after, end_by, is_at, new_version}
use Rattle.lv_shelf.specs.Cuts.{Apart}
use Rattle.lv_shelf.specs.Chains.{joined}
use Rattle.lv_shelf.specs.Shelves.{LacksItem, other_at}

-- the rows after commit n, in the order of the versions
abbrev pub state_at : ℕ → List RowVersion → List (List Value)
state_at n versions = map (λ v. v.row) (filter (is_at n) versions)

-- the rows that have these values in these columns, and the row that has a key, if one has
abbrev pub rows_with : List ℕ → List Value → List (List Value) → List (List Value)
rows_with columns values rows = filter (λ row. row_eq (values_at columns row) values) rows

abbrev pub row_with : List ℕ → List Value → List (List Value) → Option (List Value)
row_with positions key rows = slice_get (rows_with positions key rows) 0

-- a net change that a table with these rows can take: what it takes away is there, and what it brings has keys
-- of its own, in their order
pub record Applies (positions : List ℕ) (net : Net) (rows : List (List Value)) : Type 0 where
  pub there : AllByRecursion (λ row. has_row row rows ≡ true) net.minus
  pub ascending : Ascends (key_cmp positions) net.plus
  pub new : AllByRecursion (λ row. has_key positions row (lacking rows net.minus) ≡ false) net.plus

-- ---- what holds of a table's versions
-- an end, at or below n
abbrev pub EndsBy : ℕ → Option ℕ → Type 0
EndsBy n None = ⊥
EndsBy n (Some k) = k ≤ n

-- no end above n
abbrev pub EndsAtMost : ℕ → Option ℕ → Type 0
EndsAtMost n None = Unit {0}
EndsAtMost n (Some k) = k ≤ n

-- the one stands before the other: its key is less, or it ended when the other came
abbrev pub precedes_by : Ordering → RowVersion → RowVersion → Type 0
precedes_by Less v w = Unit {0}
precedes_by Equal v w = (v.from < w.from) × EndsBy w.from v.until
precedes_by Greater v w = ⊥

abbrev pub Precedes : List ℕ → RowVersion → RowVersion → Type 0
Precedes positions v w = precedes_by (key_cmp positions v.row w.row) v w

-- it came, and if it ended then it ended, by commit n
abbrev pub IsBy : ℕ → RowVersion → Type 0
IsBy n v = (v.from ≤ n) × EndsAtMost n v.until

-- it came before its end
abbrev pub CameBefore : ℕ → Option ℕ → Type 0
CameBefore n None = Unit {0}
CameBefore n (Some k) = n < k

abbrev pub Lived : RowVersion → Type 0
Lived v = CameBefore v.from v.until

-- versions of one key, the oldest first
abbrev pub HaveOneKey : List ℕ → RowVersion → RowVersion → Type 0
HaveOneKey positions v w = key_cmp positions v.row w.row ≡ Equal

-- all of one chain have lesser keys than all of another one
abbrev pub IsBelow : List ℕ → List RowVersion → List RowVersion → Type 0
IsBelow positions c d = AllByRecursion (λ v. AllByRecursion (λ w. key_cmp positions v.row w.row ≡ Less) d) c

-- chains of one key each, in the order of their keys, which differ
abbrev pub AreChains : List ℕ → List (List RowVersion) → Type 0
AreChains positions chains = AllByRecursion (Apart (HaveOneKey positions)) chains × Apart (IsBelow positions) chains

-- each of a chain came before the later ones, and ended by then
abbrev pub Succeeds : RowVersion → RowVersion → Type 0
Succeeds v w = (v.from < w.from) × EndsBy w.from v.until

abbrev pub AreHistories : List (List RowVersion) → Type 0
AreHistories chains = AllByRecursion (Apart Succeeds) chains

pub record AreVersions (positions : List ℕ) (last : ℕ) (floor : ℕ) (versions : List RowVersion) : Type 0 where
  pub order : Apart (Precedes positions) versions
  pub each : AllByRecursion (IsBy last) versions
  pub kept : AllByRecursion (λ v. ends_after floor v.until ≡ true) versions
  pub lived : AllByRecursion Lived versions

-- no end below a number
abbrev pub EndsFrom : ℕ → Option ℕ → Type 0
EndsFrom n None = Unit {0}
EndsFrom n (Some k) = n ≤ k

-- the one end is no later than the other
abbrev pub EndsNoLater : Option ℕ → Option ℕ → Type 0
EndsNoLater None u = ⊥
EndsNoLater (Some k) None = ⊥
EndsNoLater (Some k) (Some j) = k ≤ j

-- and it is another version's
abbrev pub EndsSooner : RowVersion → RowVersion → Type 0
EndsSooner v w = EndsNoLater v.until w.until × (v ≡ w → ⊥)

abbrev pub HasEnded : RowVersion → Type 0
HasEnded v = is_none v.until ≡ false

-- whether a version ended at or below a floor
abbrev pub is_over : ℕ → RowVersion → Bool
is_over floor v = not (ends_after floor v.until)

-- whether a version has not ended
abbrev pub is_open : RowVersion → Bool
is_open v = is_none v.until

-- a version is among others
abbrev pub IsIn : RowVersion → List RowVersion → Type 0
IsIn v versions = LacksItem v versions → ⊥

-- the versions that ended, each once, in the order of their ends
pub record AreEnded (order versions : List RowVersion) : Type 0 where
  pub ends : Apart EndsSooner order
  pub ended : AllByRecursion HasEnded order
  pub here : AllByRecursion (λ v. IsIn v versions) order
  pub all : AllByRecursion (λ v. HasEnded v → IsIn v order) versions

-- versions stand in the order of their keys, and under one key in the order in which they came
abbrev pub version_cmp : List ℕ → RowVersion → RowVersion → Ordering
version_cmp positions = then_cmp (on (λ v. values_at positions v.row) row_cmp) (on (λ v. v.from) nat_cmp)

-- in an index by some columns they stand in the order of their values there, and then in their own
abbrev pub index_cmp : List ℕ → List ℕ → RowVersion → RowVersion → Ordering
index_cmp columns positions = then_cmp (on (λ v. values_at columns v.row) row_cmp) (version_cmp positions)

-- the versions in the order of an index
pub record AreIndexed (columns positions : List ℕ) (order versions : List RowVersion) : Type 0 where
  pub ascends : Ascends (index_cmp columns positions) order
  pub here : AllByRecursion (λ v. IsIn v versions) order
  pub all : AllByRecursion (λ v. IsIn v order) versions

-- all of them but one
pub record AreIndexedBut (columns positions : List ℕ) (one : RowVersion) (order versions : List RowVersion) : Type 0 where
  pub ascends : Ascends (index_cmp columns positions) order
  pub here : AllByRecursion (λ v. IsIn v versions) order
  pub lacks : LacksItem one order
  pub all : AllByRecursion (λ v. (v ≡ one → ⊥) → IsIn v order) versions

-- the columns of an index
abbrev pub columns_at : List (List ℕ) → ℕ → List ℕ
columns_at columns j = slice_index_or columns j []

-- whether there is an index by these columns, and the indexes with one by them, which comes last if it is new
abbrev pub has_index : List ℕ → List (List ℕ) → Bool
has_index columns indexes = list_any (pointwise nat_eq columns) indexes

abbrev pub with_index : List ℕ → List (List ℕ) → List (List ℕ)
with_index columns indexes = cond (has_index columns indexes) indexes (indexes ++ columns ∷ [])

-- what the order of the versions that have not ended has, which is kept from some time on
abbrev pub current_of : Bool → List RowVersion → List RowVersion
current_of kept versions = cond kept (filter is_open versions) []

-- the further orders: first that of the versions that ended, then that of those that have not, then an index by each of these lists of columns
pub record AreOrders (positions : List ℕ) (columns : List (List ℕ)) (others : List (List RowVersion)) (versions : List RowVersion) : Type 0 where
  pub count : length others ≡ length columns + 2
  pub ended : AreEnded (other_at others 0) versions
  pub indexed : (j : ℕ) → j < length columns → AreIndexed (columns_at columns j) positions (other_at others (j + 2)) versions

-- or not yet both of the first ones, and then no version and no room for one
abbrev pub HaveOrders : List ℕ → List (List ℕ) → ℕ → List (List RowVersion) → List RowVersion → Type 0
HaveOrders positions columns spare [] versions = (columns ≡ []) × (versions ≡ []) × (spare ≡ 0)
HaveOrders positions columns spare (order ∷ []) versions = (columns ≡ []) × (versions ≡ []) × (spare ≡ 0) × (order ≡ [])
HaveOrders positions columns spare (order ∷ next ∷ more) versions = AreOrders positions columns (order ∷ next ∷ more) versions

-- what a reader looks at: all chains, or the versions of a further order, each by itself
abbrev pub alone : RowVersion → List RowVersion
alone v = v ∷ []

abbrev pub seen_in : Option ℕ → List (List RowVersion) → List (List RowVersion) → List (List RowVersion)
seen_in None others chains = chains
seen_in (Some order) others chains = map alone (other_at others order)

abbrev pub IsSeen : Option ℕ → List (List RowVersion) → Type 0
IsSeen None others = Unit {0}
IsSeen (Some order) others = order < length others

-- and no version that a clean-up below the soonest end would drop, and the further orders
pub record AreKept (positions : List ℕ) (last floor soonest : ℕ) (columns : List (List ℕ)) (kept : Bool) (spare : ℕ) (others chains : List (List RowVersion)) : Type 0 where
  pub are : AreVersions positions last floor (joined chains)
  pub chained : AreChains positions chains
  pub ends : AllByRecursion (λ v. EndsFrom soonest v.until) (joined chains)
  pub orders : HaveOrders positions columns spare others (joined chains)
  pub current : other_at others 1 ≡ current_of kept (joined chains)

-- the soonest end after a commit that takes these rows away
abbrev pub soonest_after : ℕ → ℕ → List (List Value) → ℕ
soonest_after soonest number [] = soonest
soonest_after soonest number (row ∷ rows) = min soonest number

-- and after a clean-up: below it none ended, so it stays; or else what is left ended above the floor, by the last commit
abbrev pub soonest_pruned : ℕ → ℕ → ℕ → ℕ
soonest_pruned floor last soonest = cond (nat_lt floor soonest) soonest (cond (nat_lt floor last) (floor + 1) (2 ^ 64 - 1))

-- a table's versions: its definition, the versions in order, how many more rows go in without memory, the last
-- commit that changed it, the floor of the last clean-up, the columns of each index in the order in which they were
-- added, and a number below which no version ends
pub record Kept : Type 0 where
  pub def : TableDef
  pub versions : List RowVersion
  pub spare : ℕ
  pub last : ℕ
  pub floor : ℕ
  pub indexes : List (List ℕ)
  pub soonest : ℕ

-- ---- what a commit does to the versions
-- a version after a commit that takes these rows away
abbrev pub lost : ℕ → List (List Value) → RowVersion → RowVersion
lost number rows v = record v { until = end_by v.until (not (has_row v.row rows)) number }

-- the versions after a commit that brings these rows
abbrev pub with_versions : List ℕ → ℕ → List (List Value) → List RowVersion → List RowVersion
with_versions positions number [] versions = versions
with_versions positions number (row ∷ rows) versions = placed (version_cmp positions) (new_version number row) (with_versions positions number rows versions)

abbrev pub ended_at : ℕ → RowVersion → RowVersion
ended_at number v = record v { until = Some number }

-- whether a version comes before the one that a commit brings, and whether it has the row's key, came before the
-- commit and has not ended
abbrev pub comes_before : List ℕ → List Value → ℕ → RowVersion → Bool
comes_before positions row number v = is_lt (version_cmp positions v (new_version number row))

-- and whether it does in an index
abbrev pub comes_before_in : List ℕ → List ℕ → List Value → ℕ → RowVersion → Bool
comes_before_in columns positions row number v = is_lt (index_cmp columns positions v (new_version number row))

-- whether a version's key is not above that of a row
abbrev pub upto : List ℕ → List Value → RowVersion → Bool
upto positions row v = not (is_gt (key_cmp positions v.row row))

-- whether a version came by commit n
abbrev pub came_by : ℕ → RowVersion → Bool
came_by n v = nat_le v.from n

abbrev pub is_current : List ℕ → List Value → ℕ → RowVersion → Bool
is_current positions row number v = is_none v.until && (nat_lt v.from number && same_key positions v.row row)

-- a version after a commit that changes rows of the keys that these rows have
abbrev pub closed : List ℕ → ℕ → List (List Value) → RowVersion → RowVersion
closed positions number rows v = record v { until = end_by v.until (not (nat_lt v.from number && has_key positions v.row rows)) number }

-- whether there is a last one of some rows whose key is not below that of a row
abbrev pub is_last_from : List ℕ → List Value → Option (List Value) → Bool
is_last_from positions row None = false
is_last_from positions row (Some last) = not (is_lt (key_cmp positions last row))

abbrev pub ends_from : List ℕ → List Value → List (List Value) → Bool
ends_from positions row rows = is_last_from positions row (slice_get rows (length rows - 1))

-- a version with the key of a row came before a commit
abbrev pub IsOlder : List ℕ → ℕ → List Value → RowVersion → Type 0
IsOlder positions number row v = key_cmp positions row v.row ≡ Equal → v.from < number

-- less passes, and equal where that counts too
abbrev pub reaches_by : Ordering → Bool → Bool
reaches_by Less b = true
reaches_by Equal b = b
reaches_by Greater b = false

-- whether its values in some columns are below others, or, if these count too, are these
abbrev pub is_upto : List ℕ → List Value → Bool → RowVersion → Bool
is_upto columns values themselves v = reaches_by (row_cmp (values_at columns v.row) values) themselves

-- no row that passes has first key values below these
pub record IsLow (key : List ℕ) (values : List Value) (p : List Value → Bool) : Type 0 where
  pub fits : length values ≤ length key
  pub least : (row : List Value) → p row ≡ true → is_lt (row_cmp (values_at (take (length values) key) row) values) ≡ false

-- no row that passes has first key values above these
pub record IsHigh (key : List ℕ) (values : List Value) (p : List Value → Bool) : Type 0 where
  pub fits : length values ≤ length key
  pub most : (row : List Value) → p row ≡ true → is_gt (row_cmp (values_at (take (length values) key) row) values) ≡ false

-- whether a row's first key values are not below these, and whether they are not above these, as all are where none are given
abbrev pub is_from : List ℕ → Option (List Value) → List Value → Bool
is_from key None row = true
is_from key (Some low) row = not (is_lt (row_cmp (values_at (take (length low) key) row) low))

abbrev pub is_to : List ℕ → Option (List Value) → List Value → Bool
is_to key None row = true
is_to key (Some high) row = not (is_gt (row_cmp (values_at (take (length high) key) row) high))

-- the rows between two bounds, with those on them
abbrev pub rows_within : List ℕ → Option (List Value) → Option (List Value) → List (List Value) → List (List Value)
rows_within key low high rows = filter (λ row. is_from key low row && is_to key high row) rows

-- the row of a version that has a key and is there after commit n
abbrev pub hits : List ℕ → List Value → ℕ → RowVersion → Bool
hits positions key n v = is_at n v && row_eq (values_at positions v.row) key

abbrev pub rows_hit : List ℕ → List Value → ℕ → List RowVersion → List (List Value)
rows_hit positions key n versions = map (λ v. v.row) (filter (hits positions key n) versions)

-- a row that a commit brings is new to a version: the version has another key, or ended by that commit
abbrev pub new_by : Ordering → ℕ → RowVersion → Type 0
new_by Less number v = Unit {0}
new_by Equal number v = (v.from < number) × EndsBy number v.until
new_by Greater number v = Unit {0}

abbrev pub IsNewTo : List ℕ → ℕ → List Value → RowVersion → Type 0
IsNewTo positions number row v = new_by (key_cmp positions row v.row) number v

abbrev pub HaveOtherKeys : List ℕ → List Value → List Value → Type 0
HaveOtherKeys positions a b = key_cmp positions a b ≡ Equal → ⊥

-- rows of different keys that are new to each version
pub record AreNew (positions : List ℕ) (number : ℕ) (rows : List (List Value)) (versions : List RowVersion) : Type 0 where
  pub apart : Apart (HaveOtherKeys positions) rows
  pub new : AllByRecursion (λ row. AllByRecursion (IsNewTo positions number row) versions) rows
