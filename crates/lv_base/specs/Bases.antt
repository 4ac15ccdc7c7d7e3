-- The committed states as they are kept, with the room that is ready for more.
use Rattle.std.specs.Prelude.{◌≡◌, ℕ, ◌+◌, ◌^◌, ◌≤◌, ◌<◌, true, List, [], map, length, slice_index_or}
use Rattle.std.specs.List.{sum_by}
use Rattle.lv_values.specs.declared.value.Value.{Value}
use Rattle.lv_values.specs.Rows.{key_cmp}
use Rattle.lv_schema.specs.declared.action.Action.{Action}
use Rattle.lv_schema.specs.declared.net.Net.{Net}
use Rattle.lv_schema.specs.declared.table.TableDef.{TableDef}
use Rattle.lv_schema.specs.Condensed.{condensed}
use Rattle.lv_schema.specs.Databases.{Db, IsDatabase}
use Rattle.lv_schema.specs.Nets.{net_of}
use Rattle.lv_schema.specs.Once.{Ascends}
use Rattle.lv_schema.specs.SoundWorld.{CanAct}
use Rattle.lv_schema.specs.World.{no_table}
use Rattle.lv_delta.specs.Kept.{DeltasKept}
use Rattle.lv_stands.specs.Kept.{TableKept, BaseKept, shown}
use Rattle.lv_stands.specs.Moves.{no_net}
use Rattle.lv_versions.specs.Versions.{Kept, has_index}

-- each table's versions, the entries of the commits, the number of the last one, the floor of the last clean-up, and how
-- many more tables go in without memory
pub record BaseRoom : Type 0 where
  pub tables : List Kept
  pub deltas : DeltasKept
  pub number : ℕ
  pub pruned : ℕ
  pub free : ℕ

abbrev pub no_versions : Kept
no_versions = record { def = no_table; versions = []; spare = 0; last = 0; floor = 0; indexes = []; soonest = 0 }

-- a table's versions, and the net change of a table
abbrev pub table_in : List Kept → ℕ → Kept
table_in tables t = slice_index_or tables t no_versions

abbrev pub net_in : List Net → ℕ → Net
net_in nets t = slice_index_or nets t no_net

-- the same without the room
abbrev pub kept_of : Kept → TableKept
kept_of k = record { def = k.def; versions = k.versions; last = k.last; floor = k.floor }

-- the number of the rows of a table's last state is known, and before the first commit it has none
pub record IsTable (rows : ℕ) (k : Kept) : Type 0 where
  pub counted : rows ≡ length (shown k.last k.versions)
  pub begins : shown 0 k.versions ≡ []

abbrev pub base_of : BaseRoom → BaseKept
base_of b = record { tables = map kept_of b.tables; entries = b.deltas.entries; number = b.number; pruned = b.pruned }

abbrev pub defs_of : BaseRoom → List TableDef
defs_of b = map (λ k. k.def) b.tables

-- the last state
abbrev pub last_state : BaseRoom → Db
last_state b = map (λ k. shown b.number k.versions) b.tables

-- the columns of each table's indexes
abbrev pub indexes_in : List Kept → List (List (List ℕ))
indexes_in tables = map (λ k. k.indexes) tables

-- the same without the indexes
abbrev pub unindexed : Kept → Kept
unindexed k = record k { indexes = [] }

abbrev pub without_indexes : BaseRoom → BaseRoom
without_indexes b = record b { tables = map unindexed b.tables }

-- the one is the other, but for the tables' indexes
abbrev pub IsReindexed : BaseRoom → BaseRoom → Type 0
IsReindexed old new = without_indexes new ≡ without_indexes old

-- a table has an index by some columns, and each table has those that it had
abbrev pub HasIndex : BaseRoom → ℕ → List ℕ → Type 0
HasIndex b t columns = has_index columns (table_in b.tables t).indexes ≡ true

abbrev pub KeepsIndexes : BaseRoom → BaseRoom → Type 0
KeepsIndexes old new = (t : ℕ) (columns : List ℕ) → HasIndex old t columns → HasIndex new t columns

-- how many versions tables have, and how many rows net changes bring
abbrev pub versions_in : List Kept → ℕ
versions_in tables = sum_by (λ k. length k.versions) tables

abbrev pub brought_in : List Net → ℕ
brought_in nets = sum_by (λ net. length net.plus) nets

-- each table stands at the place of its number, and nothing in it is above the last commit or the floor
pub record IsTableAt (b : BaseRoom) (t : ℕ) (k : Kept) : Type 0 where
  pub no_is : k.def.no ≡ t
  pub by : k.last ≤ b.number
  pub floor_by : k.floor ≤ b.pruned

pub record IsBase (b : BaseRoom) : Type 0 where
  pub each : (t : ℕ) → t < length b.tables → IsTableAt b t (table_in b.tables t)
  pub entries_by : b.deltas.last ≤ b.number
  pub entries_floor : b.deltas.floor ≡ b.pruned
  pub pruned_by : b.pruned ≤ b.number
  pub counted : versions_in b.tables < 2 ^ 64

-- actions that the last state can take
pub record CanCommit (b : BaseRoom) (actions : List Action) : Type 0 where
  pub fits : IsDatabase (defs_of b) (last_state b)
  pub acts : CanAct (defs_of b) (last_state b) actions

-- what is prepared for a commit: the net change of each table, and room for all of it
pub record IsReady (b : BaseRoom) (actions : List Action) (nets : List Net) : Type 0 where
  pub can : CanCommit b actions
  pub all : length nets ≡ length b.tables
  pub each : (t : ℕ) → t < length b.tables → net_in nets t ≡ condensed (defs_of b) actions t
  pub room : (t : ℕ) → t < length b.tables → length (net_in nets t).plus ≤ (table_in b.tables t).spare
  pub entries_room : length actions ≤ b.deltas.spare
  pub counted : versions_in b.tables + brought_in nets < 2 ^ 64

-- a net change that leads from rows, in the order of their keys, to others in that order
pub record Leads (positions : List ℕ) (net : Net) (rows : List (List Value)) : Type 0 where
  pub after : List (List Value)
  pub from_up : Ascends (key_cmp positions) rows
  pub after_up : Ascends (key_cmp positions) after
  pub net_is : net ≡ net_of rows after

-- a table that can take a net change as commit m + 1
pub record CanTakeNet (m : ℕ) (net : Net) (k : Kept) : Type 0 where
  pub by : k.last ≤ m
  pub floor_by : k.floor ≤ m
  pub leads : Leads k.def.key net (shown m k.versions)
  pub few : length (shown m k.versions) ≤ 65535
  pub room : length net.plus ≤ k.spare
