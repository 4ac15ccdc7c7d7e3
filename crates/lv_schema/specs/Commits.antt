-- COMMIT: conflicts, and the state that a commit leaves. The first committer of a key wins.
use Rattle.std.specs.Prelude.{ℕ, ◌==◌, nat_lt, Bool, not, ◌&&◌, List, [], ◌∷◌, map, filter, length, slice_get, Option, None, option_map}
use Rattle.std.specs.List.{list_any, filter_map, range_with_len, last_or}
use Rattle.std.specs.Ordering.{nat_cmp, ordering_then}
use Rattle.std.specs.declared.cmp.Ordering.{Ordering}
use Rattle.lv_values.specs.declared.value.Value.{Value}
use Rattle.lv_values.specs.Ascending.{ascending, placed}
use Rattle.lv_values.specs.Order.{row_cmp, row_eq}
use Rattle.lv_values.specs.Rows.{values_at, key_cmp}
use Rattle.lv_schema.specs.declared.action.Action.{Action}
use Rattle.lv_schema.specs.declared.action.DeltaEntry.{DeltaEntry}
use Rattle.lv_schema.specs.declared.fault.Fault.{Fault}
use Rattle.lv_schema.specs.declared.fault.Fault.TheVariants.{Conflict, MergedFull}
use Rattle.lv_schema.specs.declared.table.TableDef.{TableDef}
use Rattle.lv_schema.specs.Databases.{Db, rows_of, row_fits}
use Rattle.lv_schema.specs.World.{Visible, Open, last, snap, commit_at, numbers, table_at}

-- a table and a key in it
abbrev pub Place : Type 0
Place = ℕ × List Value

abbrev pub place_cmp : Place → Place → Ordering
place_cmp a b = ordering_then (nat_cmp a.0 b.0) (row_cmp a.1 b.1)

abbrev pub same_place : Place → Place → Bool
same_place a b = (a.0 == b.0) && row_eq a.1 b.1

-- whether an action can be one of these tables: its table is in use, and the row fits it
abbrev pub action_fits : List TableDef → Action → Bool
action_fits tables a = nat_lt a.table (length tables) && row_fits (table_at tables a.table).columns a.row

-- the key that an action writes, and those that actions write
abbrev pub written_place : List TableDef → Action → Place
written_place tables a = (a.table, values_at (table_at tables a.table).key a.row)

abbrev pub writes : List TableDef → List Action → Place → Bool
writes tables actions at = list_any (λ a. same_place at (written_place tables a)) actions

-- the last commit above the snapshot that writes the key
abbrev pub last_writer : Visible → ℕ → Place → Option ℕ
last_writer s snapshot at = last_or None (filter (λ k. nat_lt snapshot k && writes s.tables (commit_at s.commits k) at) (numbers (last s)))

-- the first place that actions write, by table and key, for which a later writer is known, and that writer
abbrev pub first_conflict : List TableDef → (Place → Option ℕ) → List Action → Option Fault
first_conflict tables writer actions = slice_get (filter_map (λ at. option_map (Conflict at.0 at.1) (writer at)) (ascending place_cmp (map (written_place tables) actions))) 0

-- a conflict on a key that the transaction writes
abbrev pub place_conflict : Visible → Open → Place → Option Fault
place_conflict s o at = option_map (Conflict at.0 at.1) (last_writer s o.snapshot at)

-- the conflict on the first such key, by table and key
abbrev pub conflict_of : Visible → Open → Option Fault
conflict_of s o = first_conflict s.tables (last_writer s o.snapshot) o.actions

-- the same, told from the entries of the deltas: the last of them above a snapshot that writes the key
abbrev pub writes_above : List TableDef → ℕ → Place → DeltaEntry → Bool
writes_above tables snapshot at e = nat_lt snapshot e.number && same_place at (written_place tables e.action)

abbrev pub writer_in : List TableDef → List DeltaEntry → ℕ → Place → Option ℕ
writer_in tables entries snapshot at = last_or None (map (λ e. e.number) (filter (writes_above tables snapshot at) entries))

abbrev pub conflict_in : List TableDef → List DeltaEntry → ℕ → List Action → Option Fault
conflict_in tables entries snapshot actions = first_conflict tables (writer_in tables entries snapshot) actions

-- rows, and these put among them in the order of the keys
abbrev pub with_rows : List ℕ → List (List Value) → List (List Value) → List (List Value)
with_rows key [] rows = rows
with_rows key (row ∷ more) rows = with_rows key more (placed (key_cmp key) row rows)

-- a table's rows, where the keys written are as the transaction has them
abbrev pub merged_rows : List ℕ → (List Value → Bool) → List (List Value) → List (List Value) → List (List Value)
merged_rows key is_written own others = with_rows key (filter is_written own) (filter (λ row. not (is_written row)) others)

abbrev pub merged_table : Visible → Open → ℕ → List (List Value)
merged_table s o table =
    let key = (table_at s.tables table).key in
    merged_rows key (λ row. writes s.tables o.actions (table, values_at key row)) (rows_of o.own table) (rows_of (snap s (last s)) table)

-- the last state, with each key that the transaction wrote as the transaction has it
abbrev pub merged : Visible → Open → Db
merged s o = map (merged_table s o) (range_with_len 0 (length s.tables))

-- the first table that would pass 65,535 rows
abbrev pub merged_full : Visible → Open → Option Fault
merged_full s o = option_map MergedFull (slice_get (filter (λ t. nat_lt 65535 (length (rows_of (merged s o) t))) (range_with_len 0 (length s.tables))) 0)
