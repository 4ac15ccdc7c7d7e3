-- When a record can be the next of a journal.
use Rattle.std.specs.Prelude.{ℕ, ◌+◌, Bool, true, not, ◌&&◌, ◌||◌, ◌==◌, nat_eq, nat_lt, nat_le, List, [], ◌∷◌, map, length, slice_index, is_some}
use Rattle.std.specs.List.{list_all}
use Rattle.std.specs.Str.{bytes_eq}
use Rattle.lv_schema.specs.declared.action.Action.{Action}
use Rattle.lv_schema.specs.declared.rec.Rec.{Rec}
use Rattle.lv_schema.specs.declared.rec.Rec.TheVariants.{Table, View, Commit, Mark}
use Rattle.lv_schema.specs.declared.table.TableDef.{TableDef}
use Rattle.lv_schema.specs.declared.view.ViewDef.{ViewDef}
use Rattle.lv_schema.specs.Bound.{alias_columns, broken_rules, compares, first, is_in_range, is_int_column, item_name}
use Rattle.lv_schema.specs.Commits.{action_fits}
use Rattle.lv_schema.specs.Databases.{Db, rows_of}
use Rattle.lv_schema.specs.Differences.{summed_columns}
use Rattle.lv_schema.specs.Effects.{acted, acted_all}
use Rattle.lv_schema.specs.JoinViews.{plain_columns}
use Rattle.lv_schema.specs.Names.{is_free}
use Rattle.lv_schema.specs.Once.{are_apart}
use Rattle.lv_schema.specs.SoundWorld.{is_there}
use Rattle.lv_schema.specs.World.{Visible, World, empty_world, last, snap, table_at}
use Rattle.lv_replay.specs.Numbers.{number_rises}
use Rattle.lv_replay.specs.Replayed.{replayed}

-- a table: its name is free, there is room for it, and it has 1 to 16 columns and a key of them
abbrev pub table_applies : TableDef → Visible → Bool
table_applies def s =
    is_free s.tables s.views def.name
    && (nat_lt (length s.tables) 32
    && (nat_lt 0 (length def.columns)
    && (nat_le (length def.columns) 16
    && (are_apart bytes_eq (map (λ c. c.name) def.columns)
    && (nat_lt 0 (length def.key)
    && (are_apart nat_eq def.key && list_all (λ k. nat_lt k (length def.columns)) def.key))))))

-- a view: its name is free, there is room for it, it is created at the last commit, it is over 1 to 4 tables that are in
-- use and has 1 to 16 items, and its columns and kinds fit; it is grouped where it has GROUP BY columns, and breaks no rule
abbrev pub columns_fit : List TableDef → ViewDef → Bool
columns_fit tables def =
    compares (alias_columns tables def.tables) def.cond
    && (list_all (is_in_range (alias_columns tables def.tables)) (plain_columns def.items)
    && (list_all (is_int_column (alias_columns tables def.tables)) (summed_columns def) && list_all (is_in_range (alias_columns tables def.tables)) def.groups))

abbrev pub same_flag : Bool → Bool → Bool
same_flag a b = (a && b) || (not a && not b)

abbrev pub view_applies : ViewDef → Visible → Bool
view_applies def s =
    is_free s.tables s.views def.name
    && (nat_lt (length s.views) 32
    && ((def.created == last s)
    && (nat_lt 0 (length def.tables)
    && (nat_le (length def.tables) 4
    && (list_all (λ t. nat_lt t (length s.tables)) def.tables
    && (nat_lt 0 (length def.items)
    && (nat_le (length def.items) 16
    && (are_apart bytes_eq (map item_name def.items)
    && (columns_fit s.tables def
    && (same_flag def.grouped (nat_lt 0 (length def.groups)) && not (is_some (first (broken_rules s.tables def)))))))))))))

-- an action can be taken, and actions can be in their order: each row fits its table, a deleted row is there and an
-- inserted row's key is free
abbrev pub can_take : List TableDef → Db → Action → Bool
can_take tables db a = action_fits tables a && is_there (table_at tables a.table).key a.kind a.row (rows_of db a.table)

abbrev pub can_act : List TableDef → Db → List Action → Bool
can_act tables db [] = true
can_act tables db (a ∷ actions) = can_take tables db a && can_act tables (acted tables db a) actions

-- a commit: it has the next number and an action, its actions are numbered by statements, they can be taken on the last
-- state, and they leave no table with more than 65,535 rows
abbrev pub commit_applies : ℕ → List Action → Visible → Bool
commit_applies number actions s =
    (number == last s + 1)
    && (nat_lt 0 (length actions)
    && (number_rises 1 actions
    && (can_act s.tables (snap s (last s)) actions && list_all (λ rows. nat_le (length rows) 65535) (acted_all s.tables (snap s (last s)) actions))))

-- a mark: its view is in use, and it is above the view's mark and at most the last commit
abbrev pub mark_applies : ℕ → ℕ → World → Bool
mark_applies view upto w = nat_lt view (length w.visible.views) && (nat_lt (slice_index w.upkeep.marks view) upto && nat_le upto (last w.visible))

abbrev pub applies : Rec → World → Bool
applies (Table def) w = table_applies def w.visible
applies (View def) w = view_applies def w.visible
applies (Commit number actions) w = commit_applies number actions w.visible
applies (Mark view upto) w = mark_applies view upto w

-- each record applies to what those before it make
abbrev pub all_apply_to : World → List Rec → Bool
all_apply_to w [] = true
all_apply_to w (rec ∷ recs) = applies rec w && all_apply_to (replayed rec w) recs

abbrev pub all_apply : List Rec → Bool
all_apply recs = all_apply_to empty_world recs
