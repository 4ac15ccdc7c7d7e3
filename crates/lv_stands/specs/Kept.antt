-- What an engine keeps, as its contracts see it: plain values, without the room that is held ready for more.
use Rattle.std.specs.Prelude.{ℕ, List, [], map, filter, slice_index_or, Option}
use Rattle.lv_values.specs.declared.value.Value.{Value}
use Rattle.lv_schema.specs.declared.action.DeltaEntry.{DeltaEntry}
use Rattle.lv_schema.specs.declared.table.TableDef.{TableDef}
use Rattle.lv_schema.specs.declared.view.ViewDef.{ViewDef}
use Rattle.lv_schema.specs.declared.version.RowVersion.{RowVersion}
use Rattle.lv_schema.specs.Versions.{is_at}
use Rattle.lv_schema.specs.World.{no_table}
use Rattle.lv_txn.specs.Kept.{TransactionKept}
use Rattle.lv_upkeep.specs.Kept.{UpkeepKept}
use Rattle.lv_viewrows.specs.declared.version.GroupVersion.{GroupVersion}
use Rattle.lv_viewrows.specs.Kept.{groups_at, rows_listed}

-- a table: the versions of its rows, in the order of their keys and then of their commits; the last commit that was
-- put into them; and the floor of their last clean-up
pub record TableKept : Type 0 where
  pub def : TableDef
  pub versions : List RowVersion
  pub last : ℕ
  pub floor : ℕ

abbrev pub no_table_kept : TableKept
no_table_kept = record { def = no_table; versions = []; last = 0; floor = 0 }

-- the committed states: each table, the entries of the commits, the number of the last one, and the floor of the last
-- clean-up
pub record BaseKept : Type 0 where
  pub tables : List TableKept
  pub entries : List DeltaEntry
  pub number : ℕ
  pub pruned : ℕ

-- a view's rows: the commit to which they are maintained, and the versions of its rows or groups, in the order of
-- their values and then of their commits
pub record ViewKept : Type 0 where
  pub at : ℕ
  pub versions : List GroupVersion

abbrev pub no_view_kept : ViewKept
no_view_kept = record { at = 0; versions = [] }

pub record EngineKept : Type 0 where
  pub tables : List TableDef
  pub views : List ViewDef
  pub base : BaseKept
  pub upkeep : UpkeepKept
  pub rows : List ViewKept
  pub sessions : List (Option TransactionKept)
  pub journal : ℕ

-- the table and the view with this number
abbrev pub table_kept : List TableKept → ℕ → TableKept
table_kept tables t = slice_index_or tables t no_table_kept

abbrev pub view_kept : List ViewKept → ℕ → ViewKept
view_kept rows v = slice_index_or rows v no_view_kept

-- the rows that versions show at commit n, in the order of the versions
abbrev pub shown : ℕ → List RowVersion → List (List Value)
shown n versions = map (λ v. v.row) (filter (is_at n) versions)

-- the rows that a view shows at commit n
abbrev pub rows_shown : ViewDef → ℕ → ViewKept → List (List Value)
rows_shown view n k = rows_listed view (groups_at n k.versions)
