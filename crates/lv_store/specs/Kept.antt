-- What an engine keeps, as its contracts see it, and the worlds that it stands for.
use Rattle.std.specs.Prelude.{◌≡◌, ℕ, ◌<◌, nat_lt, Bool, true, List, [], map, length, slice_index_or, Option}
use Rattle.std.specs.List.{list_all}
use Rattle.lv_schema.specs.declared.table.TableDef.{TableDef}
use Rattle.lv_schema.specs.declared.view.ViewDef.{ViewDef}
use Rattle.lv_schema.specs.World.{World, table_at, view_at, no_view}
use Rattle.lv_overlay.specs.declared.put.Put.{Put}
use Rattle.lv_overlay.specs.Puts.{StandUnder}
use Rattle.lv_txn.specs.Kept.{TransactionKept, transaction_of}
use Rattle.lv_upkeep.specs.Kept.{UpkeepKept}
use Rattle.lv_viewrows.specs.Kept as viewrows
use Rattle.lv_stands.specs.Kept.{BaseKept, ViewKept, EngineKept}
use Rattle.lv_stands.specs.Stands.{StandsFor}
use Rattle.lv_base.specs.Bases.{base_of}
use Rattle.lv_store.specs.declared.store.Store.{Store}
use Rattle.lv_store.specs.declared.settings.Settings.{Settings}

-- the settings; the tables and views; the committed states; the upkeep of the views; the rows of each view; and the
-- transaction of each session, if it is live
pub record StoreKept : Type 0 where
  pub settings : Settings
  pub tables : List TableDef
  pub views : List ViewDef
  pub base : BaseKept
  pub upkeep : UpkeepKept
  pub rows : List ViewKept
  pub sessions : List (Option TransactionKept)

-- as the laws see it. No journal is kept yet, so its length is told
abbrev pub kept : ℕ → StoreKept → EngineKept
kept journal e = record {
  tables = e.tables;
  views = e.views;
  base = e.base;
  upkeep = e.upkeep;
  rows = e.rows;
  sessions = e.sessions;
  journal = journal;
}

-- an engine stands for a world: whatever the length of that world's journal
abbrev pub Stands : World → StoreKept → Type 0
Stands w e = StandsFor w (kept w.upkeep.journal e)

-- ---- what is kept in the parts, without the room for more
abbrev pub rows_of : viewrows.ViewKept → ViewKept
rows_of v = record { at = v.at; versions = v.versions }

abbrev pub store_of : Store → StoreKept
store_of p = record {
  settings = p.settings;
  tables = p.schema.tables;
  views = p.schema.views;
  base = base_of p.base;
  upkeep = p.upkeep.kept;
  rows = map rows_of p.rows.list;
  sessions = p.txns;
}

-- the rows of the view with this number
abbrev pub no_rows : viewrows.ViewKept
no_rows = record { def = no_view; at = 0; versions = []; spare = 0 }

abbrev pub rows_in : List viewrows.ViewKept → ℕ → viewrows.ViewKept
rows_in rows v = slice_index_or rows v no_rows

-- whether a write is on a table that is in use
abbrev pub is_used : List TableDef → Put → Bool
is_used tables q = nat_lt q.table (length tables)

-- what holds of the parts between calls: they stand for a world, the rows of each view know the view, and a transaction
-- has put rows into tables that are in use, under their keys
pub record IsStore (p : Store) : Type 0 where
  pub combines : 0 < p.settings.combine
  pub world : World
  pub stands : Stands world (store_of p)
  pub defs : (v : ℕ) → v < length p.rows.list → (rows_in p.rows.list v).def ≡ view_at p.schema.views v
  pub under : (session t : ℕ) → StandUnder (table_at p.schema.tables t).key t (transaction_of p.txns session).puts
  pub used : (session : ℕ) → list_all (is_used p.schema.tables) (transaction_of p.txns session).puts ≡ true
