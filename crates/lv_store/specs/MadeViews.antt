-- Tables and views that are about to be added.
use Rattle.std.specs.Prelude.{◌≡◌, ℕ, ◌<◌, List, [], ◌∷◌, ◌++◌, Some}
use Rattle.lv_schema.specs.declared.table.TableDef.{TableDef}
use Rattle.lv_schema.specs.declared.view.ViewDef.{ViewDef}
use Rattle.lv_viewrows.specs.Kept.{ViewKept}
use Rattle.lv_upkeep.specs.Moves.{upkeep_with_view}
use Rattle.lv_made.specs.Views.{IsMadeView, parts_at}
use Rattle.lv_store.specs.declared.creating.ReadyTable.{ReadyTable}
use Rattle.lv_store.specs.declared.creating.ReadyView.{ReadyView}
use Rattle.lv_store.specs.declared.store.Store.{Store}
use Rattle.lv_store.specs.Kept.{StoreKept, rows_of}

-- room for one more view of this name
pub record HasRoom (name : List ℕ) (p : Store) : Type 0 where
  pub named : p.schema.reserved ≡ Some name
  pub upkeep : 0 < p.upkeep.view_spare
  pub rows : 0 < p.rows.spare

-- what is kept with one view more
abbrev pub with_view : ViewDef → ViewKept → StoreKept → StoreKept
with_view def v e = record e { views = e.views ++ def ∷ []; upkeep = upkeep_with_view def.created e.upkeep; rows = e.rows ++ rows_of v ∷ [] }

-- a table with all that it needs to be added without memory
pub record IsReadyTable (def : TableDef) (p : Store) (r : ReadyTable) : Type 0 where
  pub def_is : r.def ≡ def
  pub copied_is : r.copied ≡ def
  pub named : p.schema.reserved ≡ Some def.name
  pub room : 0 < p.base.free

-- a view with all that it needs to be added without memory: it is evaluated at the last commit
pub record IsReadyView (p : Store) (r : ReadyView) : Type 0 where
  pub created : r.def.created ≡ p.base.number
  pub room : HasRoom r.def.name p
  pub made : IsMadeView r.def p.base.number (parts_at p.base p.base.number r.def.tables) r.rows
