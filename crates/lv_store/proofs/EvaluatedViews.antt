-- A view that is bound, over the last state of parts that stand for a world.
use Rattle.std.proofs.Common.{◌≡◌, ℕ, ◌≤◌, true, nat_lt, List, length, sym, ◌∙◌, subst, arith}
use Rattle.std.specs.List.{AllByRecursion, list_all}
use Rattle.std.proofs.Math.Path.{subst₂}
use Rattle.lv_values.specs.declared.value.Value.{Value}
use Rattle.lv_values.specs.Order.{row_cmp}
use Rattle.lv_schema.specs.declared.table.TableDef.{TableDef}
use Rattle.lv_schema.specs.declared.view.ViewDef.{ViewDef}
use Rattle.lv_schema.specs.Applicable.{AreNetted}
use Rattle.lv_schema.specs.Bound.{IsBoundView, IsProfile}
use Rattle.lv_schema.specs.Databases.{Db, IsDatabase}
use Rattle.lv_schema.specs.Differences.{groups_of, groups_over, summed_columns}
use Rattle.lv_schema.specs.Groups.{view_rows, view_rows_over}
use Rattle.lv_schema.specs.JoinViews.{parts_of}
use Rattle.lv_schema.specs.Once.{Ascends}
use Rattle.lv_schema.specs.SoundWorld.{IsSound}
use Rattle.lv_schema.specs.World.{Visible, World, last, snap}
use Rattle.lv_schema.proofs.SteadyWorlds.{floor_last}
use Rattle.lv_group.specs.Gathered.{has_tuples}
use Rattle.lv_made.specs.Views.{parts_at}
use Rattle.lv_made.proofs.Shown.{parts_shown}
use Rattle.lv_store.specs.declared.store.Store.{Store}
use Rattle.lv_store.specs.Kept.{Stands, store_of}

abbrev DistinctRows : Type 0
DistinctRows = (tables : List TableDef) (view : ViewDef) (db : Db) → IsDatabase tables db → list_all (λ t. nat_lt t (length tables)) view.tables ≡ true → IsProfile tables view → Ascends row_cmp (view_rows view db)

abbrev GroupsKept : Type 0
GroupsKept = (s : Visible) (def : ViewDef) (k : ℕ) → IsSound s → IsBoundView s.tables s.views def → k ≤ last s → AreNetted (length (summed_columns def)) (groups_of def (snap s k)) × AllByRecursion (λ g. has_tuples g ≡ true) (groups_of def (snap s k))

module _ (p : Store) (def : ViewDef) (bound : IsBoundView p.schema.tables p.schema.views def) (w : World) (is : Stands w (store_of p)) where
  pub bound_there : IsBoundView w.visible.tables w.visible.views def
  bound_there = subst₂ (λ (ts : List TableDef) (vs : List ViewDef). IsBoundView ts vs def) is.tables_are is.views_are bound

  pub parts_are : parts_at p.base p.base.number def.tables ≡ parts_of def.tables (snap w.visible (last w.visible))
  parts_are =
      (λ i. parts_at p.base (is.base_stands.number_is i) def.tables)
      ∙ parts_shown w.visible w.upkeep.pruned p.base is.base_stands (last w.visible) (omega (arith, is.steady.pruned, floor_last w)) (omega arith) def.tables bound_there.in_use

  pub made_distinct : DistinctRows → Ascends row_cmp (view_rows_over def (parts_at p.base p.base.number def.tables))
  made_distinct distinct =
      subst (λ (parts : List (List (List Value))). Ascends row_cmp (view_rows_over def parts)) (sym parts_are)
      (distinct w.visible.tables def (snap w.visible (last w.visible)) (is.steady.sound.fits (last w.visible) (omega arith)) bound_there.in_use bound_there.profile)

  pub made_groups : GroupsKept → AreNetted (length (summed_columns def)) (groups_over def (parts_at p.base p.base.number def.tables)) × AllByRecursion (λ g. has_tuples g ≡ true) (groups_over def (parts_at p.base p.base.number def.tables))
  made_groups kept =
      subst (λ (parts : List (List (List Value))). AreNetted (length (summed_columns def)) (groups_over def parts) × AllByRecursion (λ g. has_tuples g ≡ true) (groups_over def parts)) (sym parts_are)
      (kept w.visible def (last w.visible) is.steady.sound bound_there (omega arith))
