-- What holds of the parts where they stand for a world.
use Rattle.std.proofs.Common.{◌≡◌, ℕ, ◌<◌, ◌≤◌, true, List, map, length, Option, Some, None, sym, ap, ◌∙◌, subst, arith}
use Rattle.std.specs.Prelude.{nat_lt, slice_index_or, unwrap_or, option_map}
use Rattle.std.specs.List.{list_all}
use Rattle.std.proofs.lemmas.List.{length-map}
use Rattle.std.proofs.Math.ListN.{get_or-map}
use Rattle.lv_schema.specs.declared.open.Open.{Open}
use Rattle.lv_schema.specs.declared.view.ViewDef.{ViewDef}
use Rattle.lv_schema.specs.Databases.{rows_of}
use Rattle.lv_schema.specs.Groups.{view_rows, view_rows_over}
use Rattle.lv_schema.specs.Bound.{has_col}
use Rattle.lv_schema.specs.JoinViews.{plain_columns, selected}
use Rattle.lv_schema.specs.Sound.{IsSchema}
use Rattle.lv_schema.specs.World.{World, last, opened, table_at, view_at, transaction}
use Rattle.lv_schema.proofs.Profiles.{group_list}
use Rattle.lv_schema.proofs.SoundSteps.{transaction_live}
use Rattle.lv_schema.proofs.SteadyWorlds.{floor_last}
use Rattle.lv_group.specs.Gathered.{AreInts}
use Rattle.lv_overlay.specs.Puts.{AreOwnRows, StandUnder}
use Rattle.lv_overlay.proofs.OwnRows.{own_rows}
use Rattle.lv_txn.specs.Kept.{IsLive, TransactionKept, transaction_at, transaction_of}
use Rattle.lv_stands.specs.Kept.{TableKept, shown, table_kept}
use Rattle.lv_stands.specs.Stands.{SessionStands, TransactionStands}
use Rattle.lv_stands.proofs.Changes.{own_rows_are, snapshot_kept}
use Rattle.lv_stands.proofs.Ints.{tuples_over_are_ints}
use Rattle.lv_stands.proofs.Lists.{zip_get}
use Rattle.lv_stands.proofs.Statements as statements
use Rattle.lv_base.specs.Bases.{kept_of, no_versions, table_in}
use Rattle.lv_made.proofs.Shown.{map_below}
use Rattle.lv_store.specs.declared.store.Store.{Store}
use Rattle.lv_store.specs.Querying.{own_rows_in, snapshot_in}
use Rattle.lv_store.specs.Kept.{Stands, kept, store_of}
use Rattle.lv_store.proofs.Standing.{live_at}

module _ (p : Store) (w : World) (is : Stands w (store_of p)) where
  pub rows_long : length p.rows.list ≡ length p.schema.views
  rows_long = sym (length-map p.rows.list _) ∙ is.views_stand.all ∙ ap length (sym is.views_are)

  pub points_long : length p.upkeep.kept.points ≡ length p.schema.views
  points_long = ap length is.upkeep_stands.points_are ∙ is.steady.points ∙ ap length (sym is.views_are)

  kept_at : (t : ℕ) → table_kept (map kept_of p.base.tables) t ≡ kept_of (table_in p.base.tables t)
  kept_at t = get_or-map kept_of p.base.tables t no_versions

  pub schema_sound : IsSchema p.schema.tables p.schema.views
  schema_sound = subst (λ ts. IsSchema ts p.schema.views) (sym is.tables_are) (subst (IsSchema w.visible.tables) (sym is.views_are) is.steady.sound.schema)

  tables_in_use : (v : ℕ) → v < length p.schema.views → list_all (λ t. nat_lt t (length p.schema.tables)) (view_at p.schema.views v).tables ≡ true
  tables_in_use v lt = (schema_sound.each_view v lt).in_use

  -- a grouped view groups by each column that it lists
  pub view_listed : (v : ℕ) → v < length p.schema.views → (view_at p.schema.views v).grouped ≡ true → list_all (λ col. has_col col (view_at p.schema.views v).groups) (plain_columns (view_at p.schema.views v).items) ≡ true
  view_listed v lt g = (group_list p.schema.tables (view_at p.schema.views v) (schema_sound.each_view v lt).profile g).listed_grouped

  pruned_last : w.upkeep.pruned ≤ last w.visible
  pruned_last = omega (arith, is.steady.pruned, floor_last w)

  -- the snapshot that a session reads
  pub snapshot_is : (session : ℕ) → snapshot_in p session ≡ (transaction session w.visible).snapshot
  snapshot_is session =
      by (slice_index_or w.visible.sessions session None) (transaction_at p.txns session) (zip_get (SessionStands w.visible) w.visible.sessions p.txns session None None tt is.sessions_stand)
    where
      by : (o : Option Open) (k : Option TransactionKept) → SessionStands w.visible o k → unwrap_or (option_map (λ (t : TransactionKept). t.snapshot) k) p.base.number ≡ (unwrap_or o (opened w.visible)).snapshot
      by None None h = is.base_stands.number_is
      by None (Some k) h = absurd h
      by (Some o) None h = absurd h
      by (Some o) (Some k) h = h.snapshot_is

  pub snapshot_below : (session : ℕ) → (w.upkeep.pruned ≤ (transaction session w.visible).snapshot) × ((transaction session w.visible).snapshot ≤ last w.visible)
  snapshot_below session = snapshot_kept w session is.steady pruned_last

  module _ (session : ℕ) (live : IsLive p.txns session) where
    at_session : transaction_at p.txns session ≡ Some (transaction_of p.txns session)
    at_session = live_at p.txns session live

    pub transaction_stands : TransactionStands w.visible (transaction session w.visible) (transaction_of p.txns session)
    transaction_stands = statements.transaction_of w.visible p.txns session (transaction_of p.txns session) is.sessions_stand at_session

    pub snapshot_within : p.base.pruned ≤ (transaction_of p.txns session).snapshot
    snapshot_within = omega (arith, is.base_stands.pruned_is, transaction_stands.snapshot_is, (snapshot_below session).0)

    module _ (under : (t : ℕ) → StandUnder (table_at p.schema.tables t).key t (transaction_of p.txns session).puts) where
      -- a table's rows with the writes over them are those of the transaction's own database
      pub own_is : (t : ℕ) → t < length p.schema.tables → own_rows_in p session t ≡ rows_of (transaction session w.visible).own t
      own_is t lt =
          own_rows_are w (kept w.upkeep.journal (store_of p)) session t (transaction_of p.txns session) (own_rows_in p session t) is at_session lt pruned_last
          (subst (λ (k : TableKept). AreOwnRows (table_at p.schema.tables t).key (transaction_of p.txns session).puts t (shown (transaction_of p.txns session).snapshot k.versions) (own_rows_in p session t)) (sym (kept_at t))
          (own_rows (table_at p.schema.tables t).key t (transaction_of p.txns session).puts (shown (transaction_of p.txns session).snapshot (table_in p.base.tables t).versions) (under t)))

      own_parts_are : (ts : List ℕ) → list_all (λ t. nat_lt t (length p.schema.tables)) ts ≡ true → map (own_rows_in p session) ts ≡ map (rows_of (transaction session w.visible).own) ts
      own_parts_are ts e = map_below (own_rows_in p session) (rows_of (transaction session w.visible).own) (length p.schema.tables) own_is ts e

      -- the numbers that a view sums over these rows have 64 bits
      pub own_ints : (v : ℕ) → v < length p.schema.views → AreInts (view_at p.schema.views v) (selected (view_at p.schema.views v).cond (map (own_rows_in p session) (view_at p.schema.views v).tables))
      own_ints v lt =
          let there : v < length w.visible.views = subst (λ vs. v < length vs) is.views_are lt in
          subst (λ parts. AreInts (view_at p.schema.views v) (selected (view_at p.schema.views v).cond parts)) (sym (own_parts_are (view_at p.schema.views v).tables (tables_in_use v lt)))
          (subst (λ (vs : List ViewDef). AreInts (view_at vs v) (selected (view_at vs v).cond (map (rows_of (transaction session w.visible).own) (view_at vs v).tables))) (sym is.views_are)
          (tuples_over_are_ints w.visible is.steady.sound (transaction session w.visible).own (transaction_live w.visible session is.steady.sound).fits v there))

      pub own_view_is : (v : ℕ) → v < length p.schema.views → view_rows_over (view_at p.schema.views v) (map (own_rows_in p session) (view_at p.schema.views v).tables) ≡ view_rows (view_at w.visible.views v) (transaction session w.visible).own
      own_view_is v lt =
          ap (view_rows_over (view_at p.schema.views v)) (own_parts_are (view_at p.schema.views v).tables (tables_in_use v lt))
          ∙ ap (λ (vs : List ViewDef). view_rows (view_at vs v) (transaction session w.visible).own) is.views_are
