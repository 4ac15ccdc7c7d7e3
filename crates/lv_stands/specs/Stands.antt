-- When what an engine keeps stands for a world.
use Rattle.std.specs.Prelude.{◌≡◌, ℕ, ◌≤◌, ◌<◌, List, length, Option, Some, None}
use Rattle.std.specs.List.{sum_by, AllZip}
use Rattle.lv_schema.specs.declared.open.Open.{Open}
use Rattle.lv_schema.specs.declared.view.ViewDef.{ViewDef}
use Rattle.lv_schema.specs.Commits.{Place}
use Rattle.lv_schema.specs.Databases.{rows_of}
use Rattle.lv_schema.specs.Differences.{groups_of}
use Rattle.lv_schema.specs.Keys.{at_place}
use Rattle.lv_schema.specs.Served.{IsServed}
use Rattle.lv_schema.specs.Steady.{IsSteady}
use Rattle.lv_schema.specs.Versions.{kept_versions, kept_entries}
use Rattle.lv_schema.specs.World.{Visible, World, last, snap, table_at, view_at, point}
use Rattle.lv_overlay.specs.Puts.{over}
use Rattle.lv_txn.specs.Kept.{TransactionKept}
use Rattle.lv_upkeep.specs.Stands.{UpkeepStands}
use Rattle.lv_viewrows.specs.Kept.{groups_at}
use Rattle.lv_stands.specs.Kept.{TableKept, BaseKept, ViewKept, EngineKept, table_kept, view_kept, shown, rows_shown}

-- two lists have the same elements, each as often: whatever is added up over them, the sums are one
abbrev pub HaveSame : {X : Type 0} → List X → List X → Type 0
HaveSame {X} xs ys = (f : X → ℕ) → sum_by f ys ≡ sum_by f xs

-- a table shows the rows of each state from the floor on, and keeps exactly the versions that a clean-up to it leaves
pub record TableStands (s : Visible) (pruned t : ℕ) (k : TableKept) : Type 0 where
  pub def_is : k.def ≡ table_at s.tables t
  pub by : k.last ≤ last s
  pub floor_by : k.floor ≤ pruned
  pub reads : (n : ℕ) → pruned ≤ n → n ≤ last s → shown n k.versions ≡ rows_of (snap s n) t
  pub newest : (n : ℕ) → last s ≤ n → shown n k.versions ≡ rows_of (snap s (last s)) t
  pub kept : HaveSame (kept_versions s pruned t) k.versions

pub record BaseStands (s : Visible) (pruned : ℕ) (b : BaseKept) : Type 0 where
  pub all : length b.tables ≡ length s.tables
  pub each : (t : ℕ) → t < length s.tables → TableStands s pruned t (table_kept b.tables t)
  pub entries_are : b.entries ≡ kept_entries s pruned
  pub number_is : b.number ≡ last s
  pub pruned_is : b.pruned ≡ pruned

-- a view shows its rows over the state at its point, and below it to each live snapshot those over that state; from its
-- point on its groups are those of the state there, where each row of a join view is a group of one tuple
pub record ViewStands (s : Visible) (view : ViewDef) (p : ℕ) (k : ViewKept) : Type 0 where
  pub at_is : k.at ≡ p
  pub served : IsServed s view p (λ n. rows_shown view n k)
  pub groups_are : (n : ℕ) → p ≤ n → groups_at n k.versions ≡ groups_of view (snap s p)

pub record ViewsStand (w : World) (rows : List ViewKept) : Type 0 where
  pub all : length rows ≡ length w.visible.views
  pub each : (v : ℕ) → v < length w.visible.views → ViewStands w.visible (view_at w.visible.views v) (point w.upkeep v) (view_kept rows v)

-- a transaction's writes over the state of its snapshot are its own database
pub record TransactionStands (s : Visible) (o : Open) (t : TransactionKept) : Type 0 where
  pub snapshot_is : t.snapshot ≡ o.snapshot
  pub actions_are : t.actions ≡ o.actions
  pub changes_are : t.changes ≡ o.changes
  pub own : (p : Place) → over t.puts p (at_place s.tables (snap s o.snapshot) p) ≡ at_place s.tables o.own p

abbrev pub SessionStands : Visible → Option Open → Option TransactionKept → Type 0
SessionStands s None None = Unit {0}
SessionStands s None (Some t) = ⊥
SessionStands s (Some o) None = ⊥
SessionStands s (Some o) (Some t) = TransactionStands s o t

abbrev pub SessionsStand : Visible → List (Option TransactionKept) → Type 0
SessionsStand s sessions = AllZip (SessionStands s) s.sessions sessions

pub record StandsFor (w : World) (e : EngineKept) : Type 0 where
  pub steady : IsSteady w
  pub tables_are : e.tables ≡ w.visible.tables
  pub views_are : e.views ≡ w.visible.views
  pub base_stands : BaseStands w.visible w.upkeep.pruned e.base
  pub upkeep_stands : UpkeepStands w e.upkeep
  pub views_stand : ViewsStand w e.rows
  pub sessions_stand : SessionsStand w.visible e.sessions
  pub journal_is : e.journal ≡ w.upkeep.journal
