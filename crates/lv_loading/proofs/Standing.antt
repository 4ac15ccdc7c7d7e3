-- What is kept stands for a world with the rows of its views, each over the state at its point.
use Rattle.std.proofs.Common.{◌≡◌, ℕ, zero, suc, ◌+◌, ◌<◌, ◌≤◌, Bool, true, false, List, map, length, Option, None, refl, sym, ap, ◌∙◌, subst, arith}
use Rattle.std.specs.Prelude.{if◌then◌else◌, replicate}
use Rattle.std.specs.List.{AllZip, range_with_len}
use Rattle.std.proofs.lemmas.List.{length-map}
use Rattle.std.proofs.lemmas.List.FromFn.{get_or-map-range_with_len}
use Rattle.lv_values.specs.Ascending.{ascending}
use Rattle.lv_values.specs.Order.{row_cmp}
use Rattle.lv_schema.specs.declared.open.Open.{Open}
use Rattle.lv_schema.specs.declared.view.ViewDef.{ViewDef}
use Rattle.lv_schema.specs.Databases.{Db}
use Rattle.lv_schema.specs.Differences.{groups_of}
use Rattle.lv_schema.specs.Greatest.{IsLive}
use Rattle.lv_schema.specs.Groups.{view_rows}
use Rattle.lv_schema.specs.Steady.{IsSteady}
use Rattle.lv_schema.specs.World.{World, last, point, snap, view_at}
use Rattle.lv_schema.proofs.FirstCommitter.{range_long}
use Rattle.lv_replay.specs.Runs.{IsStopped}
use Rattle.lv_tasks.specs.Kept.{IsLater, actions_in, tasks_kept}
use Rattle.lv_txn.specs.Kept.{TransactionKept}
use Rattle.lv_viewrows.specs.Kept.{groups_at, one_row, rows_listed, version_from}
use Rattle.lv_viewrows.proofs.Installing.{first_groups}
use Rattle.lv_viewrows.proofs.RowsOfJoins.{versions_of_ones}
use Rattle.lv_stands.specs.Kept.{EngineKept, ViewKept, no_view_kept, view_kept}
use Rattle.lv_stands.specs.Moves.{versions_made, view_made_kept}
use Rattle.lv_stands.specs.Stands.{BaseStands, SessionStands, SessionsStand, StandsFor, ViewStands, ViewsStand}
use Rattle.lv_stands.proofs.Statements.{point_within}
use Rattle.lv_stands.proofs.TaskTurns.{pending_kept}
use Rattle.lv_stands.proofs.ViewGroups.{groups_list_rows, ones_are_groups, rows_stay_sorted}
use Rattle.lv_loading.specs.Loads.{LoadingKept, LoadingStands}

-- the rows of a view over the state at its point
abbrev pub made_at : World → ℕ → ViewKept
made_at w v =
    let view = view_at w.visible.views v in
    let db = snap w.visible (point w.upkeep v) in
    view_made_kept view (point w.upkeep v) (view_rows view db) (groups_of view db)

module _ (w : World) (steady : IsSteady w) (stopped : IsStopped w) where
  nobody : (k : ℕ) → IsLive w.visible k → ⊥
  nobody k l = subst (λ (x : World). IsLive x.visible k) (sym stopped) l

  module _ (v : ℕ) (lt : v < length w.visible.views) where
    abbrev view : ViewDef
    view = view_at w.visible.views v

    abbrev db : Db
    db = snap w.visible (point w.upkeep v)

    within : point w.upkeep v ≤ last w.visible
    within = point_within w v steady lt

    groups_then : (n : ℕ) → groups_at n (versions_made view (view_rows view db) (groups_of view db)) ≡ groups_of view db
    groups_then n = by view.grouped refl
      where
        by : (b : Bool) → (view_at w.visible.views v).grouped ≡ b
            → groups_at n (versions_made (view_at w.visible.views v) (view_rows (view_at w.visible.views v) (snap w.visible (point w.upkeep v))) (groups_of (view_at w.visible.views v) (snap w.visible (point w.upkeep v))))
            ≡ groups_of (view_at w.visible.views v) (snap w.visible (point w.upkeep v))
        by true g =
            (λ i. groups_at n (if g i then map (version_from 0) (groups_of view db) else map (λ row. version_from 0 (one_row row)) (ascending row_cmp (view_rows view db))))
            ∙ first_groups n (groups_of view db)
        by false g =
            (λ i. groups_at n (if g i then map (version_from 0) (groups_of view db) else map (λ row. version_from 0 (one_row row)) (ascending row_cmp (view_rows view db))))
            ∙ ap (groups_at n) (sym (versions_of_ones (ascending row_cmp (view_rows view db))))
            ∙ first_groups n (map one_row (ascending row_cmp (view_rows view db)))
            ∙ ap (map one_row) (rows_stay_sorted w.visible steady.sound v lt (point w.upkeep v) within)
            ∙ sym (ones_are_groups w.visible steady.sound v lt (point w.upkeep v) within g)

    pub made_stands : ViewStands w.visible (view_at w.visible.views v) (point w.upkeep v) (made_at w v)
    made_stands = record {
      at_is = refl;
      served = record {
        now = λ k le. ap (rows_listed view) (groups_then k) ∙ groups_list_rows w.visible steady.sound v lt (point w.upkeep v) within;
        before = λ k l less. absurd (nobody k l);
      };
      groups_are = λ k le. groups_then k;
    }

  pub views_made : (rows : List ViewKept) → length rows ≡ length w.visible.views → ((v : ℕ) → v < length w.visible.views → view_kept rows v ≡ made_at w v) → ViewsStand w rows
  views_made rows all each = record {
    all = all;
    each = λ v lt. subst (ViewStands w.visible (view_at w.visible.views v) (point w.upkeep v)) (sym (each v lt)) (made_stands v lt);
  }

  none_stand : (n : ℕ) → AllZip (SessionStands w.visible) (replicate {A = Option Open} n None) (replicate {A = Option TransactionKept} n None)
  none_stand zero = tt
  none_stand (suc n) = (tt, none_stand n)

  sessions_then : SessionsStand w.visible (replicate 17 None)
  sessions_then = subst (λ (x : World). AllZip (SessionStands w.visible) x.visible.sessions (replicate 17 None)) stopped (none_stand 17)

-- as the laws see it
abbrev pub engine_with : World → LoadingKept → List ViewKept → EngineKept
engine_with w k rows = record { tables = k.tables; views = k.views; base = k.base; upkeep = k.upkeep; rows = rows; sessions = replicate 17 None; journal = w.upkeep.journal }

pub stands_with : (w : World) (k : LoadingKept) (rows : List ViewKept) → LoadingStands w k → length rows ≡ length w.visible.views → ((v : ℕ) → v < length w.visible.views → view_kept rows v ≡ made_at w v)
    → StandsFor w (engine_with w k rows)
stands_with w k rows is all each = record {
  steady = is.steady;
  tables_are = is.tables_are;
  views_are = is.views_are;
  base_stands = subst (λ (x : World). BaseStands w.visible x.upkeep.pruned k.base) is.stopped is.base_stands;
  upkeep_stands = is.upkeep_stands;
  views_stand = views_made w is.steady is.stopped rows all each;
  sessions_stand = sessions_then w is.steady is.stopped;
  journal_is = refl;
}

-- so the next commit is later than each pending task, whose actions are among the entries
pub pending_told : (w : World) (k : LoadingKept) (v : ℕ) → LoadingStands w k → IsLater (k.base.number + 1) (tasks_kept k.upkeep.tasks v) × (actions_in (tasks_kept k.upkeep.tasks v) ≤ length k.base.entries)
pending_told w k v is = pending_kept w (engine_with w k rows) v (stands_with w k rows is long there)
  where
    rows : List ViewKept
    rows = map (made_at w) (range_with_len 0 (length w.visible.views))

    long : length rows ≡ length w.visible.views
    long = length-map (range_with_len 0 (length w.visible.views)) (made_at w) ∙ range_long (length w.visible.views) 0

    there : (u : ℕ) → u < length w.visible.views → view_kept rows u ≡ made_at w u
    there u lt = get_or-map-range_with_len (made_at w) 0 (length w.visible.views) u u no_view_kept lt (let e : 0 + u ≡ u = omega arith in e)
