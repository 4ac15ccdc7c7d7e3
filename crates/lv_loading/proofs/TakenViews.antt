-- The record of a view is taken.
use Rattle.std.proofs.Common.{◌≡◌, ℕ, ◌+◌, ◌<◌, ◌≤◌, Bool, true, not, ◌&&◌, nat_lt, nat_le, List, [], ◌∷◌, ◌++◌, map, length, get_or, refl, sym, ap, ◌∙◌, subst, arith}
use Rattle.std.specs.Prelude.{◌⊎◌, ◌==◌, is_some}
use Rattle.std.specs.List.{list_all}
use Rattle.std.specs.Str.{bytes_eq}
use Rattle.std.proofs.lemmas.List.{length_push, get_or_append_left, get_or_push}
use mathlib.Core.Logic.{inl, inr}
use Rattle.lv_schema.specs.declared.rec.Rec.TheVariants.{View}
use Rattle.lv_schema.specs.declared.view.ViewDef.{ViewDef}
use Rattle.lv_schema.specs.declared.table.TableDef.{TableDef}
use Rattle.lv_schema.specs.Bound.{IsBoundView, broken_rules, first, item_name}
use Rattle.lv_schema.specs.Names.{is_free}
use Rattle.lv_schema.specs.Once.{are_apart}
use Rattle.lv_schema.specs.Tasks.{pending}
use Rattle.lv_schema.specs.World.{Visible, World, last, no_view, point, view_at}
use Rattle.lv_schema.proofs.Numbers.{Each}
use Rattle.lv_schema.proofs.PendingTasks.{Pends, pending_each}
use Rattle.lv_record.specs.Kept.{IsKeptView}
use Rattle.lv_replay.specs.Applies.{columns_fit, same_flag, view_applies}
use Rattle.lv_replay.specs.Replayed.{replayed}
use Rattle.lv_replay.proofs.Applied.{applied_created, applied_view}
use Rattle.lv_replay.proofs.Replays.{replayed_steady, replayed_stopped}
use Rattle.lv_upkeep.specs.Moves.{upkeep_with_view}
use Rattle.lv_upkeep.specs.Stands.{UpkeepStands, task_of}
use Rattle.lv_stands.proofs.Statements.{same_base}
use Rattle.lv_loading.specs.Loads.{LoadingKept, LoadingStands}
use Rattle.lv_loading.specs.Taking.{with_view}

none_pends : (s : Visible) (view : ViewDef) (lo m : ℕ) → last s ≤ lo → m ≤ last s → pending s view lo m ≡ []
none_pends s view lo m le upto = by (pending s view lo m) (pending_each s view lo m)
  where
    by : (ts : List ℕ) → Each (Pends s view lo m) ts → ts ≡ []
    by [] each = refl
    by (t ∷ ts) each = let a = each.0.above in let b = each.0.within in absurd (omega arith)

which : (v n : ℕ) → v < n + 1 → (v < n) ⊎ (v ≡ n)
which v n h = grind arith

-- whether a view can be the next, told from the tables, the views and the last commit
abbrev pub view_told_by : List TableDef → List ViewDef → ℕ → ViewDef → Bool
view_told_by tables views number def =
    is_free tables views def.name
    && (nat_lt (length views) 32
    && ((def.created == number)
    && (nat_lt 0 (length def.tables)
    && (nat_le (length def.tables) 4
    && (list_all (λ t. nat_lt t (length tables)) def.tables
    && (nat_lt 0 (length def.items)
    && (nat_le (length def.items) 16
    && (are_apart bytes_eq (map item_name def.items)
    && (columns_fit tables def
    && (same_flag def.grouped (nat_lt 0 (length def.groups)) && not (is_some (first (broken_rules tables def)))))))))))))

module _ (k : LoadingKept) (def : ViewDef) (w : World) (is : LoadingStands w k) where
  pub view_told : (number : ℕ) → number ≡ k.base.number → view_told_by k.tables k.views number def ≡ view_applies def w.visible
  view_told number e = let at = e ∙ is.base_stands.number_is in λ i. view_told_by (is.tables_are i) (is.views_are i) (at i) def

  module _ (kept : IsKeptView def) (applied : view_applies def w.visible ≡ true) where
    abbrev made : ViewDef
    made = record def { no = length w.visible.views }

    abbrev then : World
    then = replayed (View def) w

    pub bound_there : IsBoundView k.tables k.views (record def { no = length k.views })
    bound_there =
        subst (λ (vs : List ViewDef). IsBoundView k.tables vs (record def { no = length vs })) (sym is.views_are)
        (subst (λ (ts : List TableDef). IsBoundView ts w.visible.views (record def { no = length w.visible.views })) (sym is.tables_are) (applied_view w.visible def kept applied))

    created : def.created ≡ last w.visible
    created = applied_created w.visible def applied

    view_old : (v : ℕ) → v < length w.visible.views → view_at then.visible.views v ≡ view_at w.visible.views v
    view_old v lt = get_or_append_left w.visible.views (made ∷ []) no_view v lt

    point_old : (v : ℕ) → v < length w.visible.views → point then.upkeep v ≡ point w.upkeep v
    point_old v lt = get_or_append_left w.upkeep.points (def.created ∷ []) 0 v (omega (arith, lt, is.steady.points))

    point_new : point then.upkeep (length w.visible.views) ≡ def.created
    point_new = get_or_push w.upkeep.points def.created 0 (length w.visible.views) is.steady.points

    each_then : (v : ℕ) → (v < length w.visible.views) ⊎ (v ≡ length w.visible.views) → get_or (k.upkeep.tasks ++ [] ∷ []) v []
        ≡ map (task_of then.visible (view_at then.visible.views v)) (pending then.visible (view_at then.visible.views v) (point then.upkeep v) (last then.visible))
    each_then v (inl lt) =
        get_or_append_left k.upkeep.tasks ([] ∷ []) [] v (omega (arith, lt, is.upkeep_stands.all))
        ∙ is.upkeep_stands.each v lt
        ∙ (λ i. map (task_of then.visible (sym (view_old v lt) i)) (pending then.visible (sym (view_old v lt) i) (sym (point_old v lt) i) (last w.visible)))
    each_then v (inr h) =
        get_or_push k.upkeep.tasks [] [] v (omega (arith, h, is.upkeep_stands.all))
        ∙ ap (map (task_of then.visible (view_at then.visible.views v)))
        (sym (none_pends then.visible (view_at then.visible.views v) (point then.upkeep v) (last then.visible) (omega (arith, ap (point then.upkeep) h, point_new, created)) (omega arith)))

    upkeep_then : UpkeepStands then (upkeep_with_view def.created k.upkeep)
    upkeep_then = record {
      points_are = ap (λ ps. ps ++ def.created ∷ []) is.upkeep_stands.points_are;
      marks_are = ap (λ ps. ps ++ def.created ∷ []) is.upkeep_stands.marks_are;
      claims_are = is.upkeep_stands.claims_are;
      all = length_push k.upkeep.tasks [] ∙ ap (λ n. n + 1) is.upkeep_stands.all ∙ sym (length_push w.visible.views made);
      each = λ v lt. each_then v (which v (length w.visible.views) (omega (arith, lt, length_push w.visible.views made)));
    }

    pub view_taken : LoadingStands (replayed (View def) w) (with_view (record def { no = length k.views }) k)
    view_taken = record {
      steady = replayed_steady (View def) w is.steady is.stopped kept applied;
      stopped = replayed_stopped (View def) w is.stopped;
      tables_are = is.tables_are;
      views_are = λ i. is.views_are i ++ record def { no = length (is.views_are i) } ∷ [];
      base_stands = same_base w.visible then.visible 0 k.base refl refl refl refl is.base_stands;
      upkeep_stands = upkeep_then;
    }

pub points_few : (k : LoadingKept) (w : World) → LoadingStands w k → length k.views < 32 → length k.upkeep.points < 32
points_few k w is few = omega (arith, few, ap length is.upkeep_stands.points_are, is.steady.points, ap length is.views_are)
