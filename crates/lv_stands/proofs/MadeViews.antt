-- CREATE VIEW, and a mark.
use Rattle.std.proofs.Common.{◌≡◌, ℕ, ◌+◌, ◌<◌, ◌≤◌, Bool, true, false, List, [], ◌∷◌, ◌++◌, map, length, get_or, Some, refl, sym, ap, ◌∙◌, subst, arith}
use Rattle.std.specs.Prelude.{◌⊎◌, ◌==◌, if◌then◌else◌, slice_index, slice_set, Ok}
use Rattle.std.proofs.lemmas.List.{length_push, get_or_append_left, get_or_push}
use mathlib.Core.Logic.{inl, inr}
use Rattle.lv_values.specs.declared.value.Value.{Value}
use Rattle.lv_values.specs.Ascending.{ascending}
use Rattle.lv_values.specs.Order.{row_cmp}
use Rattle.lv_schema.specs.declared.rec.Rec.{Rec}
use Rattle.lv_schema.specs.declared.rec.Rec.TheVariants.{View, Mark}
use Rattle.lv_schema.specs.declared.signed.SignedRow.{SignedRow}
use Rattle.lv_schema.specs.declared.view.ViewDef.{ViewDef}
use Rattle.lv_schema.specs.Bound.{IsBoundView}
use Rattle.lv_schema.specs.Cases.{Outcome, good, if_written, with_view, view_made}
use Rattle.lv_schema.specs.Differences.{groups_of}
use Rattle.lv_schema.specs.Greatest.{IsLive}
use Rattle.lv_schema.specs.Groups.{view_rows}
use Rattle.lv_schema.specs.Records.{view_record}
use Rattle.lv_schema.specs.SoundWorld.{IsSound}
use Rattle.lv_schema.specs.Steady.{IsSteady}
use Rattle.lv_schema.specs.WholeWorld.{world_after}
use Rattle.lv_schema.specs.Tasks.{pending}
use Rattle.lv_schema.specs.UpkeepCases.{with_record, Marking, mark_record, marking}
use Rattle.lv_schema.specs.World.{Visible, World, last, snap, no_view, view_at, point}
use Rattle.lv_schema.proofs.GoingOn.{view_goes_on}
use Rattle.lv_schema.proofs.Numbers.{Each}
use Rattle.lv_schema.proofs.PendingTasks.{Pends, pending_each}
use Rattle.lv_schema.proofs.SteadySteps.{view_made_steady}
use Rattle.lv_schema.proofs.SteadyUpkeep.{marking_steady}
use Rattle.lv_upkeep.specs.Stands.{UpkeepStands, task_of}
use Rattle.lv_viewrows.specs.Kept.{groups_at, one_row, rows_listed, version_from}
use Rattle.lv_viewrows.proofs.Installing.{first_groups}
use Rattle.lv_viewrows.proofs.RowsOfJoins.{versions_of_ones}
use Rattle.lv_stands.specs.Kept.{EngineKept, no_view_kept, view_kept}
use Rattle.lv_stands.specs.Moves.{versions_made, view_made_kept, engine_with_view, engine_marked, journal_with}
use Rattle.lv_stands.specs.Stands.{ViewStands, ViewsStand, StandsFor}
use Rattle.lv_stands.proofs.Carried as carried
use Rattle.lv_stands.proofs.Statements.{same_base, point_within}
use Rattle.lv_stands.proofs.ViewGroups.{groups_list_rows, ones_are_groups, rows_stay_sorted}

none_pends : (s : Visible) (view : ViewDef) (lo m : ℕ) → last s ≤ lo → pending s view lo m ≡ []
none_pends s view lo m le = by (pending s view lo m) (pending_each s view lo m)
  where
    by : (ts : List ℕ) → Each (Pends s view lo m) ts → ts ≡ []
    by [] each = refl
    by (t ∷ ts) each = let a = each.0.above in let b = each.0.within in absurd (omega arith)

which : (v n : ℕ) → v < n + 1 → (v < n) ⊎ (v ≡ n)
which v n h = grind arith

module _ (w : World) (e : EngineKept) (is : StandsFor w e) (def : ViewDef) (rows : List (List Value)) (groups : List SignedRow) where
  abbrev n : ℕ
  n = length w.visible.views

  abbrev made : Visible
  made = with_view def w.visible

  abbrev next : World
  next = record { visible = made; upkeep = with_record (Some (view_record def w.visible)) w.upkeep }

  view_old : (v : ℕ) → v < n → view_at made.views v ≡ view_at w.visible.views v
  view_old v lt = get_or_append_left w.visible.views (record def { created = last w.visible } ∷ []) no_view v lt

  view_new : view_at made.views n ≡ record def { created = last w.visible }
  view_new = get_or_push w.visible.views (record def { created = last w.visible }) no_view n refl

  point_old : (v : ℕ) → v < n → point next.upkeep v ≡ point w.upkeep v
  point_old v lt = get_or_append_left w.upkeep.points (last w.visible ∷ []) 0 v (omega (arith, lt, is.steady.points))

  point_new : point next.upkeep n ≡ last w.visible
  point_new = get_or_push w.upkeep.points (last w.visible) 0 n (is.steady.points)

  upkeep_made : UpkeepStands next (engine_with_view def rows groups e).upkeep
  upkeep_made = record {
    points_are = λ i. is.upkeep_stands.points_are i ++ is.base_stands.number_is i ∷ [];
    marks_are = λ i. is.upkeep_stands.marks_are i ++ is.base_stands.number_is i ∷ [];
    claims_are = is.upkeep_stands.claims_are;
    all = length_push e.upkeep.tasks [] ∙ ap (λ k. k + 1) is.upkeep_stands.all ∙ sym (length_push w.visible.views (record def { created = last w.visible }));
    each = λ v lt. each v (which v n (omega (arith, lt, length_push w.visible.views (record def { created = last w.visible }))));
  }
    where
      each : (v : ℕ) → (v < length w.visible.views) ⊎ (v ≡ length w.visible.views) → get_or (e.upkeep.tasks ++ [] ∷ []) v [] ≡ map (task_of (with_view def w.visible) (view_at (with_view def w.visible).views v)) (pending (with_view def w.visible) (view_at (with_view def w.visible).views v) (point next.upkeep v) (last w.visible))
      each v (inl lt) =
          get_or_append_left e.upkeep.tasks ([] ∷ []) [] v (omega (arith, lt, is.upkeep_stands.all))
          ∙ is.upkeep_stands.each v lt
          ∙ (λ i. map (task_of (with_view def w.visible) (sym (view_old v lt) i)) (pending (with_view def w.visible) (sym (view_old v lt) i) (sym (point_old v lt) i) (last w.visible)))
      each v (inr h) =
          get_or_push e.upkeep.tasks [] [] v (omega (arith, h, is.upkeep_stands.all))
          ∙ ap (map (task_of (with_view def w.visible) (view_at (with_view def w.visible).views v)))
          (sym (none_pends (with_view def w.visible) (view_at (with_view def w.visible).views v) (point next.upkeep v) (last w.visible) (omega (arith, ap (point next.upkeep) h, point_new))))

  module _ (bound : IsBoundView w.visible.tables w.visible.views def) (rows_are : def.grouped ≡ false → rows ≡ view_rows def (snap w.visible (last w.visible))) (groups_are : def.grouped ≡ true → groups ≡ groups_of def (snap w.visible (last w.visible))) where
    made_sound : IsSound (with_view def w.visible)
    made_sound = (view_made_steady (λ r. good) def w is.steady bound).sound

    in_use : length w.visible.views < length (with_view def w.visible).views
    in_use = omega (arith, length_push w.visible.views (record def { created = last w.visible }))

    -- what stands of a view that is in use stands of the new one
    of_new : (P : ViewDef → Type 0) → P (view_at (with_view def w.visible).views (length w.visible.views)) → P (record def { created = last w.visible })
    of_new P h = subst P view_new h

    rows_sorted : ascending row_cmp (view_rows def (snap w.visible (last w.visible))) ≡ view_rows def (snap w.visible (last w.visible))
    rows_sorted =
        of_new (λ (view : ViewDef). ascending row_cmp (view_rows view (snap w.visible (last w.visible))) ≡ view_rows view (snap w.visible (last w.visible)))
        (rows_stay_sorted (with_view def w.visible) made_sound (length w.visible.views) in_use (last w.visible) (omega arith))

    rows_as_groups : def.grouped ≡ false → map one_row (view_rows def (snap w.visible (last w.visible))) ≡ groups_of def (snap w.visible (last w.visible))
    rows_as_groups joins =
        sym (of_new (λ (view : ViewDef). view.grouped ≡ false → groups_of view (snap w.visible (last w.visible)) ≡ map one_row (view_rows view (snap w.visible (last w.visible))))
        (ones_are_groups (with_view def w.visible) made_sound (length w.visible.views) in_use (last w.visible) (omega arith)) joins)

    listed : rows_listed def (groups_of def (snap w.visible (last w.visible))) ≡ view_rows def (snap w.visible (last w.visible))
    listed =
        of_new (λ (view : ViewDef). rows_listed view (groups_of view (snap w.visible (last w.visible))) ≡ view_rows view (snap w.visible (last w.visible)))
        (groups_list_rows (with_view def w.visible) made_sound (length w.visible.views) in_use (last w.visible) (omega arith))

    groups_then : (n : ℕ) → groups_at n (versions_made def rows groups) ≡ groups_of def (snap w.visible (last w.visible))
    groups_then n = by def.grouped refl
      where
        by : (b : Bool) → def.grouped ≡ b → groups_at n (versions_made def rows groups) ≡ groups_of def (snap w.visible (last w.visible))
        by true g =
            (λ i. groups_at n (if g i then map (version_from 0) groups else map (λ row. version_from 0 (one_row row)) (ascending row_cmp rows)))
            ∙ first_groups n groups
            ∙ groups_are g
        by false g =
            (λ i. groups_at n (if g i then map (version_from 0) groups else map (λ row. version_from 0 (one_row row)) (ascending row_cmp rows)))
            ∙ ap (groups_at n) (sym (versions_of_ones (ascending row_cmp rows)))
            ∙ first_groups n (map one_row (ascending row_cmp rows))
            ∙ ap (map one_row) (ap (ascending row_cmp) (rows_are g) ∙ rows_sorted)
            ∙ rows_as_groups g

    views_made : ((k : ℕ) → IsLive w.visible k → last w.visible ≤ k) → ViewsStand next (engine_with_view def rows groups e).rows
    views_made late = record {
      all = length_push e.rows (view_made_kept def e.base.number rows groups) ∙ ap (λ k. k + 1) is.views_stand.all ∙ sym (length_push w.visible.views (record def { created = last w.visible }));
      each = λ v lt. each v (which v n (omega (arith, lt, length_push w.visible.views (record def { created = last w.visible }))));
    }
      where
        fresh : ViewStands (with_view def w.visible) (record def { created = last w.visible }) (last w.visible) (view_made_kept def e.base.number rows groups)
        fresh = record {
          at_is = is.base_stands.number_is;
          served = record {
            now = λ k le. ap (rows_listed def) (groups_then k) ∙ listed;
            before = λ k l lt. let h = late k l in absurd (omega arith);
          };
          groups_are = λ k le. groups_then k;
        }

        each : (v : ℕ) → (v < length w.visible.views) ⊎ (v ≡ length w.visible.views) → ViewStands (with_view def w.visible) (view_at (with_view def w.visible).views v) (point next.upkeep v) (get_or (e.rows ++ view_made_kept def e.base.number rows groups ∷ []) v no_view_kept)
        each v (inl lt) =
            subst (λ view. ViewStands (with_view def w.visible) view (point next.upkeep v) (get_or (e.rows ++ view_made_kept def e.base.number rows groups ∷ []) v no_view_kept)) (sym (view_old v lt))
            (subst (λ p. ViewStands (with_view def w.visible) (view_at w.visible.views v) p (get_or (e.rows ++ view_made_kept def e.base.number rows groups ∷ []) v no_view_kept)) (sym (point_old v lt))
            (subst (λ k. ViewStands (with_view def w.visible) (view_at w.visible.views v) (point w.upkeep v) k) (sym (get_or_append_left e.rows (view_made_kept def e.base.number rows groups ∷ []) no_view_kept v (omega (arith, lt, is.views_stand.all))))
            (carried.view_goes_on w.visible (with_view def w.visible) (view_goes_on (λ r. good) def w.visible is.steady.sound) (view_at w.visible.views v) (point w.upkeep v) (view_kept e.rows v) (point_within w v is.steady lt) (is.views_stand.each v lt))))
        each v (inr h) =
            subst (λ u. ViewStands (with_view def w.visible) (view_at (with_view def w.visible).views u) (point next.upkeep u) (get_or (e.rows ++ view_made_kept def e.base.number rows groups ∷ []) u no_view_kept)) (sym h)
            (subst (λ view. ViewStands (with_view def w.visible) view (point next.upkeep (length w.visible.views)) (get_or (e.rows ++ view_made_kept def e.base.number rows groups ∷ []) (length w.visible.views) no_view_kept)) (sym view_new)
            (subst (λ p. ViewStands (with_view def w.visible) (record def { created = last w.visible }) p (get_or (e.rows ++ view_made_kept def e.base.number rows groups ∷ []) (length w.visible.views) no_view_kept)) (sym point_new)
            (subst (λ k. ViewStands (with_view def w.visible) (record def { created = last w.visible }) (last w.visible) k) (sym (get_or_push e.rows (view_made_kept def e.base.number rows groups) no_view_kept (length w.visible.views) is.views_stand.all)) fresh)))

pub view_stands : (outcome : Rec → Outcome) (def : ViewDef) (w : World) (e : EngineKept) (rows : List (List Value)) (groups : List SignedRow) → StandsFor w e → IsBoundView w.visible.tables w.visible.views def → outcome (view_record def w.visible) ≡ good
    → ((k : ℕ) → IsLive w.visible k → last w.visible ≤ k) → (def.grouped ≡ false → rows ≡ view_rows def (snap w.visible (last w.visible))) → (def.grouped ≡ true → groups ≡ groups_of def (snap w.visible (last w.visible)))
    → StandsFor (world_after (view_made outcome def w.visible) w) (engine_with_view def rows groups e)
view_stands outcome def w e rows groups is bound written late rows_are groups_are =
    subst (λ out. StandsFor (world_after (if_written out (view_record def w.visible) tt (with_view def w.visible) w.visible) w) (engine_with_view def rows groups e)) (sym written)
    (record {
      steady = view_made_steady (λ r. good) def w is.steady bound;
      tables_are = is.tables_are;
      views_are = λ i. is.views_are i ++ record def { created = is.base_stands.number_is i } ∷ [];
      base_stands = same_base w.visible (with_view def w.visible) w.upkeep.pruned e.base refl refl refl refl is.base_stands;
      upkeep_stands = upkeep_made w e is def rows groups;
      views_stand = views_made w e is def rows groups bound rows_are groups_are late;
      sessions_stand = carried.sessions_go_on w.visible (with_view def w.visible) w.visible.sessions e.sessions refl (λ k le. refl) is.steady.sound.open_ones is.sessions_stand;
      journal_is = λ i. journal_with (View (record def { no = 0; created = is.base_stands.number_is i })) (is.journal_is i);
    })

-- ---- a mark
pub marked_stands : (outcome : Rec → Outcome) (v : ℕ) (w : World) (e : EngineKept) → StandsFor w e → (slice_index w.upkeep.marks v == point w.upkeep v) ≡ false → outcome (mark_record v w.upkeep) ≡ good
    → StandsFor (record { visible = w.visible; upkeep = (marking outcome v w.upkeep).next }) (engine_marked v e)
marked_stands outcome v w e is behind written =
    subst (λ (m : Marking). StandsFor (record { visible = w.visible; upkeep = m.next }) (engine_marked v e)) (sym now)
    (record {
      steady = subst (λ (m : Marking). IsSteady (record { visible = w.visible; upkeep = m.next })) now (marking_steady outcome v w is.steady);
      tables_are = is.tables_are;
      views_are = is.views_are;
      base_stands = is.base_stands;
      upkeep_stands = record {
        points_are = is.upkeep_stands.points_are;
        marks_are = λ i. slice_set (is.upkeep_stands.marks_are i) v (slice_index (is.upkeep_stands.points_are i) v);
        claims_are = is.upkeep_stands.claims_are;
        all = is.upkeep_stands.all;
        each = is.upkeep_stands.each;
      };
      views_stand = record { all = is.views_stand.all; each = is.views_stand.each };
      sessions_stand = is.sessions_stand;
      journal_is = λ i. journal_with (Mark v (slice_index (is.upkeep_stands.points_are i) v)) (is.journal_is i);
    })
  where
    now : marking outcome v w.upkeep ≡ record { answer = Ok (Some (point w.upkeep v)); next = with_record (Some (mark_record v w.upkeep)) w.upkeep; attempted = Some (mark_record v w.upkeep) }
    now = rw (behind, written) refl
