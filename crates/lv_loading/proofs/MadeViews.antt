-- Views over the states at their points.
use Rattle.std.proofs.Common.{◌≡◌, ℕ, ◌+◌, ◌<◌, ◌≤◌, ◌⊎◌, inl, inr, true, List, [], ◌∷◌, ◌++◌, map, length, sym, ap, ◌∙◌, subst, arith}
use Rattle.std.specs.Prelude.{nat_lt, slice_index, slice_index_or}
use Rattle.std.specs.List.{AllByRecursion, list_all}
use Rattle.std.proofs.Math.ListN.{get_or-map}
use Rattle.std.proofs.Math.Path.{subst₂}
use Rattle.std.proofs.lemmas.List.{get_or_append_left, get_or_push, length-map, length_push}
use Rattle.lv_values.specs.declared.value.Value.{Value}
use Rattle.lv_values.specs.Order.{row_cmp}
use Rattle.lv_schema.specs.declared.signed.SignedRow.{SignedRow}
use Rattle.lv_schema.specs.declared.view.ViewDef.{ViewDef}
use Rattle.lv_schema.specs.Applicable.{AreNetted}
use Rattle.lv_schema.specs.Databases.{Db, IsDatabase}
use Rattle.lv_schema.specs.Differences.{changes, groups_of, groups_over, summed_columns, view_difference}
use Rattle.lv_schema.specs.Groups.{view_rows_over}
use Rattle.lv_schema.specs.JoinViews.{parts_of}
use Rattle.lv_schema.specs.Once.{Ascends}
use Rattle.lv_schema.specs.SignedRows.{entries_of}
use Rattle.lv_schema.specs.World.{World, last, point, snap, view_at}
use Rattle.lv_schema.proofs.Apart.{all_weaker}
use Rattle.lv_schema.proofs.Applies.{groups_counted, selected_few}
use Rattle.lv_schema.proofs.NetsLead.{passes}
use Rattle.lv_schema.proofs.ViewRows.{view_rows_ascend}
use Rattle.lv_group.specs.Gathered.{has_tuples}
use Rattle.lv_viewrows.specs.Changed.{after_changes}
use Rattle.lv_viewrows.specs.Kept.{ViewKept}
use Rattle.lv_stands.specs.Kept.{no_view_kept, view_kept}
use Rattle.lv_stands.specs.Kept as stands
use Rattle.lv_stands.specs.Moves.{versions_made}
use Rattle.lv_stands.specs.Stands.{StandsFor}
use Rattle.lv_stands.proofs.Statements.{point_within}
use Rattle.lv_stands.proofs.ViewGroups.{groups_lead, groups_netted}
use Rattle.lv_base.specs.Bases.{BaseRoom, IsReindexed, KeepsIndexes, kept_of}
use Rattle.lv_base.proofs.Reindexed.{same_kept}
use Rattle.lv_near.specs.Orders.{HasBothIndexes, HasLinkIndexes}
use Rattle.lv_near.proofs.LinkIndexes.{both_stay}
use Rattle.lv_made.specs.Views.{parts_at}
use Rattle.lv_made.proofs.Shown.{parts_shown}
use Rattle.lv_loading.specs.declared.loaded.Loaded.{Loaded}
use Rattle.lv_loading.specs.declared.parts.Parts.{Parts}
use Rattle.lv_loading.specs.Loads.{LoadingStands, no_rows, loaded_kept}
use Rattle.lv_loading.specs.Loads as loads
use Rattle.lv_loading.specs.Making.{AreMade, IsMadeAt}
use Rattle.lv_loading.specs.Taking.{IsWhole, kept_in}
use Rattle.lv_loading.proofs.Standing.{made_at, stands_with}

-- parts with other indexes keep the same
pub same_parts : (old new : Parts) → new ≡ record old { base = new.base } → IsReindexed old.base new.base → kept_in new ≡ kept_in old
same_parts old new same reindexed = ap kept_in same ∙ ap (λ (b : stands.BaseKept). record (kept_in old) { base = b }) (same_kept old.base new.base reindexed)

-- and stand for the same worlds
pub whole_still : (old new : Parts) → new ≡ record old { base = new.base } → IsReindexed old.base new.base → IsWhole old → IsWhole new
whole_still old new same reindexed whole = (whole.0, subst (LoadingStands whole.0) (sym (same_parts old new same reindexed)) whole.1)

-- a view keeps the indexes of its links
pub links_stay : (old new : BaseRoom) → KeepsIndexes old new → (def : ViewDef) → HasLinkIndexes old def → HasLinkIndexes new def
links_stay old new kept def h = all_weaker (HasBothIndexes old def.tables _) (HasBothIndexes new def.tables _) (both_stay old new kept def.tables _) _ h

module _ (p : Parts) (w : World) (is : LoadingStands w (kept_in p)) where
  module _ (v : ℕ) (lt : v < length p.schema.views) where
    there : v < length w.visible.views
    there = omega (arith, lt, ap length is.views_are)

    same_view : view_at p.schema.views v ≡ view_at w.visible.views v
    same_view = ap (λ (vs : List ViewDef). view_at vs v) is.views_are

    point_is : slice_index p.upkeep.kept.points v ≡ point w.upkeep v
    point_is = ap (λ (ps : List ℕ). slice_index ps v) is.upkeep_stands.points_are

    within : point w.upkeep v ≤ last w.visible
    within = point_within w v is.steady there

    abbrev db : Db
    db = snap w.visible (point w.upkeep v)

    -- its tables are in use
    pub tables_there : list_all (λ t. nat_lt t (length p.base.tables)) (view_at p.schema.views v).tables ≡ true
    tables_there =
        subst₂ (λ (n : ℕ) (d : ViewDef). list_all (λ t. nat_lt t n) d.tables ≡ true) (sym (sym (length-map p.base.tables kept_of) ∙ is.base_stands.all)) (sym same_view)
        (is.steady.sound.schema.each_view v there).in_use

    fits : IsDatabase w.visible.tables db
    fits = is.steady.sound.fits (point w.upkeep v) within

    pub parts_are : parts_at p.base (slice_index p.upkeep.kept.points v) (view_at p.schema.views v).tables ≡ parts_of (view_at w.visible.views v).tables (snap w.visible (point w.upkeep v))
    parts_are =
        (λ i. parts_at p.base (point_is i) (same_view i).tables)
        ∙ parts_shown w.visible 0 p.base is.base_stands (point w.upkeep v) (omega arith) within (view_at w.visible.views v).tables (is.steady.sound.schema.each_view v there).in_use

    pub distinct_there : Ascends row_cmp (view_rows_over (view_at p.schema.views v) (parts_at p.base (slice_index p.upkeep.kept.points v) (view_at p.schema.views v).tables))
    distinct_there =
        let bound = is.steady.sound.schema.each_view v there in
        subst₂ (λ (def : ViewDef) (parts : List (List (List Value))). Ascends row_cmp (view_rows_over def parts)) (sym same_view) (sym parts_are)
        (view_rows_ascend w.visible.tables (view_at w.visible.views v) db fits bound.in_use bound.profile)

    pub netted_there : AreNetted (length (summed_columns (view_at p.schema.views v))) (groups_over (view_at p.schema.views v) (parts_at p.base (slice_index p.upkeep.kept.points v) (view_at p.schema.views v).tables))
    netted_there =
        subst₂ (λ (def : ViewDef) (parts : List (List (List Value))). AreNetted (length (summed_columns def)) (groups_over def parts)) (sym same_view) (sym parts_are)
        (groups_netted (view_at w.visible.views v) db)

    counted : AllByRecursion (λ g. has_tuples g ≡ true) (groups_of (view_at w.visible.views v) db)
    counted =
        let def = view_at w.visible.views v in
        let bound = is.steady.sound.schema.each_view v there in
        let groups = groups_of def db in
        let same = view_difference def db db in
        subst (AllByRecursion (λ g. has_tuples g ≡ true)) (groups_lead def db db (groups_counted def db (selected_few w.visible.tables def db fits bound.in_use bound.few_aliases)))
        (passes has_tuples (changes (λ row. after_changes row (entries_of row groups) (entries_of row same)) (map (λ (s : SignedRow). s.row) (groups ++ same))))

    pub tuples_there : AllByRecursion (λ g. has_tuples g ≡ true) (groups_over (view_at p.schema.views v) (parts_at p.base (slice_index p.upkeep.kept.points v) (view_at p.schema.views v).tables))
    tuples_there =
        subst₂ (λ (def : ViewDef) (parts : List (List (List Value))). AllByRecursion (λ g. has_tuples g ≡ true) (groups_over def parts)) (sym same_view) (sym parts_are) counted

    -- the rows that are made are those over the state at the point
    made_is : (rows : ViewKept) → IsMadeAt p v rows → loads.rows_of rows ≡ made_at w v
    made_is rows made = λ i. record {
      at = (made.at_is ∙ point_is) i;
      versions = (made.versions_are ∙ (λ j. versions_made (same_view j) (view_rows_over (same_view j) (parts_are j)) (groups_over (same_view j) (parts_are j)))) i;
    }

  pub loaded_stands : (rows : List ViewKept) (l : Loaded) → AreMade p (length p.schema.views) rows → l.schema ≡ p.schema → l.base ≡ p.base → l.upkeep ≡ p.upkeep → l.rows.list ≡ rows → StandsFor w (loaded_kept w.upkeep.journal l)
  loaded_stands rows l made schema base upkeep list =
      subst (λ (e : stands.EngineKept). StandsFor w e)
      (λ i. loaded_kept w.upkeep.journal (record l { schema = sym schema i; base = sym base i; upkeep = sym upkeep i; rows = record l.rows { list = sym list i } }))
      (stands_with w (kept_in p) (map loads.rows_of rows) is (length-map rows loads.rows_of ∙ made.all ∙ ap length is.views_are)
      (λ v lt. let here : v < length p.schema.views = omega (arith, lt, ap length is.views_are) in get_or-map loads.rows_of rows v no_rows ∙ made_is v here (slice_index_or rows v no_rows) (made.each v here)))

-- ---- one view more
which : (v n : ℕ) → v < n + 1 → (v < n) ⊎ (v ≡ n)
which v n h = grind arith

pub made_more : (p : Parts) (n : ℕ) (rows new : List ViewKept) (made : ViewKept) → AreMade p n rows → IsMadeAt p n made → new ≡ rows ++ made ∷ [] → AreMade p (n + 1) new
made_more p n rows new made are is e = subst (AreMade p (n + 1)) (sym e)
    (record { all = length_push rows made ∙ ap (λ k. k + 1) are.all; each = λ v lt. by v (which v n lt) })
  where
    by : (v : ℕ) → (v < n) ⊎ (v ≡ n) → IsMadeAt p v (slice_index_or (rows ++ made ∷ []) v no_rows)
    by v (inl lt) = subst (IsMadeAt p v) (sym (get_or_append_left rows (made ∷ []) no_rows v (omega (arith, lt, are.all)))) (are.each v lt)
    by v (inr h) = subst (IsMadeAt p v) (sym (get_or_push rows made no_rows v (are.all ∙ sym h))) (subst (λ u. IsMadeAt p u made) (sym h) is)
