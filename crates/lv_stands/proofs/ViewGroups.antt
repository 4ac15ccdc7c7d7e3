-- The groups of a view over a state: they list its rows, and with the difference to another state they are the groups
-- there.
use Rattle.std.proofs.Common.{◌≡◌, ℕ, ◌<◌, ◌≤◌, Bool, true, false, List, [], ◌++◌, map, length, FitsSigned, refl, sym, ap, ◌∙◌, subst, arith}
use Rattle.std.specs.Prelude.{◌-ℤ◌, if◌then◌else◌}
use Rattle.std.specs.List.{AllByRecursion}
use Rattle.std.specs.Int.{int_wrap, w128}
use Rattle.std.proofs.lemmas.Int.{SFits-int_wrap}
use Rattle.std.proofs.lemmas.List.{length-map}
use Rattle.lv_values.specs.Ascending.{ascending}
use Rattle.lv_values.specs.Order.{row_cmp}
use Rattle.lv_values.specs.OrderLaws.{row_total}
use Rattle.lv_schema.specs.declared.cond.Col.{Col}
use Rattle.lv_schema.specs.declared.signed.SignedRow.{SignedRow}
use Rattle.lv_schema.specs.declared.view.ViewDef.{ViewDef}
use Rattle.lv_schema.specs.Applicable.{AreNetted, IsGroup}
use Rattle.lv_schema.specs.Bound.{IsBoundView}
use Rattle.lv_schema.specs.Databases.{Db}
use Rattle.lv_schema.specs.Differences.{summed_columns, key_of, tuples_of, change_of, is_change, changes, view_difference, groups_of}
use Rattle.lv_schema.specs.Groups.{total, number_at, grouped_rows, view_rows}
use Rattle.lv_schema.specs.JoinViews.{parts_of, selected, join_rows}
use Rattle.lv_schema.specs.Once.{Ascends}
use Rattle.lv_schema.specs.SignedRows.{entries_of}
use Rattle.lv_schema.specs.SoundWorld.{IsSound}
use Rattle.lv_schema.specs.Tuples.{Tuple}
use Rattle.lv_schema.specs.World.{Visible, last, snap, view_at}
use Rattle.lv_schema.proofs.Applies.{each_change, difference_netted, groups_counted, selected_few}
use Rattle.lv_schema.proofs.Apart.{all_map, all_true, ascends_apart, ascends_ascending}
use Rattle.lv_schema.proofs.ChangeLists.{ARow}
use Rattle.lv_schema.proofs.JoinChanges.{few, groups_between}
use Rattle.lv_schema.proofs.NetsLead.{any_ascending, only_rows, passes}
use Rattle.lv_schema.proofs.Profiles.{IsPlainList, group_list, plain_list}
use Rattle.lv_schema.proofs.ViewRows.{view_rows_ascend}
use Rattle.lv_group.specs.Gathered.{has_tuples}
use Rattle.lv_group.proofs.GroupRows.{rows_are}
use Rattle.lv_group.proofs.Regroups.{groups_after}
use Rattle.lv_viewrows.specs.Changed.{SumsFit, after_changes, groups_with}
use Rattle.lv_viewrows.specs.Kept.{one_row, rows_listed}
use Rattle.lv_viewrows.proofs.AddedUp.{groups_with_adds_up}
use Rattle.lv_viewrows.proofs.Entries.{changes_ascend}
use Rattle.lv_viewrows.proofs.Keeping.{group_listed, join_listed}
use Rattle.lv_viewrows.proofs.RowsOfJoins.{row_of, rows_of_ones}
use Rattle.lv_stands.proofs.Ints.{tuples_are_ints}
use Rattle.lv_stands.proofs.JoinGroups.{groups_are_rows}

-- ---- over any databases
sums_fit : (view : ViewDef) (was is : List Tuple) (rows : List ARow) → AllByRecursion SumsFit (changes (change_of view was is) rows)
sums_fit view was is rows =
    each_change SumsFit (change_of view was is) rows
    (λ q e. all_map (λ (col : Col). int_wrap w128 (total (number_at col) (tuples_of view q is) -ℤ total (number_at col) (tuples_of view q was))) (FitsSigned w128) (summed_columns view)
    (all_true (λ (col : Col). FitsSigned w128 (int_wrap w128 (total (number_at col) (tuples_of view q is) -ℤ total (number_at col) (tuples_of view q was))))
    (λ col. SFits-int_wrap w128 (total (number_at col) (tuples_of view q is) -ℤ total (number_at col) (tuples_of view q was))) (summed_columns view)))

module _ (view : ViewDef) (db : Db) where
  abbrev kept : List Tuple
  kept = selected view.cond (parts_of view.tables db)

  pub groups_netted : AreNetted (length (summed_columns view)) (groups_of view db)
  groups_netted = record {
    ascend = changes_ascend (change_of view [] kept) (λ q. refl) (map (key_of view) kept);
    change = each_change (λ s. is_change s ≡ true) (change_of view [] kept) (map (key_of view) kept) (λ q e. e);
    sums = each_change (λ s. length s.sums ≡ length (summed_columns view)) (change_of view [] kept) (map (key_of view) kept) (λ q e. length-map (summed_columns view) _);
  }

pub groups_lead : (view : ViewDef) (before after : Db) → AllByRecursion IsGroup (groups_of view after) → groups_with (view_difference view before after) (groups_of view before) ≡ groups_of view after
groups_lead view before after counted =
    let was = selected view.cond (parts_of view.tables before) in
    let is = selected view.cond (parts_of view.tables after) in
    groups_with_adds_up (length (summed_columns view)) (groups_of view before) (view_difference view before after) (groups_netted view before) (difference_netted view before after)
    (sums_fit view [] was (map (key_of view) was)) (sums_fit view was is (map (key_of view) (was ++ is)))
    ∙ groups_after view before after counted

-- a view that is made
pub made_groups : (s : Visible) (def : ViewDef) (k : ℕ) → IsSound s → IsBoundView s.tables s.views def → k ≤ last s → AreNetted (length (summed_columns def)) (groups_of def (snap s k)) × AllByRecursion (λ g. has_tuples g ≡ true) (groups_of def (snap s k))
made_groups s def k sound bound le =
    let db = snap s k in
    let groups = groups_of def db in
    let same = view_difference def db db in
    let counted = groups_counted def db (selected_few s.tables def db (sound.fits k le) bound.in_use bound.few_aliases) in (
      groups_netted def db,
      subst (AllByRecursion (λ g. has_tuples g ≡ true)) (groups_lead def db db counted)
          (passes has_tuples (changes (λ row. after_changes row (entries_of row groups) (entries_of row same)) (map (λ (s : SignedRow). s.row) (groups ++ same)))),
    )

-- ---- over a state of a sound world
module _ (s : Visible) (sound : IsSound s) (v : ℕ) (lt : v < length s.views) where
  abbrev view : ViewDef
  view = view_at s.views v

  pub is_plain_list : view.grouped ≡ false → IsPlainList s.tables view
  is_plain_list joins = plain_list s.tables view (sound.schema.each_view v lt).profile joins

  pub ones_are_groups : (k : ℕ) → k ≤ last s → view.grouped ≡ false → groups_of view (snap s k) ≡ map one_row (view_rows view (snap s k))
  ones_are_groups k le joins = groups_are_rows s.tables view (snap s k) (sound.fits k le) (sound.schema.each_view v lt).in_use joins (is_plain_list joins)

  pub groups_list_rows : (k : ℕ) → k ≤ last s → rows_listed view (groups_of view (snap s k)) ≡ view_rows view (snap s k)
  groups_list_rows k le = by view.grouped refl
    where
      by : (b : Bool) → (view_at s.views v).grouped ≡ b → rows_listed (view_at s.views v) (groups_of (view_at s.views v) (snap s k)) ≡ view_rows (view_at s.views v) (snap s k)
      by false g =
          join_listed (view_at s.views v) (groups_of (view_at s.views v) (snap s k)) g
          ∙ ap (map row_of) (ones_are_groups k le g)
          ∙ rows_of_ones (view_rows (view_at s.views v) (snap s k))
      by true g =
          group_listed (view_at s.views v) (groups_of (view_at s.views v) (snap s k)) g
          ∙ rows_are (view_at s.views v) (parts_of (view_at s.views v).tables (snap s k)) (record { by = (view_at s.views v).groups; items = (view_at s.views v).items; groups = groups_of (view_at s.views v) (snap s k); spare = 0 }) g
          (group_list s.tables (view_at s.views v) (sound.schema.each_view v lt).profile g).listed_grouped
          (tuples_are_ints s sound k le v lt)
          (let h = few s sound v lt k le in omega (arith, h))
          (record { by = refl; items = refl })
          refl
          ∙ (λ j. if sym g j then grouped_rows (view_at s.views v) (parts_of (view_at s.views v).tables (snap s k)) else join_rows (view_at s.views v) (parts_of (view_at s.views v).tables (snap s k)))

  pub groups_lead_on : (lo hi : ℕ) → hi ≤ last s → groups_with (view_difference view (snap s lo) (snap s hi)) (groups_of view (snap s lo)) ≡ groups_of view (snap s hi)
  groups_lead_on lo hi le = groups_lead view (snap s lo) (snap s hi) (groups_between s sound v lt hi le)

  pub rows_stay_sorted : (k : ℕ) → k ≤ last s → ascending row_cmp (view_rows view (snap s k)) ≡ view_rows view (snap s k)
  rows_stay_sorted k le =
      let bound = sound.schema.each_view v lt in
      let up : Ascends row_cmp (view_rows view (snap s k)) = view_rows_ascend s.tables view (snap s k) (sound.fits k le) bound.in_use bound.profile in
      only_rows row_total (ascending row_cmp (view_rows view (snap s k))) (view_rows view (snap s k)) (ascends_ascending row_total (view_rows view (snap s k)) (ascends_apart row_total (view_rows view (snap s k)) up)) up
      (λ q. any_ascending row_cmp q (view_rows view (snap s k)))
