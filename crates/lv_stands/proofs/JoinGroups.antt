-- The groups of a join view are its rows, each of one tuple.
use Rattle.std.proofs.Common.{◌≡◌, pos, Bool, true, false, cond, ◌||◌, List, [], ◌∷◌, map, filter, length, refl, sym, ap, ◌∙◌, subst}
use Rattle.std.specs.Prelude.{◌-ℤ◌, nat_lt}
use Rattle.std.specs.List.{filter_map, list_any, list_all, AllByRecursion}
use Rattle.std.specs.Int.{int_wrap, w128}
use Rattle.std.proofs.lemmas.Cmp.{tied_itself}
use Rattle.lv_values.specs.Order.{row_cmp, row_eq}
use Rattle.lv_values.specs.OrderLaws.{row_total}
use Rattle.lv_schema.specs.declared.cond.Col.{Col}
use Rattle.lv_schema.specs.declared.table.TableDef.{TableDef}
use Rattle.lv_schema.specs.declared.view.Item.{Item}
use Rattle.lv_schema.specs.declared.view.Item.TheVariants.{Plain, Sum, Count}
use Rattle.lv_schema.specs.declared.view.ViewDef.{ViewDef}
use Rattle.lv_schema.specs.Bound.{is_plain}
use Rattle.lv_schema.specs.Databases.{Db, IsDatabase}
use Rattle.lv_schema.specs.Differences.{summed_column, summed_columns, key_of, tuples_of, change_of, groups_of}
use Rattle.lv_schema.specs.Groups.{total, number_at, grouped_rows, view_rows}
use Rattle.lv_schema.specs.JoinViews.{parts_of, selected, plain_columns, join_rows}
use Rattle.lv_schema.specs.Once.{once}
use Rattle.lv_schema.specs.Tuples.{Tuple, listed}
use Rattle.lv_schema.proofs.Profiles.{IsPlainList}
use Rattle.lv_schema.proofs.Apart.{Apart, Untied}
use Rattle.lv_schema.proofs.ChangeLists.{ARow}
use Rattle.lv_schema.proofs.DifferencesAddUp.{any_once}
use Rattle.lv_schema.proofs.NetsLead.{same_row, any_ascending, only_rows}
use Rattle.lv_schema.proofs.OnceLists.{once_up}
use Rattle.lv_schema.proofs.ViewRows.{all_once, join_tuples_apart, join_rows_ascend}
use Rattle.lv_group.proofs.Groupings.{all_in, all_present, minus_none}
use Rattle.lv_viewrows.specs.Kept.{one_row}

-- ---- a row is listed by one tuple
none_tied : (key : Tuple → ARow) (q : ARow) (t : Tuple) (kept : List Tuple) → q ≡ key t → AllByRecursion (λ u. Untied row_total (key t) (key u)) kept → filter (λ u. row_eq q (key u)) kept ≡ []
none_tied key q t [] e a = refl
none_tied key q t (u ∷ kept) e a = by (row_eq q (key u)) refl (none_tied key q t kept e a.1)
  where
    by : (b : Bool) → row_eq q (key u) ≡ b → filter (λ u. row_eq q (key u)) kept ≡ [] → cond b (u ∷ filter (λ u. row_eq q (key u)) kept) (filter (λ u. row_eq q (key u)) kept) ≡ []
    by true f ih = absurd (a.0 (ap (λ k. row_cmp k (key u)) (sym e ∙ same_row q (key u) f) ∙ tied_itself row_total (key u)))
    by false f ih = ih

one_tuple : (key : Tuple → ARow) (q : ARow) (kept : List Tuple) → Apart (λ t u. Untied row_total (key t) (key u)) kept → list_any (row_eq q) (map key kept) ≡ true → length (filter (λ t. row_eq q (key t)) kept) ≡ 1
one_tuple key q [] a h = absurd (cc)
one_tuple key q (t ∷ kept) a h = by (row_eq q (key t)) refl h (λ k. one_tuple key q kept a.1 k)
  where
    by : (b : Bool) → row_eq q (key t) ≡ b → (b || list_any (row_eq q) (map key kept)) ≡ true → (list_any (row_eq q) (map key kept) ≡ true → length (filter (λ u. row_eq q (key u)) kept) ≡ 1)
        → length (cond b (t ∷ filter (λ u. row_eq q (key u)) kept) (filter (λ u. row_eq q (key u)) kept)) ≡ 1
    by true f k ih = ap (λ l. length (t ∷ l)) (none_tied key q t kept (same_row q (key t) f) a.0)
    by false f k ih = ih k

-- a join view sums nothing
no_sums : (items : List Item) → list_all is_plain items ≡ true → filter_map summed_column items ≡ []
no_sums [] h = refl
no_sums (Plain col name ∷ items) h = no_sums items h
no_sums (Sum col name ∷ items) h = absurd (cc)
no_sums (Count name ∷ items) h = absurd (cc)

pub nothing_summed : (tables : List TableDef) (view : ViewDef) → IsPlainList tables view → summed_columns view ≡ []
nothing_summed tables view plain = no_sums view.items plain.plain

map_within : {X Y : Type 0} (P : X → Type 0) (f g : X → Y) (xs : List X) → AllByRecursion P xs → ((x : X) → P x → f x ≡ g x) → map f xs ≡ map g xs
map_within P f g [] a same = refl
map_within P f g (x ∷ xs) a same = λ i. same x a.0 i ∷ map_within P f g xs a.1 same i

module _ (tables : List TableDef) (view : ViewDef) (db : Db) (is : IsDatabase tables db) (used : list_all (λ t. nat_lt t (length tables)) view.tables ≡ true) (joins : view.grouped ≡ false) (plain : IsPlainList tables view) where
  abbrev kept : List Tuple
  kept = selected view.cond (parts_of view.tables db)

  abbrev keys : List ARow
  keys = map (key_of view) kept

  keys_are : key_of view ≡ listed (plain_columns view.items)
  keys_are = λ i tuple. listed (cond (joins i) view.groups (plain_columns view.items)) tuple

  rows_are : view_rows view db ≡ join_rows view (parts_of view.tables db)
  rows_are = λ i. cond (joins i) (grouped_rows view (parts_of view.tables db)) (join_rows view (parts_of view.tables db))

  each_once : once row_cmp keys ≡ view_rows view db
  each_once =
      only_rows row_total (once row_cmp keys) (join_rows view (parts_of view.tables db)) (once_up row_total keys) (join_rows_ascend tables view db is used plain)
      (λ q. any_once q keys ∙ (λ i. list_any (row_eq q) (map (keys_are i) kept)) ∙ sym (any_ascending row_cmp q (map (listed (plain_columns view.items)) kept)))
      ∙ sym rows_are

  one_of : (q : ARow) → list_any (row_eq q) keys ≡ true → change_of view [] kept q ≡ one_row q
  one_of q there =
      let apart : Apart (λ t u. Untied row_total (key_of view t) (key_of view u)) kept =
      subst (λ (key : Tuple → ARow). Apart (λ t u. Untied row_total (key t) (key u)) kept) (sym keys_are) (join_tuples_apart tables view db is used plain) in
      let count : pos (length (tuples_of view q kept)) -ℤ pos 0 ≡ pos 1 = minus_none (pos (length (tuples_of view q kept))) ∙ ap pos (one_tuple (key_of view) q kept apart there) in
      λ i. record { row = q; count = count i; sums = map (λ (col : Col). int_wrap w128 (total (number_at col) (tuples_of view q kept) -ℤ pos 0)) (nothing_summed tables view plain i) }

  -- each row is a group of one tuple
  pub groups_are_rows : groups_of view db ≡ map one_row (view_rows view db)
  groups_are_rows =
      all_present view kept
      ∙ map_within (λ q. list_any (row_eq q) keys ≡ true) (change_of view [] kept) one_row (once row_cmp keys) (all_once (λ q. list_any (row_eq q) keys ≡ true) keys (all_in [] keys)) one_of
      ∙ ap (map one_row) each_once
