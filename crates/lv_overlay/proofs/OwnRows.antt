-- Where the rows that were put stand under their keys, the rows over others have at each key what the writes left there.
use Rattle.std.proofs.Common.{◌≡◌, ℕ, Bool, true, false, cond, not, ◌||◌, ◌&&◌, List, [], ◌∷◌, ◌++◌, map, Option, Some, None, refl, sym, ap, ap₂, ◌∙◌}
use Rattle.std.specs.Prelude.{◌==◌, unwrap_or}
use Rattle.lv_values.specs.declared.value.Value.{Value}
use Rattle.lv_values.specs.Order.{row_cmp, row_eq}
use Rattle.lv_values.specs.OrderLaws.{row_total}
use Rattle.lv_values.specs.Rows.{values_at, key_cmp}
use Rattle.lv_schema.specs.Commits.{Place, same_place}
use Rattle.lv_schema.specs.Keys.{row_at}
use Rattle.lv_schema.specs.Nets.{has_row}
use Rattle.lv_schema.specs.Once.{Ascends, once}
use Rattle.lv_schema.proofs.Condenses.{found_key, picked_at, picked_up}
use Rattle.lv_schema.proofs.DifferencesAddUp.{any_once}
use Rattle.lv_schema.proofs.FirstCommitter.{place_of}
use Rattle.lv_schema.proofs.NetsLead.{same_row}
use Rattle.lv_schema.proofs.OnceLists.{once_up}
use Rattle.lv_overlay.specs.declared.put.Put.{Put}
use Rattle.lv_overlay.specs.Puts.{put_at, over, put_keys, row_stands, rows_over, stands_under, StandUnder, AreOwnRows}
use Rattle.lv_overlay.proofs.Places.{and_left, and_right}

abbrev ARow : Type 0
ARow = List Value

module _ (key : List ℕ) (t : ℕ) where
  -- a row that was put at a key of the table has that key
  put_key : (k r : ARow) (puts : List Put) → StandUnder key t puts → put_at puts (t, k) ≡ Some (Some r) → values_at key r ≡ k
  put_key k r [] stand e = cc
  put_key k r (q ∷ puts) stand e = by (same_place (t, k) (q.table, q.key)) refl e (λ g. put_key k r puts (and_right (stands_under key t q) _ stand) g)
    where
      own : stands_under key t q ≡ true
      own = and_left _ _ stand

      by : (b : Bool) → same_place (t, k) (q.table, q.key) ≡ b → cond b (Some q.row) (put_at puts (t, k)) ≡ Some (Some r) → (put_at puts (t, k) ≡ Some (Some r) → values_at key r ≡ k) → values_at key r ≡ k
      by true f g ih =
          let one : (t, k) ≡ (q.table, q.key) = place_of (t, k) (q.table, q.key) f in
          let row : q.row ≡ Some r = cc in
          let mine : (t == q.table) ≡ true = and_left _ _ f in
          let stands : row_stands key q.key q.row ≡ true = sym (ap (λ b. not b || row_stands key q.key q.row) mine) ∙ own in
          same_row (values_at key r) q.key (sym (ap (row_stands key q.key) row) ∙ stands) ∙ sym (ap (λ (p : Place). p.1) one)
      by false f g ih = ih g

  over_key : (k r : ARow) (puts : List Put) (rows : List ARow) → StandUnder key t puts → over puts (t, k) (row_at key k rows) ≡ Some r → values_at key r ≡ k
  over_key k r puts rows stand e = by (put_at puts (t, k)) refl e
    where
      by : (o : Option (Option ARow)) → put_at puts (t, k) ≡ o → unwrap_or o (row_at key k rows) ≡ Some r → values_at key r ≡ k
      by None f g = sym (found_key key k rows r g)
      by (Some x) f g = put_key k r puts stand (f ∙ ap Some g)

  -- ---- a key that no write and no row has
  none_put : (k : ARow) (puts : List Put) → has_row k (put_keys puts t) ≡ false → put_at puts (t, k) ≡ None
  none_put k [] e = refl
  none_put k (q ∷ puts) e = by (t == q.table) refl e (λ f. none_put k puts f)
    where
      by : (b : Bool) → (t == q.table) ≡ b → has_row k (cond b (q.key ∷ put_keys puts t) (put_keys puts t)) ≡ false → (has_row k (put_keys puts t) ≡ false → put_at puts (t, k) ≡ None)
          → cond ((t == q.table) && row_eq k q.key) (Some q.row) (put_at puts (t, k)) ≡ None
      by true f g ih = at (row_eq k q.key) refl g
        where
          at : (c : Bool) → row_eq k q.key ≡ c → (c || has_row k (put_keys puts t)) ≡ false → cond ((t == q.table) && row_eq k q.key) (Some q.row) (put_at puts (t, k)) ≡ None
          at true h i = cc
          at false h i = ap₂ (λ b c. cond (b && c) (Some q.row) (put_at puts (t, k))) f h ∙ ih i
      by false f g ih = ap (λ b. cond (b && row_eq k q.key) (Some q.row) (put_at puts (t, k))) f ∙ ih g

  none_below : (k : ARow) (rows : List ARow) → has_row k (map (values_at key) rows) ≡ false → row_at key k rows ≡ None
  none_below k [] e = refl
  none_below k (r ∷ rows) e = by (row_eq k (values_at key r)) refl e (λ f. none_below k rows f)
    where
      by : (b : Bool) → row_eq k (values_at key r) ≡ b → (b || has_row k (map (values_at key) rows)) ≡ false → (has_row k (map (values_at key) rows) ≡ false → row_at key k rows ≡ None) → cond b (Some r) (row_at key k rows) ≡ None
      by true f g ih = cc
      by false f g ih = ih g

  any_both : (k : ARow) (xs ys : List ARow) → has_row k (xs ++ ys) ≡ (has_row k xs || has_row k ys)
  any_both k [] ys = refl
  any_both k (x ∷ xs) ys = ap (λ b. row_eq k x || b) (any_both k xs ys) ∙ either (row_eq k x) (has_row k xs) (has_row k ys)
    where
      either : (a b c : Bool) → (a || (b || c)) ≡ ((a || b) || c)
      either true b c = refl
      either false b c = refl

  or_left : (a b : Bool) → (a || b) ≡ false → a ≡ false
  or_left true b e = cc
  or_left false b e = refl

  or_right : (a b : Bool) → (a || b) ≡ false → b ≡ false
  or_right true b e = cc
  or_right false b e = e

  pub own_rows : (puts : List Put) (rows : List ARow) → StandUnder key t puts → AreOwnRows key puts t rows (rows_over key puts t rows)
  own_rows puts rows stand = record { ascend = rise; each = each }
    where
      pick : ARow → Option ARow
      pick k = over puts (t, k) (row_at key k rows)

      keys : List ARow
      keys = map (values_at key) rows ++ put_keys puts t

      keyed : (k r : ARow) → pick k ≡ Some r → values_at key r ≡ k
      keyed k r e = over_key k r puts rows stand e

      rise : Ascends (key_cmp key) (rows_over key puts t rows)
      rise = picked_up key pick keyed (once row_cmp keys) (once_up row_total keys)

      nothing : (k : ARow) → has_row k keys ≡ false → pick k ≡ None
      nothing k e =
          let both : (has_row k (map (values_at key) rows) || has_row k (put_keys puts t)) ≡ false = sym (any_both k (map (values_at key) rows) (put_keys puts t)) ∙ e in
          ap₂ unwrap_or (none_put k puts (or_right (has_row k (map (values_at key) rows)) (has_row k (put_keys puts t)) both)) (none_below k rows (or_left (has_row k (map (values_at key) rows)) (has_row k (put_keys puts t)) both))

      by : (k : ARow) (b : Bool) → has_row k keys ≡ b → cond b (pick k) None ≡ pick k
      by k true e = refl
      by k false e = sym (nothing k e)

      each : (k : ARow) → row_at key k (rows_over key puts t rows) ≡ over puts (t, k) (row_at key k rows)
      each k = picked_at key pick keyed k (once row_cmp keys) ∙ ap (λ b. cond b (pick k) None) (any_once k keys) ∙ by k (has_row k keys) refl
