-- The steps of a merge of a table's rows and the writes on it.
use Rattle.std.proofs.Common.{◌≡◌, ℕ, zero, suc, ◌+◌, ◌≤◌, Bool, true, false, ◌&&◌, List, [], ◌∷◌, ◌++◌, drop, Option, Some, None, refl, sym, ap, ◌∙◌, subst, append_assoc, arith}
use Rattle.std.specs.Prelude.{◌==◌, slice_get}
use Rattle.std.specs.List.{AllByRecursion, cons_option}
use Rattle.std.specs.Ordering.{is_eq, is_gt, ordering_reverse}
use Rattle.std.specs.declared.cmp.Ordering.{Ordering}
use Rattle.std.specs.declared.cmp.Ordering.TheVariants.{Less, Equal, Greater}
use Rattle.std.proofs.lemmas.List.{append-nil}
use Rattle.lv_values.specs.declared.value.Value.{Value}
use Rattle.lv_values.specs.Order.{row_cmp}
use Rattle.lv_values.specs.OrderLaws.{row_total, row_exact}
use Rattle.lv_values.specs.Rows.{values_at, key_cmp}
use Rattle.lv_schema.specs.Commits.{place_cmp}
use Rattle.lv_schema.specs.Once.{Ascends}
use Rattle.lv_schema.proofs.Apart.{all_weaker}
use Rattle.lv_overlay.specs.declared.put.Put.{Put}
use Rattle.lv_overlay.specs.Ordered.{put_place, put_cmp, is_less, is_of, is_same, AreFrom}
use Rattle.lv_overlay.specs.Puts.{rows_over}
use Rattle.lv_overlay.proofs.Cutting.{above_through}
use Rattle.lv_overlay.proofs.Places.{and_left, and_right, in_table, same_number}
use Rattle.lv_overlay.proofs.RowsOver.{row_first, put_first, put_over, all_later, rows_alone}

abbrev ARow : Type 0
ARow = List Value

drop_suc : (puts : List Put) (at : ℕ) (q : Put) → slice_get puts at ≡ Some q → drop at puts ≡ q ∷ drop (suc at) puts
drop_suc [] at q e = cc
drop_suc (r ∷ puts) zero q e = let one : r ≡ q = cc in ap (λ s. s ∷ puts) one
drop_suc (r ∷ puts) (suc at) q e = drop_suc puts at q e

drop_there : (puts : List Put) (at : ℕ) (q : Put) → slice_get puts at ≡ Some q → drop at puts ≡ q ∷ drop (at + 1) puts
drop_there puts at q e = let one : suc at ≡ at + 1 = omega arith in drop_suc puts at q e ∙ ap (λ n. q ∷ drop n puts) one

drop_none : (puts : List Put) (at : ℕ) → slice_get puts at ≡ None → drop at puts ≡ []
drop_none [] zero e = refl
drop_none [] (suc at) e = refl
drop_none (r ∷ puts) zero e = cc
drop_none (r ∷ puts) (suc at) e = drop_none puts at e

up_drop : (n : ℕ) (puts : List Put) → Ascends put_cmp puts → Ascends put_cmp (drop n puts)
up_drop zero puts up = up
up_drop (suc n) [] up = tt
up_drop (suc n) (q ∷ puts) up = up_drop n puts up.1

next_suc : (P : Put → Type 0) (n : ℕ) (puts : List Put) → AllByRecursion P (drop n puts) → AllByRecursion P (drop (suc n) puts)
next_suc P zero [] a = tt
next_suc P zero (q ∷ puts) a = a.1
next_suc P (suc n) [] a = tt
next_suc P (suc n) (q ∷ puts) a = next_suc P n puts a

pub from_next : (t n : ℕ) (puts : List Put) → AreFrom t (drop n puts) → AreFrom t (drop (n + 1) puts)
from_next t n puts a = let one : suc n ≡ n + 1 = omega arith in subst (λ m. AreFrom t (drop m puts)) one (next_suc (λ q. t ≤ q.table) n puts a)

less_turned : (k q : ARow) → is_gt (row_cmp k q) ≡ true → row_cmp q k ≡ Less
less_turned k q h = row_total.antisymm q k ∙ by (row_cmp k q) h
  where
    by : (o : Ordering) → is_gt o ≡ true → ordering_reverse o ≡ Less
    by Less e = cc
    by Equal e = cc
    by Greater e = refl

equal_of : (k q : ARow) → is_eq (row_cmp k q) ≡ true → k ≡ q
equal_of k q h = row_exact k q (by (row_cmp k q) h)
  where
    by : (o : Ordering) → is_eq o ≡ true → o ≡ Equal
    by Less e = cc
    by Equal e = refl
    by Greater e = cc

less_of : (k q : ARow) → is_gt (row_cmp k q) ≡ false → is_eq (row_cmp k q) ≡ false → row_cmp k q ≡ Less
less_of k q g e = by (row_cmp k q) g e
  where
    by : (o : Ordering) → is_gt o ≡ false → is_eq o ≡ false → o ≡ Less
    by Less g e = refl
    by Equal g e = cc
    by Greater g e = cc

-- a row that a write left goes behind the others
one_row : (x : Option ARow) (rows after others : List ARow) → after ≡ rows ++ cons_option x [] → after ++ others ≡ rows ++ cons_option x others
one_row x rows after others e = ap (λ l. l ++ others) e ∙ append_assoc rows (cons_option x []) others ∙ ap (λ l. rows ++ l) (by x)
  where
    by : (y : Option ARow) → cons_option y [] ++ others ≡ cons_option y others
    by None = refl
    by (Some row) = refl

module _ (key : List ℕ) (t : ℕ) (puts : List Put) (at : ℕ) (up : Ascends put_cmp puts) where
  -- the write at the place comes first
  written : (q : Put) (rows after left : List ARow) → slice_get puts at ≡ Some q → after ≡ rows ++ cons_option q.row [] → rows_over key (q ∷ drop (at + 1) puts) t left ≡ cons_option q.row (rows_over key (drop (at + 1) puts) t left)
      → after ++ rows_over key (drop (at + 1) puts) t left ≡ rows ++ rows_over key (drop at puts) t left
  written q rows after left e made first =
      one_row q.row rows after (rows_over key (drop (at + 1) puts) t left) made
      ∙ ap (λ l. rows ++ l) (sym first ∙ ap (λ ps. rows_over key ps t left) (sym (drop_there puts at q e)))

  up_from : (q : Put) → slice_get puts at ≡ Some q → Ascends put_cmp (q ∷ drop (at + 1) puts)
  up_from q e = subst (Ascends put_cmp) (drop_there puts at q e) (up_drop at puts up)

  pub before_step : (row : ARow) (others rows after : List ARow) → is_less t (values_at key row) (slice_get puts at) ≡ true → ((q : Put) → slice_get puts at ≡ Some q → after ≡ rows ++ cons_option q.row [])
      → Ascends (key_cmp key) (row ∷ others) → after ++ rows_over key (drop (at + 1) puts) t (row ∷ others) ≡ rows ++ rows_over key (drop at puts) t (row ∷ others)
  before_step row others rows after less made rise = by (slice_get puts at) refl less
    where
      by : (o : Option Put) → slice_get puts at ≡ o → is_less t (values_at key row) o ≡ true → after ++ rows_over key (drop (at + 1) puts) t (row ∷ others) ≡ rows ++ rows_over key (drop at puts) t (row ∷ others)
      by None e l = cc
      by (Some q) e l =
          let first = less_turned (values_at key row) q.key (and_right (t == q.table) _ l) in
          let below : AllByRecursion (λ r. row_cmp q.key (values_at key r) ≡ Less) (row ∷ others) =
          (first, all_weaker (λ r. key_cmp key row r ≡ Less) (λ r. row_cmp q.key (values_at key r) ≡ Less) (λ r. row_total.trans q.key (values_at key row) (values_at key r) first) others rise.0) in
          written q rows after (row ∷ others) e (made q e) (put_first key t q (drop (at + 1) puts) (row ∷ others) (sym (same_number t q.table (and_left _ _ l))) (up_from q e) below)

  pub over_step : (row : ARow) (others rows after : List ARow) → is_same t (values_at key row) (slice_get puts at) ≡ true → ((q : Put) → slice_get puts at ≡ Some q → after ≡ rows ++ cons_option q.row [])
      → Ascends (key_cmp key) (row ∷ others) → after ++ rows_over key (drop (at + 1) puts) t others ≡ rows ++ rows_over key (drop at puts) t (row ∷ others)
  over_step row others rows after same made rise = by (slice_get puts at) refl same
    where
      by : (o : Option Put) → slice_get puts at ≡ o → is_same t (values_at key row) o ≡ true → after ++ rows_over key (drop (at + 1) puts) t others ≡ rows ++ rows_over key (drop at puts) t (row ∷ others)
      by None e l = cc
      by (Some q) e l =
          one_row q.row rows after (rows_over key (drop (at + 1) puts) t others) (made q e)
          ∙ ap (λ l. rows ++ l)
          (sym (put_over key t q (drop (at + 1) puts) row others (sym (same_number t q.table (and_left _ _ l))) (up_from q e) rise (equal_of (values_at key row) q.key (and_right (t == q.table) _ l)))
          ∙ ap (λ ps. rows_over key ps t (row ∷ others)) (sym (drop_there puts at q e)))

  -- every write that is left comes after the row
  behind : (k : ARow) → AreFrom t (drop at puts) → is_less t k (slice_get puts at) ≡ false → is_same t k (slice_get puts at) ≡ false → AllByRecursion (λ q. place_cmp (t, k) (put_place q) ≡ Less) (drop at puts)
  behind k from less same = by (slice_get puts at) refl less same
    where
      by : (o : Option Put) → slice_get puts at ≡ o → is_less t k o ≡ false → is_same t k o ≡ false → AllByRecursion (λ q. place_cmp (t, k) (put_place q) ≡ Less) (drop at puts)
      by None e l s = subst (AllByRecursion (λ q. place_cmp (t, k) (put_place q) ≡ Less)) (sym (drop_none puts at e)) tt
      by (Some q) e l s = subst (AllByRecursion (λ r. place_cmp (t, k) (put_place r) ≡ Less)) (sym (drop_there puts at q e)) (at_table (t == q.table) refl l s)
        where
          up' : Ascends put_cmp (q ∷ drop (at + 1) puts)
          up' = up_from q e

          at_table : (b : Bool) → (t == q.table) ≡ b → (b && is_gt (row_cmp k q.key)) ≡ false → (b && is_eq (row_cmp k q.key)) ≡ false → AllByRecursion (λ r. place_cmp (t, k) (put_place r) ≡ Less) (q ∷ drop (at + 1) puts)
          at_table true f g h =
              let first : place_cmp (t, k) (put_place q) ≡ Less = subst (λ u. place_cmp (t, k) (u, q.key) ≡ Less) (same_number t q.table f) (in_table t k q.key ∙ less_of k q.key g h) in
              (first, above_through (t, k) q (drop (at + 1) puts) first up'.0)
          at_table false f g h = all_later key t k (q ∷ drop (at + 1) puts) (subst (AreFrom t) (drop_there puts at q e) from) up' f

  pub row_step : (row : ARow) (others rows after : List ARow) → AreFrom t (drop at puts) → is_less t (values_at key row) (slice_get puts at) ≡ false → is_same t (values_at key row) (slice_get puts at) ≡ false → after ≡ rows ++ row ∷ []
      → Ascends (key_cmp key) (row ∷ others) → after ++ rows_over key (drop at puts) t others ≡ rows ++ rows_over key (drop at puts) t (row ∷ others)
  row_step row others rows after from less same made rise =
      ap (λ l. l ++ rows_over key (drop at puts) t others) made
      ∙ append_assoc rows (row ∷ []) (rows_over key (drop at puts) t others)
      ∙ ap (λ l. rows ++ l) (sym (row_first key t (drop at puts) row others rise (behind (values_at key row) from less same)))

  -- behind the last row
  pub rest_step : (rows after : List ARow) → is_of t (slice_get puts at) ≡ true → ((q : Put) → slice_get puts at ≡ Some q → after ≡ rows ++ cons_option q.row []) → after ++ rows_over key (drop (at + 1) puts) t [] ≡ rows ++ rows_over key (drop at puts) t []
  rest_step rows after own made = by (slice_get puts at) refl own
    where
      by : (o : Option Put) → slice_get puts at ≡ o → is_of t o ≡ true → after ++ rows_over key (drop (at + 1) puts) t [] ≡ rows ++ rows_over key (drop at puts) t []
      by None e l = cc
      by (Some q) e l = written q rows after [] e (made q e) (put_first key t q (drop (at + 1) puts) [] (sym (same_number t q.table l)) (up_from q e) tt)

  none_left : is_of t (slice_get puts at) ≡ false → is_of t (slice_get (drop at puts) 0) ≡ false
  none_left own = by (slice_get puts at) refl own
    where
      by : (o : Option Put) → slice_get puts at ≡ o → is_of t o ≡ false → is_of t (slice_get (drop at puts) 0) ≡ false
      by None e f = ap (λ ps. is_of t (slice_get ps 0)) (drop_none puts at e)
      by (Some q) e f = ap (λ ps. is_of t (slice_get ps 0)) (drop_there puts at q e) ∙ f

  pub alone : (rows : List ARow) → AreFrom t (drop at puts) → is_of t (slice_get puts at) ≡ false → Ascends (key_cmp key) rows → rows_over key (drop at puts) t rows ≡ rows
  alone rows from own rise = rows_alone key t (drop at puts) rows from (up_drop at puts up) (none_left own) rise

  pub rest_end : (rows all : List ARow) → AreFrom t (drop at puts) → is_of t (slice_get puts at) ≡ false → rows ++ rows_over key (drop at puts) t [] ≡ all → rows ≡ all
  rest_end rows all from own e = sym (append-nil rows) ∙ ap (λ l. rows ++ l) (sym (alone [] from own tt)) ∙ e
