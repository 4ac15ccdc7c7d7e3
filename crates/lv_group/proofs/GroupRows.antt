-- The rows that the groups of a view give are the view's.
use Rattle.std.proofs.Common.{◌≡◌, ℕ, ◌≤◌, ◌^◌, ℤ, pos, Bool, true, false, cond, ◌&&◌, ◌||◌, List, [], ◌∷◌, map, filter, length, refl, sym, ap, ◌∙◌, arith}
use Rattle.std.specs.Prelude.{slice_index_or, ◌==◌}
use Rattle.std.proofs.lemmas.Bool.Decides.{nat_tests}
use Rattle.std.specs.List.{list_any, list_all, filter_map, AllByRecursion}
use Rattle.std.specs.Int.{int_wrap, w128}
use Rattle.std.specs.declared.cmp.Ordering.TheVariants.{Less, Equal, Greater}
use Rattle.std.specs.FinMap.Entries.{by_order}
use Rattle.lv_values.specs.declared.value.Value.{Value}
use Rattle.lv_values.specs.declared.value.Value.TheVariants.{Num}
use Rattle.lv_values.specs.Ascending.{ascending}
use Rattle.lv_values.specs.Order.{row_cmp, row_eq}
use Rattle.lv_values.specs.OrderLaws.{row_exact}
use Rattle.lv_schema.specs.declared.cond.Col.{Col}
use Rattle.lv_schema.specs.declared.signed.SignedRow.{SignedRow}
use Rattle.lv_schema.specs.declared.view.Item.{Item}
use Rattle.lv_schema.specs.declared.view.Item.TheVariants.{Plain, Sum, Count}
use Rattle.lv_schema.specs.declared.view.ViewDef.{ViewDef}
use Rattle.lv_schema.specs.Bound.{same_col, has_col}
use Rattle.lv_schema.specs.Databases.{is_int}
use Rattle.lv_schema.specs.Differences.{summed_column, summed_columns, key_of, tuples_of, change_of, groups_over}
use Rattle.lv_schema.specs.Groups.{total, number_at, members, item_value, group_row, grouped_rows}
use Rattle.lv_schema.specs.JoinViews.{selected, plain_columns}
use Rattle.lv_schema.specs.Once.{put_once, once}
use Rattle.lv_schema.specs.Tuples.{Tuple, value_at, listed}
use Rattle.lv_schema.proofs.OnceLists.{is_equal}
use Rattle.lv_group.specs.Gathered.{Gathered, IsOfView, AreInts, group_value, listed_values, rows_of}
use Rattle.lv_group.proofs.Bounds.{AllInts, sum_fits}
use Rattle.lv_group.proofs.Groupings.{map_twice, minus_none, key_by, all_in, all_present}

abbrev Group : Type 0
Group = List Value

and_left : (a b : Bool) → (a && b) ≡ true → a ≡ true
and_left true b e = refl
and_left false b e = e

and_right : (a b : Bool) → (a && b) ≡ true → b ≡ true
and_right true b e = e
and_right false b e = cc

-- ---- the value of a group column
eq_of : (a b : ℕ) → (a == b) ≡ true → a ≡ b
eq_of a b h = grind (arith, nat_tests)

col_of : (a b : Col) → same_col a b ≡ true → a ≡ b
col_of a b h =
    let alias = eq_of a.alias b.alias (and_left _ _ h) in
    let column = eq_of a.column b.column (and_right (a.alias == b.alias) _ h) in
    λ i. record { alias = alias i; column = column i }

value_of_group : (by : List Col) (tuple : Tuple) (col : Col) → has_col col by ≡ true → group_value by (listed by tuple) col ≡ value_at tuple col
value_of_group [] tuple col h = cc
value_of_group (c ∷ by) tuple col h = case (same_col col c) refl h (value_of_group by tuple col)
  where
    case : (b : Bool) → same_col col c ≡ b → (b || has_col col by) ≡ true → (has_col col by ≡ true → group_value by (listed by tuple) col ≡ value_at tuple col)
        → cond b (value_at tuple c) (group_value by (listed by tuple) col) ≡ value_at tuple col
    case true e k rest = ap (value_at tuple) (sym (col_of col c e))
    case false e k rest = rest k

-- the first tuple of a group is of it
first_of : (by : List Col) (q : Group) (ts : List Tuple) → list_any (row_eq q) (map (listed by) ts) ≡ true → listed by (slice_index_or (filter (λ t. row_eq q (listed by t)) ts) 0 []) ≡ q
first_of by q [] h = cc
first_of by q (t ∷ ts) h = case (row_eq q (listed by t)) refl h (first_of by q ts)
  where
    case : (b : Bool) → row_eq q (listed by t) ≡ b → (b || list_any (row_eq q) (map (listed by) ts)) ≡ true
        → (list_any (row_eq q) (map (listed by) ts) ≡ true → listed by (slice_index_or (filter (λ t. row_eq q (listed by t)) ts) 0 []) ≡ q)
        → listed by (slice_index_or (cond b (t ∷ filter (λ t. row_eq q (listed by t)) ts) (filter (λ t. row_eq q (listed by t)) ts)) 0 []) ≡ q
    case true e k rest = sym (row_exact q (listed by t) (is_equal _ e))
    case false e k rest = rest k

-- ---- the listed values of a group
values_listed : (by : List Col) (group : SignedRow) (mine : List Tuple) (s : Col → ℤ) (items : List Item) →
    ((col : Col) → has_col col by ≡ true → group_value by group.row col ≡ value_at (slice_index_or mine 0 []) col) → group.count ≡ pos (length mine)
    → list_all (λ col. has_col col by) (plain_columns items) ≡ true → AllByRecursion (λ col. s col ≡ total (number_at col) mine) (filter_map summed_column items)
    → listed_values by group items (map s (filter_map summed_column items)) ≡ map (item_value mine) items
values_listed by group mine s [] own count h fits = refl
values_listed by group mine s (Plain col name ∷ items) own count h fits =
    λ i. own col (and_left _ _ h) i ∷ values_listed by group mine s items own count (and_right (has_col col by) _ h) fits i
values_listed by group mine s (Sum col name ∷ items) own count h fits =
    λ i. Num (fits.0 i) ∷ values_listed by group mine s items own count h fits.1 i
values_listed by group mine s (Count name ∷ items) own count h fits =
    λ i. Num (count i) ∷ values_listed by group mine s items own count h fits i

-- ---- sums fit
ints_filter : {X : Type 0} (f : X → ℤ) (p : X → Bool) (xs : List X) → AllInts f xs → AllInts f (filter p xs)
ints_filter f p [] a = tt
ints_filter {X} f p (x ∷ xs) a = case (p x) (ints_filter f p xs a.1)
  where
    case : (b : Bool) → AllInts f (filter p xs) → AllInts f (cond b (x ∷ filter p xs) (filter p xs))
    case true r = (a.0, r)
    case false r = r

fewer : {X : Type 0} (p : X → Bool) (xs : List X) → length (filter p xs) ≤ length xs
fewer p [] = omega arith
fewer {X} p (x ∷ xs) = case (p x) (fewer p xs)
  where
    case : (b : Bool) → length (filter p xs) ≤ length xs → length (cond b (x ∷ filter p xs) (filter p xs)) ≤ length (x ∷ xs)
    case true r = omega arith
    case false r = omega arith

first_ints : (cols : List Col) (col : Col) (ts : List Tuple) → AllByRecursion (λ t. list_all (λ c. is_int (number_at c t)) (col ∷ cols) ≡ true) ts → AllInts (number_at col) ts
first_ints cols col [] a = tt
first_ints cols col (t ∷ ts) a = (and_left _ _ a.0, first_ints cols col ts a.1)

other_ints : (cols : List Col) (col : Col) (ts : List Tuple) → AllByRecursion (λ t. list_all (λ c. is_int (number_at c t)) (col ∷ cols) ≡ true) ts → AllByRecursion (λ t. list_all (λ c. is_int (number_at c t)) cols ≡ true) ts
other_ints cols col [] a = tt
other_ints cols col (t ∷ ts) a = (and_right (is_int (number_at col t)) _ a.0, other_ints cols col ts a.1)

sums_fit : (cols : List Col) (p : Tuple → Bool) (ts : List Tuple) → AllByRecursion (λ t. list_all (λ c. is_int (number_at c t)) cols ≡ true) ts → length ts ≤ 2 ^ 64
    → AllByRecursion (λ col. int_wrap w128 (total (number_at col) (filter p ts)) ≡ total (number_at col) (filter p ts)) cols
sums_fit [] p ts a few = tt
sums_fit (col ∷ cols) p ts a few = (
  sum_fits (number_at col) (filter p ts) (ints_filter (number_at col) p ts (first_ints cols col ts a)) (omega (arith, few, fewer p ts)),
  sums_fit cols p ts (other_ints cols col ts a) few,
)

weaker : (P Q : Col → Type 0) → ((c : Col) → P c → Q c) → (cols : List Col) → AllByRecursion P cols → AllByRecursion Q cols
weaker P Q f [] h = tt
weaker P Q f (c ∷ cols) h = (f c h.0, weaker P Q f cols h.1)

-- ---- a group's row
group_listed : (view : ViewDef) (ts : List Tuple) (q : Group) → view.grouped ≡ true → list_all (λ col. has_col col view.groups) (plain_columns view.items) ≡ true → AreInts view ts → length ts ≤ 2 ^ 64
    → list_any (row_eq q) (map (listed view.groups) ts) ≡ true
    → listed_values view.groups (change_of view [] ts q) view.items (change_of view [] ts q).sums ≡ group_row view ts q
group_listed view ts q grouped plain ints few h =
    let mine = members view q ts in
    let same : tuples_of view q ts ≡ mine = λ i. filter (λ t. row_eq q (listed (key_by view grouped i) t)) ts in
    let first : listed view.groups (slice_index_or mine 0 []) ≡ q = first_of view.groups q ts h in
    values_listed view.groups (change_of view [] ts q) mine _ view.items
    (λ col has. ap (λ g. group_value view.groups g col) (sym first) ∙ value_of_group view.groups (slice_index_or mine 0 []) col has)
    (minus_none _ ∙ ap (λ l. pos (length l)) same)
    plain
    (weaker (λ col. int_wrap w128 (total (number_at col) mine) ≡ total (number_at col) mine) _
    (λ col e. ap (int_wrap w128) (minus_none _) ∙ ap (λ l. int_wrap w128 (total (number_at col) l)) same ∙ e)
    (summed_columns view) (sums_fit (summed_columns view) (λ t. row_eq q (listed view.groups t)) ts ints few))

-- ---- all groups
all_put : (P : Group → Type 0) (x : Group) (ys : List Group) → P x → AllByRecursion P ys → AllByRecursion P (put_once row_cmp x ys)
all_put P x [] a b = (a, tt)
all_put P x (y ∷ ys) a b =
    elim (row_cmp x y) as (λ r. AllByRecursion P (by_order r (x ∷ y ∷ ys) (y ∷ ys) (y ∷ put_once row_cmp x ys))) [
      | Less ↦ (a, b)
      | Equal ↦ b
      | Greater ↦ (b.0, all_put P x ys a b.1)
    ]

all_once : (P : Group → Type 0) (xs : List Group) → AllByRecursion P xs → AllByRecursion P (once row_cmp xs)
all_once P [] a = tt
all_once P (x ∷ xs) a = all_put P x (once row_cmp xs) a.0 (all_once P xs a.1)

map_within : {X Y : Type 0} (P : X → Type 0) (f g : X → Y) (xs : List X) → AllByRecursion P xs → ((x : X) → P x → f x ≡ g x) → map f xs ≡ map g xs
map_within P f g [] a same = refl
map_within P f g (x ∷ xs) a same = λ i. same x a.0 i ∷ map_within P f g xs a.1 same i

pub rows_are : (view : ViewDef) (parts : List (List Group)) (g : Gathered) → view.grouped ≡ true
    → list_all (λ col. has_col col view.groups) (plain_columns view.items) ≡ true
    → AreInts view (selected view.cond parts) → length (selected view.cond parts) ≤ 2 ^ 64
    → IsOfView view g → g.groups ≡ groups_over view parts → rows_of g ≡ grouped_rows view parts
rows_are view parts g grouped plain ints few of_view are =
    let ts = selected view.cond parts in
    let row : SignedRow → Group = λ s. listed_values view.groups s view.items s.sums in
    let keys = map (listed view.groups) ts in
    let known : AllByRecursion (λ q. list_any (row_eq q) keys ≡ true) (once row_cmp keys) = all_once (λ q. list_any (row_eq q) keys ≡ true) keys (all_in [] keys) in
    (λ i. ascending row_cmp (map (λ s. listed_values (of_view.by i) s (of_view.items i) s.sums) (are i)))
    ∙ ap (λ l. ascending row_cmp (map row l)) (all_present view ts)
    ∙ ap (ascending row_cmp)
    (map_twice row (change_of view [] ts) (once row_cmp (map (key_of view) ts))
    ∙ (λ i. map (λ q. row (change_of view [] ts q)) (once row_cmp (map (listed (key_by view grouped i)) ts)))
    ∙ map_within (λ q. list_any (row_eq q) keys ≡ true) (λ q. row (change_of view [] ts q)) (group_row view ts) (once row_cmp keys) known
    (λ q h. group_listed view ts q grouped plain ints few h))
