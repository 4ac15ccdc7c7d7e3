-- The order of the entries changes no tally, and a tally without the entries whose numbers are all 0 is the list added
-- up.
use Rattle.std.proofs.Common.{◌≡◌, ℕ, ℤ, pos, Bool, true, false, cond, ◌&&◌, Some, None, List, [], ◌∷◌, ◌++◌, map, filter, length, refl, sym, ap, ap₂, ◌∙◌, subst}
use Rattle.std.proofs.lemmas.Int.{int_wrap_fits}
use Rattle.std.proofs.lemmas.List.FromFn.{length-map-range_with_len}
use Rattle.std.proofs.lemmas.List.Elements.{All-from_recursion, recursion_from_All}
use Rattle.std.proofs.lemmas.List.Sorted.{list_any-IsPermutation, IsPermutation-map, IsPermutation-to_front, All-permutation}
use Rattle.std.proofs.lemmas.Map.Views.{any-filter_same}
use Rattle.std.specs.List.{list_any, range_with_len, AllByRecursion}
use Rattle.std.specs.List.Sorted.{IsPermutation}
use Rattle.std.specs.Int.{int_wrap, w128}
use Rattle.std.specs.declared.cmp.Ordering.TheVariants.{Less}
use Rattle.lv_values.specs.Order.{row_cmp, row_eq}
use Rattle.lv_values.specs.OrderLaws.{row_total, row_exact}
use Rattle.lv_schema.specs.declared.signed.SignedRow.{SignedRow}
use Rattle.lv_schema.specs.Differences.{is_change}
use Rattle.lv_schema.specs.Groups.{total}
use Rattle.lv_schema.specs.Once.{Ascends, once}
use Rattle.lv_schema.specs.SignedRows.{entries_of, summed, netted}
use Rattle.lv_schema.proofs.Apart.{all_map, all_filter, all_true, all_weaker}
use Rattle.lv_schema.proofs.ChangeLists.{ARow, sum_place}
use Rattle.lv_schema.proofs.DifferencesAddUp.{any_once}
use Rattle.lv_schema.proofs.NetsLead.{same_row, only_rows}
use Rattle.lv_schema.proofs.OnceLists.{once_up, same_tables}
use Rattle.lv_schema.proofs.Reordered.{total_moved}
use Rattle.lv_schema.proofs.Totals.{total-filter}
use Rattle.lv_schema.proofs.ViewRows.{all_once}
use Rattle.lv_bags.specs.Bags.{width, HaveSums, CountsFit}
use Rattle.lv_bags.specs.Tallies.{wrapped, tallied, Rising}

abbrev number_at : ℕ → List SignedRow → ARow → SignedRow
number_at n xs row = wrapped n row (entries_of row xs)

abbrev rows_of : List SignedRow → List ARow
rows_of xs = map (λ (s : SignedRow). s.row) xs

-- ---- what a tally is like
pub rising_map : (at : ARow → SignedRow) → ((q : ARow) → (at q).row ≡ q) → (ks : List ARow) → Ascends row_cmp ks → Rising (map at ks)
rising_map at named [] a = tt
rising_map at named (k ∷ ks) a = (
  all_map at (λ (s : SignedRow). row_cmp (at k).row s.row ≡ Less) ks (all_weaker (λ y. row_cmp k y ≡ Less) (λ y. row_cmp (at k).row (at y).row ≡ Less) (λ y e. ap₂ row_cmp (named k) (named y) ∙ e) ks a.0),
  rising_map at named ks a.1,
)

pub tally_rises : (n : ℕ) (xs : List SignedRow) → Rising (tallied n xs)
tally_rises n xs = rising_map (number_at n xs) (λ q. refl) (once row_cmp (rows_of xs)) (once_up row_total (rows_of xs))

pub tally_has_sums : (n : ℕ) (xs : List SignedRow) → HaveSums n (tallied n xs)
tally_has_sums n xs =
    all_map (number_at n xs) (λ (s : SignedRow). length s.sums ≡ n) (once row_cmp (rows_of xs))
    (all_true (λ q. length (number_at n xs q).sums ≡ n) (λ q. length-map-range_with_len (λ j. int_wrap w128 (total (sum_place j) (entries_of q xs))) 0 n) (once row_cmp (rows_of xs)))

-- what holds of the row of each entry holds of those of the tally
pub tally_rows : (P : ARow → Type 0) (n : ℕ) (xs : List SignedRow) → AllByRecursion (λ (s : SignedRow). P s.row) xs → AllByRecursion (λ (s : SignedRow). P s.row) (tallied n xs)
tally_rows P n xs h = all_map (number_at n xs) (λ (s : SignedRow). P s.row) (once row_cmp (rows_of xs)) (all_once P (rows_of xs) (all_map (λ (s : SignedRow). s.row) P xs h))

-- ---- the order of the entries
same_numbers : (n : ℕ) (q : ARow) (es fs : List SignedRow) → ((f : SignedRow → ℤ) → total f es ≡ total f fs) → wrapped n q es ≡ wrapped n q fs
same_numbers n q es fs same = λ i. record { row = q; count = int_wrap w128 (same (λ s. s.count) i); sums = map (λ j. int_wrap w128 (same (sum_place j) i)) (range_with_len 0 n) }

pub tallied_moved : (n : ℕ) (xs ys : List SignedRow) → IsPermutation xs ys → tallied n ys ≡ tallied n xs
tallied_moved n xs ys moved =
    same_tables row_total row_exact (number_at n ys) (number_at n xs) (rows_of ys) (rows_of xs)
    (λ q i. cond (sym (list_any-IsPermutation (row_eq q) (rows_of xs) (rows_of ys) (IsPermutation-map (λ (s : SignedRow). s.row) xs ys moved)) i) (Some (same_numbers n q (entries_of q ys) (entries_of q xs) (of_row q) i)) None)
  where
    of_row : (q : ARow) (f : SignedRow → ℤ) → total f (entries_of q ys) ≡ total f (entries_of q xs)
    of_row q f =
        total-filter f (λ s. row_eq q s.row) ys
        ∙ total_moved (λ (s : SignedRow). cond (row_eq q s.row) (f s) (pos 0)) xs ys moved
        ∙ sym (total-filter f (λ s. row_eq q s.row) xs)

pub tallied_last : (n : ℕ) (xs : List SignedRow) (s : SignedRow) → tallied n (xs ++ s ∷ []) ≡ tallied n (s ∷ xs)
tallied_last n xs s = sym (tallied_moved n (xs ++ s ∷ []) (s ∷ xs) (IsPermutation-to_front xs s))

-- ---- without those whose numbers are all 0
filter_map : {X Y : Type 0} (p : Y → Bool) (f : X → Y) (xs : List X) → filter p (map f xs) ≡ map f (filter (λ x. p (f x)) xs)
filter_map p f [] = refl
filter_map p f (x ∷ xs) = by (p (f x)) (filter_map p f xs)
  where
    by : (b : Bool) → filter p (map f xs) ≡ map f (filter (λ x. p (f x)) xs) → cond b (f x ∷ filter p (map f xs)) (filter p (map f xs)) ≡ map f (cond b (x ∷ filter (λ x. p (f x)) xs) (filter (λ x. p (f x)) xs))
    by true e = ap (λ l. f x ∷ l) e
    by false e = e

ascends_filter : (p : ARow → Bool) (xs : List ARow) → Ascends row_cmp xs → Ascends row_cmp (filter p xs)
ascends_filter p [] a = tt
ascends_filter p (x ∷ xs) a = by (p x) (ascends_filter p xs a.1)
  where
    by : (t : Bool) → Ascends row_cmp (filter p xs) → Ascends row_cmp (cond t (x ∷ filter p xs) (filter p xs))
    by true r = (all_filter (λ y. row_cmp x y ≡ Less) p xs a.0, r)
    by false r = r

some_passing : (p : ARow → Bool) (q : ARow) (xs : List ARow) → list_any (row_eq q) (filter p xs) ≡ (p q && list_any (row_eq q) xs)
some_passing p q xs = any-filter_same (row_eq q) p (p q) (λ k h. ap p (sym (same_row q k h))) xs

filter_once : (p : ARow → Bool) (xs : List ARow) → filter p (once row_cmp xs) ≡ once row_cmp (filter p xs)
filter_once p xs =
    only_rows row_total (filter p (once row_cmp xs)) (once row_cmp (filter p xs))
    (ascends_filter p (once row_cmp xs) (once_up row_total xs))
    (once_up row_total (filter p xs))
    (λ q. some_passing p q (once row_cmp xs) ∙ ap (λ b. p q && b) (any_once q xs) ∙ sym (any_once q (filter p xs) ∙ some_passing p q xs))

map_same : {X Y : Type 0} (f g : X → Y) → ((x : X) → f x ≡ g x) → (xs : List X) → map f xs ≡ map g xs
map_same f g h [] = refl
map_same f g h (x ∷ xs) = λ i. h x i ∷ map_same f g h xs i

pub netted_is : (n : ℕ) (list : List SignedRow) → CountsFit list → filter is_change (tallied n list) ≡ netted n list
netted_is n list fit =
    ap (filter is_change) (map_same (number_at n list) (summed n list) (λ q i. record { row = q; count = int_wrap_fits w128 (total (λ s. s.count) (entries_of q list)) (fit q) i; sums = (summed n list q).sums }) (once row_cmp (rows_of list)))
    ∙ filter_map is_change (summed n list) (once row_cmp (rows_of list))
    ∙ ap (map (summed n list)) (filter_once (λ row. is_change (summed n list row)) (rows_of list))

-- ---- the number of sums
pub sums_moved : (n : ℕ) (xs ys : List SignedRow) → IsPermutation xs ys → HaveSums n xs → HaveSums n ys
sums_moved n xs ys moved h =
    recursion_from_All (λ (s : SignedRow). length s.sums ≡ n) ys
    (All-permutation (λ (s : SignedRow). length s.sums ≡ n) xs ys moved (All-from_recursion (λ (s : SignedRow). length s.sums ≡ n) xs h))

pub own_width : (n : ℕ) (xs : List SignedRow) → HaveSums n xs → HaveSums (width xs) xs
own_width n [] h = tt
own_width n (s ∷ xs) h = subst (λ m. HaveSums m (s ∷ xs)) (sym h.0) h

pub tallied_width : (n : ℕ) (xs : List SignedRow) → HaveSums n xs → tallied (width xs) xs ≡ tallied n xs
tallied_width n [] h = refl
tallied_width n (s ∷ xs) h = ap (λ m. tallied m (s ∷ xs)) h.0

pub netted_width : (n : ℕ) (xs : List SignedRow) → HaveSums n xs → netted (width xs) xs ≡ netted n xs
netted_width n [] h = refl
netted_width n (s ∷ xs) h = ap (λ m. netted m (s ∷ xs)) h.0

-- a sort, a tally and a filter add up
pub netted_sorted : (list sorted : List SignedRow) → IsPermutation list sorted → HaveSums (width list) list → CountsFit list → filter is_change (tallied (width sorted) sorted) ≡ netted (width list) list
netted_sorted list sorted moved h fit =
    ap (filter is_change) (tallied_width (width list) sorted (sums_moved (width list) list sorted moved h) ∙ tallied_moved (width list) list sorted moved)
    ∙ netted_is (width list) list fit
