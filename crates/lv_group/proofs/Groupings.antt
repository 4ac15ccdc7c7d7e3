-- The groups of sorted entries are those of the tuples.
use Rattle.std.proofs.Common.{◌≡◌, ℕ, ◌<◌, ℤ, pos, ◌-ℤ◌, Bool, true, false, cond, not, ◌&&◌, ◌||◌, if◌then◌else◌, List, [], ◌∷◌, ◌++◌, map, filter, length, Some, None, refl, sym, ap, ◌∙◌, subst, arith, append_assoc}
use Rattle.std.proofs.lemmas.Int.{ints}
use Rattle.std.proofs.lemmas.List.{length-map}
use Rattle.std.proofs.lemmas.List.Sorted.{sum_by-IsPermutation, IsPermutation-map, list_any-IsPermutation}
use Rattle.std.specs.List.{list_any, list_all, AllByRecursion}
use Rattle.std.specs.List.Sorted.{IsPermutation}
use Rattle.std.specs.Int.{int_wrap, w128}
use Rattle.std.specs.Ordering.{is_eq, int_eq}
use Rattle.std.specs.FinMap.{int_cmp-IsAntisymmetric}
use Rattle.std.proofs.lemmas.Cmp.{tied_itself}
use Rattle.std.proofs.lemmas.List.Folds.{list_any-append}
use Rattle.lv_values.specs.declared.value.Value.{Value}
use Rattle.lv_values.specs.Order.{row_cmp, row_eq}
use Rattle.lv_values.specs.OrderLaws.{row_total, row_exact}
use Rattle.lv_schema.specs.declared.cond.Col.{Col}
use Rattle.lv_schema.specs.declared.signed.SignedRow.{SignedRow}
use Rattle.lv_schema.specs.declared.view.ViewDef.{ViewDef}
use Rattle.lv_schema.specs.Differences.{summed_columns, key_columns, key_of, tuples_of, change_of, is_change}
use Rattle.lv_schema.specs.JoinViews.{plain_columns}
use Rattle.lv_schema.specs.Groups.{total, number_at}
use Rattle.lv_schema.specs.Once.{once}
use Rattle.lv_schema.specs.Tuples.{Tuple, listed}
use Rattle.lv_schema.proofs.OnceLists.{same_tables, is_equal}
use Rattle.lv_schema.proofs.Totals.{total-map, total-filter, total-ones}
use Rattle.lv_group.proofs.Bounds.{above, below, total_apart}
use Rattle.lv_group.specs.Entries.{AnEntry, group_of, entries_of, numbers_of, gathered}
use Rattle.lv_group.specs.Gathered.{groups_among}

abbrev Group : Type 0
Group = List Value

-- ---- totals do not depend on the order
pub total_moved : {X : Type 0} (f : X → ℤ) (xs ys : List X) → IsPermutation xs ys → total f ys ≡ total f xs
total_moved f xs ys p =
    total_apart f ys
    ∙ (λ i. pos (sum_by-IsPermutation (λ x. above (f x)) xs ys p i) -ℤ pos (sum_by-IsPermutation (λ x. below (f x)) xs ys p i))
    ∙ sym (total_apart f xs)

kept_moved : {X : Type 0} (p : X → Bool) (f : X → ℤ) (xs ys : List X) → IsPermutation xs ys → total f (filter p ys) ≡ total f (filter p xs)
kept_moved p f xs ys moved = total-filter f p ys ∙ total_moved (λ x. cond (p x) (f x) (pos 0)) xs ys moved ∙ sym (total-filter f p xs)

pub map_same : {X Y : Type 0} (f g : X → Y) → ((x : X) → f x ≡ g x) → (xs : List X) → map f xs ≡ map g xs
map_same f g h [] = refl
map_same f g h (x ∷ xs) = λ i. h x i ∷ map_same f g h xs i

-- ---- nor do the groups
numbers_moved : (sums : List Col) (q : Group) (xs ys : List AnEntry) → IsPermutation xs ys → numbers_of sums q (entries_of q ys) ≡ numbers_of sums q (entries_of q xs)
numbers_moved sums q xs ys moved =
    let own : AnEntry → Bool = λ e. row_eq q (group_of e) in
    let count : pos (length (filter own ys)) ≡ pos (length (filter own xs)) =
    sym (total-ones (filter own ys)) ∙ kept_moved own (λ _. pos 1) xs ys moved ∙ total-ones (filter own xs) in
    λ i. record {
      row = q;
      count = count i;
      sums = map_same (λ col. int_wrap w128 (total (λ e. number_at col e.1) (filter own ys))) (λ col. int_wrap w128 (total (λ e. number_at col e.1) (filter own xs)))
          (λ col. ap (int_wrap w128) (kept_moved own (λ e. number_at col e.1) xs ys moved)) sums i;
    }

pub gathered_moved : (sums : List Col) (xs ys : List AnEntry) → IsPermutation xs ys → gathered sums ys ≡ gathered sums xs
gathered_moved sums xs ys moved =
    same_tables row_total row_exact (λ q. numbers_of sums q (entries_of q ys)) (λ q. numbers_of sums q (entries_of q xs)) (map group_of ys) (map group_of xs)
    (λ q i. cond (sym (list_any-IsPermutation (row_eq q) (map group_of xs) (map group_of ys) (IsPermutation-map group_of xs ys moved)) i) (Some (numbers_moved sums q xs ys moved i)) None)

-- ---- the groups of tuples
abbrev pub entry : List Col → Tuple → AnEntry
entry by tuple = (by, tuple)

own_entries : (by : List Col) (q : Group) (ts : List Tuple) → entries_of q (map (entry by) ts) ≡ map (entry by) (filter (λ t. row_eq q (listed by t)) ts)
own_entries by q [] = refl
own_entries by q (t ∷ ts) = case (row_eq q (listed by t)) (own_entries by q ts)
  where
    case : (b : Bool) → entries_of q (map (entry by) ts) ≡ map (entry by) (filter (λ t. row_eq q (listed by t)) ts)
        → cond b (entry by t ∷ entries_of q (map (entry by) ts)) (entries_of q (map (entry by) ts)) ≡ map (entry by) (cond b (t ∷ filter (λ t. row_eq q (listed by t)) ts) (filter (λ t. row_eq q (listed by t)) ts))
    case true e = ap (λ l. entry by t ∷ l) e
    case false e = e

pub minus_none : (n : ℤ) → n -ℤ pos 0 ≡ n
minus_none n = omega (arith, ints)

pub key_by : (view : ViewDef) → view.grouped ≡ true → key_columns view ≡ view.groups
key_by view grouped = λ i. if grouped i then view.groups else plain_columns view.items

numbers_are : (view : ViewDef) (q : Group) (ts : List Tuple) → view.grouped ≡ true → numbers_of (summed_columns view) q (entries_of q (map (entry view.groups) ts)) ≡ change_of view [] ts q
numbers_are view q ts grouped =
    let mine = filter (λ t. row_eq q (listed view.groups t)) ts in
    let same : mine ≡ tuples_of view q ts = λ i. filter (λ t. row_eq q (listed (sym (key_by view grouped) i) t)) ts in
    let own : entries_of q (map (entry view.groups) ts) ≡ map (entry view.groups) (tuples_of view q ts) = own_entries view.groups q ts ∙ ap (map (entry view.groups)) same in
    let them = tuples_of view q ts in
    ap (numbers_of (summed_columns view) q) own
    ∙ λ i. record {
      row = q;
      count = (ap pos (length-map them (entry view.groups)) ∙ sym (minus_none (pos (length them)))) i;
      sums = map_same (λ col. int_wrap w128 (total (λ e. number_at col e.1) (map (entry view.groups) them))) (λ col. int_wrap w128 (total (number_at col) them -ℤ pos 0))
          (λ col. ap (int_wrap w128) (total-map (λ (e : AnEntry). number_at col e.1) (entry view.groups) them ∙ sym (minus_none (total (number_at col) them)))) (summed_columns view) i;
    }

-- ---- each group that has a tuple is listed
or_true : (a : Bool) → (a || true) ≡ true
or_true true = refl
or_true false = refl

pub all_in : (before rows : List Group) → AllByRecursion (λ q. list_any (row_eq q) (before ++ rows) ≡ true) rows
all_in before [] = tt
all_in before (q ∷ rows) = (
  list_any-append (row_eq q) before (q ∷ rows) ∙ (λ i. list_any (row_eq q) before || (is_eq (tied_itself row_total q i) || list_any (row_eq q) rows)) ∙ or_true (list_any (row_eq q) before),
  subst (λ l. AllByRecursion (λ q. list_any (row_eq q) l ≡ true) rows) (append_assoc before (q ∷ []) rows) (all_in (before ++ q ∷ []) rows),
)

some_tuple : (view : ViewDef) (q : Group) (ts : List Tuple) → list_any (row_eq q) (map (key_of view) ts) ≡ true → 0 < length (tuples_of view q ts)
some_tuple view q [] h = absurd (let e : false ≡ true = h in cc)
some_tuple view q (t ∷ ts) h = case (row_eq q (key_of view t)) h (λ k. some_tuple view q ts k)
  where
    case : (b : Bool) → (b || list_any (row_eq q) (map (key_of view) ts)) ≡ true → (list_any (row_eq q) (map (key_of view) ts) ≡ true → 0 < length (tuples_of view q ts))
        → 0 < length (cond b (t ∷ tuples_of view q ts) (tuples_of view q ts))
    case true h rest = omega arith
    case false h rest = rest h

positive : (n : ℕ) (b : Bool) → 0 < n → not (int_eq (pos n -ℤ pos 0) (pos 0) && b) ≡ true
positive n b h = case (int_eq (pos n -ℤ pos 0) (pos 0)) refl
  where
    case : (e : Bool) → int_eq (pos n -ℤ pos 0) (pos 0) ≡ e → not (e && b) ≡ true
    case true e = absurd (let z : pos n -ℤ pos 0 ≡ pos 0 = int_cmp-IsAntisymmetric _ _ (is_equal _ e) in omega (arith, ints, z))
    case false e = refl

filter_all : (p : Group → Bool) (rows : List Group) → AllByRecursion (λ q. p q ≡ true) rows → filter p rows ≡ rows
filter_all p [] h = refl
filter_all p (q ∷ rows) h = λ i. cond (h.0 i) (q ∷ filter_all p rows h.1 i) (filter_all p rows h.1 i)

weaker : (P Q : Group → Type 0) → ((q : Group) → P q → Q q) → (rows : List Group) → AllByRecursion P rows → AllByRecursion Q rows
weaker P Q f [] h = tt
weaker P Q f (q ∷ rows) h = (f q h.0, weaker P Q f rows h.1)

pub all_present : (view : ViewDef) (ts : List Tuple) → groups_among view ts ≡ map (change_of view [] ts) (once row_cmp (map (key_of view) ts))
all_present view ts =
    ap (λ l. map (change_of view [] ts) (once row_cmp l))
    (filter_all (λ q. is_change (change_of view [] ts q)) (map (key_of view) ts)
    (weaker (λ q. list_any (row_eq q) (map (key_of view) ts) ≡ true) (λ q. is_change (change_of view [] ts q) ≡ true)
    (λ q h. positive (length (tuples_of view q ts)) (list_all (λ n. int_eq n (pos 0)) (change_of view [] ts q).sums) (some_tuple view q ts h))
    (map (key_of view) ts) (all_in [] (map (key_of view) ts))))

pub map_twice : {X Y Z : Type 0} (f : Y → Z) (g : X → Y) (xs : List X) → map f (map g xs) ≡ map (λ x. f (g x)) xs
map_twice f g [] = refl
map_twice f g (x ∷ xs) = ap (λ l. f (g x) ∷ l) (map_twice f g xs)

pub gathered_are : (view : ViewDef) (ts : List Tuple) (entries sorted : List AnEntry) (groups : List SignedRow) → view.grouped ≡ true → entries ≡ map (entry view.groups) ts → IsPermutation entries sorted
    → groups ≡ gathered (summed_columns view) sorted → groups ≡ groups_among view ts
gathered_are view ts entries sorted groups grouped is moved made =
    let sums = summed_columns view in
    made
    ∙ gathered_moved sums entries sorted moved
    ∙ ap (gathered sums) is
    ∙ ap (map (λ q. numbers_of sums q (entries_of q (map (entry view.groups) ts))))
    (ap (once row_cmp) (map_twice group_of (entry view.groups) ts ∙ λ i. map (listed (sym (key_by view grouped) i)) ts))
    ∙ map_same (λ q. numbers_of sums q (entries_of q (map (entry view.groups) ts))) (change_of view [] ts) (λ q. numbers_are view q ts grouped) (once row_cmp (map (key_of view) ts))
    ∙ sym (all_present view ts)
