-- One entry more is put in its place; the order of the entries changes nothing; without those whose numbers are all 0
-- it is the list added up.
use Rattle.std.proofs.Common.{◌≡◌, ℕ, zero, suc, ◌<◌, ℤ, pos, ◌+ℤ◌, true, false, cond, ◌||◌, List, [], ◌∷◌, map, length, get_or, FitsSigned, refl, sym, ap, ◌∙◌, subst, arith}
use Rattle.std.proofs.lemmas.Int.{ints, int_wrap-add_right, int_wrap_fits}
use Rattle.std.proofs.lemmas.Cmp.{tied_itself}
use Rattle.std.proofs.lemmas.List.FromFn.{fill_by_all, length-map-range_with_len, get_or-map-range_with_len}
use Rattle.std.proofs.lemmas.List.Elements.{recursion_from_All}
use Rattle.std.specs.List.{list_any, range_with_len, All, AllByRecursion}
use Rattle.std.specs.Int.{int_wrap, w128}
use Rattle.std.specs.Ordering.{is_eq, ordering_reverse}
use Rattle.std.specs.declared.cmp.Ordering.{Ordering}
use Rattle.std.specs.declared.cmp.Ordering.TheVariants.{Less, Equal, Greater}
use Rattle.std.specs.FinMap.Entries.{by_order}
use Rattle.lv_values.specs.Order.{row_cmp, row_eq}
use Rattle.lv_values.specs.OrderLaws.{row_total, row_exact}
use Rattle.lv_schema.specs.declared.signed.SignedRow.{SignedRow}
use Rattle.lv_schema.specs.Groups.{total}
use Rattle.lv_schema.specs.Once.{Ascends, put_once, once}
use Rattle.lv_schema.specs.SignedRows.{entries_of}
use Rattle.lv_schema.proofs.ChangeLists.{ARow, sum_place}
use Rattle.lv_schema.proofs.DifferencesAddUp.{any_once}
use Rattle.lv_schema.proofs.OnceLists.{once_up}
use Rattle.lv_bags.specs.Tallies.{sums_added, both_of, put, wrapped, tallied, IsEntry, Rising}

-- ---- the entries of a row
own_other : (q : ARow) (s : SignedRow) (xs : List SignedRow) → row_eq q s.row ≡ false → entries_of q (s ∷ xs) ≡ entries_of q xs
own_other q s xs h = λ i. cond (h i) (s ∷ entries_of q xs) (entries_of q xs)

own_same : (s : SignedRow) (xs : List SignedRow) → entries_of s.row (s ∷ xs) ≡ s ∷ entries_of s.row xs
own_same s xs = λ i. cond (is_eq (tied_itself row_total s.row i)) (s ∷ entries_of s.row xs) (entries_of s.row xs)

none_own : (q : ARow) (xs : List SignedRow) → list_any (row_eq q) (map (λ s. s.row) xs) ≡ false → entries_of q xs ≡ []
none_own q [] h = refl
none_own q (s ∷ xs) h =
    elim (row_eq q s.row) as (λ b. (b || list_any (row_eq q) (map (λ s. s.row) xs)) ≡ false → cond b (s ∷ entries_of q xs) (entries_of q xs) ≡ []) [
      | true ↦ λ e. cc
      | false ↦ λ e. none_own q xs e
    ] h

-- ---- one entry, and one more
zero_more : (z : ℤ) → z +ℤ pos 0 ≡ z
zero_more z = omega (arith, ints)

fit_at : (xs : List ℤ) (j : ℕ) → j < length xs → AllByRecursion (λ x. int_wrap w128 x ≡ x) xs → int_wrap w128 (get_or xs j (pos 0)) ≡ get_or xs j (pos 0)
fit_at [] j h f = absurd (omega arith)
fit_at (x ∷ xs) zero h f = f.0
fit_at (x ∷ xs) (suc j) h f = fit_at xs j (omega arith) f.1

alone : (n : ℕ) (s : SignedRow) → IsEntry n s → wrapped n s.row (s ∷ []) ≡ s
alone n s e =
    let f : ℕ → ℤ = λ j. int_wrap w128 (get_or s.sums j (pos 0) +ℤ pos 0) in
    let count : int_wrap w128 (s.count +ℤ pos 0) ≡ s.count = ap (int_wrap w128) (zero_more s.count) ∙ e.count in
    let sums : s.sums ≡ map f (range_with_len 0 n) =
    fill_by_all f s.sums n (pos 0) e.wide (λ j h. sym (ap (int_wrap w128) (zero_more (get_or s.sums j (pos 0))) ∙ fit_at s.sums j (omega (arith, e.wide)) e.sums)) in
    λ i. record { row = s.row; count = count i; sums = sym sums i }

pub length-sums_added : (xs ys : List ℤ) → length xs ≡ length ys → length (sums_added xs ys) ≡ length xs
length-sums_added [] [] e = refl
length-sums_added [] (y ∷ ys) e = absurd (omega arith)
length-sums_added (x ∷ xs) [] e = refl
length-sums_added (x ∷ xs) (y ∷ ys) e = ap suc (length-sums_added xs ys (omega arith))

get_or-sums_added : (xs ys : List ℤ) (j : ℕ) → j < length xs → length xs ≡ length ys → get_or (sums_added xs ys) j (pos 0) ≡ int_wrap w128 (get_or xs j (pos 0) +ℤ get_or ys j (pos 0))
get_or-sums_added [] ys j h e = absurd (omega arith)
get_or-sums_added (x ∷ xs) [] j h e = absurd (omega arith)
get_or-sums_added (x ∷ xs) (y ∷ ys) zero h e = refl
get_or-sums_added (x ∷ xs) (y ∷ ys) (suc j) h e = get_or-sums_added xs ys j (omega arith) (omega arith)

one_more : (n : ℕ) (s : SignedRow) (es : List SignedRow) → length s.sums ≡ n → wrapped n s.row (s ∷ es) ≡ both_of s (wrapped n s.row es)
one_more n s es wide =
    let rest : ℕ → ℤ = λ j. total (sum_place j) es in
    let f : ℕ → ℤ = λ j. int_wrap w128 (get_or s.sums j (pos 0) +ℤ rest j) in
    let ys : List ℤ = map (λ j. int_wrap w128 (rest j)) (range_with_len 0 n) in
    let long : length ys ≡ n = length-map-range_with_len (λ j. int_wrap w128 (rest j)) 0 n in
    let at : (j : ℕ) → j < n → get_or (sums_added s.sums ys) j (pos 0) ≡ f j = λ j h.
    get_or-sums_added s.sums ys j (omega (arith, wide)) (wide ∙ sym long)
    ∙ ap (λ y. int_wrap w128 (get_or s.sums j (pos 0) +ℤ y)) (get_or-map-range_with_len (λ j. int_wrap w128 (rest j)) 0 n j j (pos 0) h (omega arith))
    ∙ int_wrap-add_right w128 (get_or s.sums j (pos 0)) (rest j) in
    let sums : sums_added s.sums ys ≡ map f (range_with_len 0 n) =
    fill_by_all f (sums_added s.sums ys) n (pos 0) (length-sums_added s.sums ys (wide ∙ sym long) ∙ wide) at in
    λ i. record { row = s.row; count = sym (int_wrap-add_right w128 s.count (total (λ e. e.count) es)) i; sums = sym sums i }

-- ---- one entry more, in its place
abbrev number_at : ℕ → List SignedRow → ARow → SignedRow
number_at n xs row = wrapped n row (entries_of row xs)

number_other : (n : ℕ) (s : SignedRow) (xs : List SignedRow) (q : ARow) → row_eq q s.row ≡ false → number_at n (s ∷ xs) q ≡ number_at n xs q
number_other n s xs q h = ap (wrapped n q) (own_other q s xs h)

abbrev Higher : ARow → List ARow → Type 0
Higher k ks = AllByRecursion (λ q. row_cmp k q ≡ Less) ks

turned : (k q : ARow) → row_cmp k q ≡ Less → row_eq q k ≡ false
turned k q l = ap is_eq (row_total.antisymm q k ∙ ap ordering_reverse l)

numbers_higher : (n : ℕ) (s : SignedRow) (xs : List SignedRow) (ks : List ARow) → Higher s.row ks → map (number_at n (s ∷ xs)) ks ≡ map (number_at n xs) ks
numbers_higher n s xs [] h = refl
numbers_higher n s xs (k ∷ ks) h = λ i. number_other n s xs k (turned s.row k h.0) i ∷ numbers_higher n s xs ks h.1 i

higher_through : (k q : ARow) (ks : List ARow) → row_cmp k q ≡ Less → Higher q ks → Higher k ks
higher_through k q [] l h = tt
higher_through k q (x ∷ ks) l h = (row_total.trans k q x l h.0, higher_through k q ks l h.1)

not_higher : (k : ARow) (ks : List ARow) → Higher k ks → list_any (row_eq k) ks ≡ false
not_higher k [] h = refl
not_higher k (x ∷ ks) h = (λ i. is_eq (h.0 i) || list_any (row_eq k) ks) ∙ not_higher k ks h.1

first_of : (n : ℕ) (s : SignedRow) (xs : List SignedRow) → IsEntry n s → entries_of s.row xs ≡ [] → number_at n (s ∷ xs) s.row ≡ s
first_of n s xs e none = ap (wrapped n s.row) (own_same s xs ∙ ap (λ l. s ∷ l) none) ∙ alone n s e

next_of : (n : ℕ) (s : SignedRow) (xs : List SignedRow) → IsEntry n s → number_at n (s ∷ xs) s.row ≡ both_of s (number_at n xs s.row)
next_of n s xs e = ap (wrapped n s.row) (own_same s xs) ∙ one_more n s (entries_of s.row xs) e.wide

put_numbers : (n : ℕ) (s : SignedRow) (xs : List SignedRow) → IsEntry n s → (ks : List ARow) → Ascends row_cmp ks → (list_any (row_eq s.row) ks ≡ false → entries_of s.row xs ≡ []) → map (number_at n (s ∷ xs)) (put_once row_cmp s.row ks) ≡ put s (map (number_at n xs) ks)
put_numbers n s xs e [] up none = ap (λ r. r ∷ []) (first_of n s xs e (none refl))
put_numbers n s xs e (k ∷ ks) up none = by (row_cmp s.row k) refl (put_numbers n s xs e ks up.1)
  where
    by : (r : Ordering) → row_cmp s.row k ≡ r → ((list_any (row_eq s.row) ks ≡ false → entries_of s.row xs ≡ []) → map (number_at n (s ∷ xs)) (put_once row_cmp s.row ks) ≡ put s (map (number_at n xs) ks))
        → map (number_at n (s ∷ xs)) (by_order r (s.row ∷ k ∷ ks) (k ∷ ks) (k ∷ put_once row_cmp s.row ks)) ≡ by_order r (s ∷ map (number_at n xs) (k ∷ ks)) (both_of s (number_at n xs k) ∷ map (number_at n xs) ks) (number_at n xs k ∷ put s (map (number_at n xs) ks))
    by Less l behind =
        let higher : Higher s.row (k ∷ ks) = (l, higher_through s.row k ks l up.0) in
        λ i. first_of n s xs e (none (not_higher s.row (k ∷ ks) higher)) i ∷ numbers_higher n s xs (k ∷ ks) higher i
    by Equal l behind =
        let same : s.row ≡ k = row_exact s.row k l in
        let higher : Higher s.row ks = subst (λ (q : ARow). Higher q ks) (sym same) up.0 in
        λ i. subst (λ (q : ARow). number_at n (s ∷ xs) q ≡ both_of s (number_at n xs q)) same (next_of n s xs e) i ∷ numbers_higher n s xs ks higher i
    by Greater l behind =
        let other : row_eq k s.row ≡ false = ap is_eq (row_total.antisymm k s.row ∙ ap ordering_reverse l) in
        λ i. number_other n s xs k other i ∷ behind (λ h. none ((λ j. is_eq (l j) || list_any (row_eq s.row) ks) ∙ h)) i

pub tallied_more : (n : ℕ) (s : SignedRow) (xs : List SignedRow) → IsEntry n s → tallied n (s ∷ xs) ≡ put s (tallied n xs)
tallied_more n s xs e =
    let rows = map (λ (s : SignedRow). s.row) xs in
    put_numbers n s xs e (once row_cmp rows) (once_up row_total rows) (λ h. none_own s.row xs (sym (any_once s.row rows) ∙ h))

-- entries that ascend are their own tally
pub tallied_rising : (n : ℕ) (list : List SignedRow) → Rising list → AllByRecursion (IsEntry n) list → tallied n list ≡ list
tallied_rising n [] up e = refl
tallied_rising n (s ∷ list) up e = tallied_more n s list e.0 ∙ ap (put s) (tallied_rising n list up.1 e.1) ∙ front s list up.0
  where
    front : (s : SignedRow) (list : List SignedRow) → AllByRecursion (λ (r : SignedRow). row_cmp s.row r.row ≡ Less) list → put s list ≡ s ∷ list
    front s [] a = refl
    front s (r ∷ rs) a = λ i. by_order (a.0 i) (s ∷ r ∷ rs) (both_of s r ∷ rs) (r ∷ put s rs)

pub entries_of_width : (n : ℕ) (list : List SignedRow) → AllByRecursion (λ (s : SignedRow). length s.sums ≡ n) list → AllByRecursion (λ (s : SignedRow). IsEntry (length s.sums) s) list → AllByRecursion (IsEntry n) list
entries_of_width n [] wide e = tt
entries_of_width n (s ∷ list) wide e = (subst (λ m. IsEntry m s) wide.0 e.0, entries_of_width n list wide.1 e.1)

-- ---- numbers of 128 bits
pub fits_all : (xs : List ℤ) → All (FitsSigned w128) xs → AllByRecursion (λ x. int_wrap w128 x ≡ x) xs
fits_all xs h = weaker xs (recursion_from_All (FitsSigned w128) xs h)
  where
    weaker : (xs : List ℤ) → AllByRecursion (FitsSigned w128) xs → AllByRecursion (λ x. int_wrap w128 x ≡ x) xs
    weaker [] h = tt
    weaker (x ∷ xs) h = (int_wrap_fits w128 x h.0, weaker xs h.1)
