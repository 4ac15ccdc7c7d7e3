-- Groups after changes: their counts fit, and they are groups again.
use Rattle.std.proofs.Common.{◌≡◌, ℕ, ◌<◌, ◌≤◌, ◌^◌, ℤ, pos, ◌+ℤ◌, Bool, true, false, cond, not, ◌&&◌, List, [], ◌∷◌, ◌++◌, map, filter, length, FitsSigned, refl, sym, ap, ◌∙◌, subst, arith}
use Rattle.std.proofs.lemmas.Int.{ints, int_wrap_fits, int_wrap-add_left, SFits-int_wrap}
use Rattle.std.proofs.lemmas.List.{length-map}
use Rattle.std.proofs.lemmas.List.Elements.{filter-append}
use Rattle.std.proofs.lemmas.List.FromFn.{length-map-range_with_len}
use Rattle.std.specs.FinMap.{int_cmp-IsAntisymmetric}
use Rattle.std.specs.List.{list_all, range_with_len, AllByRecursion}
use Rattle.std.specs.Int.{int_wrap, w128}
use Rattle.std.specs.Ordering.{int_eq, is_eq}
use Rattle.std.specs.declared.cmp.Ordering.TheVariants.{Less}
use Rattle.lv_values.specs.Order.{row_cmp, row_eq}
use Rattle.lv_values.specs.OrderLaws.{row_total}
use Rattle.lv_schema.specs.declared.cond.Col.{Col}
use Rattle.lv_schema.specs.declared.signed.SignedRow.{SignedRow}
use Rattle.lv_schema.specs.declared.view.ViewDef.{ViewDef}
use Rattle.lv_schema.specs.Applicable.{AreNetted, ApplyToGroups, IsGroup, count_of}
use Rattle.lv_schema.specs.Databases.{Db}
use Rattle.lv_schema.specs.Differences.{is_change, groups_of, summed_columns, view_difference}
use Rattle.lv_schema.specs.Groups.{total, number_at}
use Rattle.lv_schema.specs.JoinViews.{parts_of}
use Rattle.lv_schema.specs.Once.{once}
use Rattle.lv_schema.specs.SignedRows.{entries_of}
use Rattle.lv_schema.proofs.Apart.{all_map, all_filter, all_true, all_weaker, all_append}
use Rattle.lv_schema.proofs.ChangeLists.{ARow, sum_place}
use Rattle.lv_schema.proofs.DifferencesAddUp.{groups_and_difference}
use Rattle.lv_schema.proofs.NetsLead.{same_row}
use Rattle.lv_schema.proofs.OnceLists.{is_equal, once_up}
use Rattle.lv_schema.proofs.Totals.{total-append}
use Rattle.lv_bags.specs.Bags.{HaveSums, CountsFit, width}
use Rattle.lv_bags.specs.Tallies.{IsEntry, Rising, tallied, wrapped}
use Rattle.std.specs.Prelude.{Result, Ok, Err, IsOk, OnOk}
use Rattle.lv_bags.proofs.Placing.{one_of}
use Rattle.lv_bags.proofs.AddedUp.{rising_map, tally_rises, tallied_width, netted_is}
use Rattle.lv_group.specs.Entries.{AnEntry, group_of, numbers_of, gathered}
use Rattle.lv_group.specs.Entries as entries
use Rattle.lv_group.specs.Gathered.{AreGroups, has_tuples, regrouped}

-- ---- numbers of 128 bits
zero_more : (z : ℤ) → z +ℤ pos 0 ≡ z
zero_more z = omega (arith, ints)

wrap_twice : (z : ℤ) → int_wrap w128 (int_wrap w128 z) ≡ int_wrap w128 z
wrap_twice z = ap (int_wrap w128) (sym (zero_more (int_wrap w128 z))) ∙ int_wrap-add_left w128 z (pos 0) ∙ ap (int_wrap w128) (zero_more z)

natural_fits : (n : ℕ) → n < 2 ^ 64 → FitsSigned w128 (pos n)
natural_fits n few = record { sfits = omega (arith, few) }

fits_of : (z : ℤ) → int_wrap w128 z ≡ z → FitsSigned w128 z
fits_of z e = subst (λ x. FitsSigned w128 x) e (SFits-int_wrap w128 z)

-- ---- groups that are gathered
filter_short : {X : Type 0} (p : X → Bool) (xs : List X) → length (filter p xs) ≤ length xs
filter_short p [] = omega arith
filter_short {X} p (x ∷ xs) = by (p x) (filter_short p xs)
  where
    by : (t : Bool) → length (filter p xs) ≤ length xs → length (cond t (x ∷ filter p xs) (filter p xs)) ≤ length (x ∷ xs)
    by true le = omega arith
    by false le = omega arith

pub gathered_groups : (sums : List Col) (es : List AnEntry) → length es < 2 ^ 64 → AreGroups (length sums) (gathered sums es)
gathered_groups sums es few = record {
  rising = rising_map at (λ q. refl) ks (once_up row_total (map group_of es));
  entries = all_map at (IsEntry (length sums)) ks (all_true (λ q. IsEntry (length sums) (at q)) one ks);
}
  where
    at : ARow → SignedRow
    at q = numbers_of sums q (entries.entries_of q es)

    ks : List ARow
    ks = once row_cmp (map group_of es)

    one : (q : ARow) → IsEntry (length sums) (at q)
    one q = record {
      wide = length-map sums (λ (col : Col). int_wrap w128 (total (λ (e : AnEntry). number_at col e.1) (entries.entries_of q es)));
      count = int_wrap_fits w128 (pos (length (entries.entries_of q es))) (natural_fits _ (omega (arith, few, filter_short (λ (e : AnEntry). row_eq q (group_of e)) es)));
      sums = all_map (λ (col : Col). int_wrap w128 (total (λ (e : AnEntry). number_at col e.1) (entries.entries_of q es))) (λ x. int_wrap w128 x ≡ x) sums
          (all_true (λ (col : Col). int_wrap w128 (int_wrap w128 (total (λ (e : AnEntry). number_at col e.1) (entries.entries_of q es))) ≡ int_wrap w128 (total (λ (e : AnEntry). number_at col e.1) (entries.entries_of q es)))
          (λ col. wrap_twice (total (λ (e : AnEntry). number_at col e.1) (entries.entries_of q es))) sums);
    }

-- ---- groups after changes
tally_entries : (n : ℕ) (xs : List SignedRow) → AllByRecursion (IsEntry n) (tallied n xs)
tally_entries n xs = all_map at (IsEntry n) ks (all_true (λ q. IsEntry n (at q)) one ks)
  where
    at : ARow → SignedRow
    at q = wrapped n q (entries_of q xs)

    ks : List ARow
    ks = once row_cmp (map (λ (s : SignedRow). s.row) xs)

    one : (q : ARow) → IsEntry n (at q)
    one q = record {
      wide = length-map-range_with_len (λ j. int_wrap w128 (total (sum_place j) (entries_of q xs))) 0 n;
      count = wrap_twice (total (λ s. s.count) (entries_of q xs));
      sums = all_map (λ j. int_wrap w128 (total (sum_place j) (entries_of q xs))) (λ x. int_wrap w128 x ≡ x) (range_with_len 0 n)
          (all_true (λ j. int_wrap w128 (int_wrap w128 (total (sum_place j) (entries_of q xs))) ≡ int_wrap w128 (total (sum_place j) (entries_of q xs))) (λ j. wrap_twice (total (sum_place j) (entries_of q xs))) (range_with_len 0 n));
    }

rising_filter : (p : SignedRow → Bool) (xs : List SignedRow) → Rising xs → Rising (filter p xs)
rising_filter p [] a = tt
rising_filter p (x ∷ xs) a = by (p x) (rising_filter p xs a.1)
  where
    by : (t : Bool) → Rising (filter p xs) → Rising (cond t (x ∷ filter p xs) (filter p xs))
    by true r = (all_filter (λ (y : SignedRow). row_cmp x.row y.row ≡ Less) p xs a.0, r)
    by false r = r

have_sums : (n : ℕ) (groups : List SignedRow) → AllByRecursion (IsEntry n) groups → HaveSums n groups
have_sums n groups h = all_weaker (IsEntry n) (λ (s : SignedRow). length s.sums ≡ n) (λ s e. e.wide) groups h

pub own_width_entries : (n : ℕ) (groups signed : List SignedRow) → AreGroups n groups → HaveSums n (groups ++ signed) → AllByRecursion (IsEntry (width (groups ++ signed))) groups
own_width_entries n [] signed g h = tt
own_width_entries n (s ∷ groups) signed g h = subst (λ m. AllByRecursion (IsEntry m) (s ∷ groups)) (sym h.0) g.entries

pub both_have_sums : (n : ℕ) (groups signed : List SignedRow) → AreGroups n groups → AreNetted n signed → HaveSums n (groups ++ signed)
both_have_sums n groups signed g s = all_append (λ (s : SignedRow). length s.sums ≡ n) groups signed (have_sums n groups g.entries) s.sums

-- ---- their counts fit
none_of : (q : ARow) (s : SignedRow) (rest : List SignedRow) → q ≡ s.row → AllByRecursion (λ (r : SignedRow). row_cmp s.row r.row ≡ Less) rest → entries_of q rest ≡ []
none_of q s [] e a = refl
none_of q s (r ∷ rest) e a = (λ i. cond (is_eq ((ap (λ k. row_cmp k r.row) e ∙ a.0) i)) (r ∷ entries_of q rest) (entries_of q rest)) ∙ none_of q s rest e a.1

own_count : (n : ℕ) (q : ARow) (groups : List SignedRow) → Rising groups → AllByRecursion (IsEntry n) groups → FitsSigned w128 (count_of groups q)
own_count n q [] up h = natural_fits 0 (omega arith)
own_count n q (g ∷ groups) up h = by (row_eq q g.row) refl (own_count n q groups up.1 h.1)
  where
    by : (b : Bool) → row_eq q g.row ≡ b → FitsSigned w128 (count_of groups q) → FitsSigned w128 (total (λ s. s.count) (cond b (g ∷ entries_of q groups) (entries_of q groups)))
    by true e ih =
        let alone : g.count +ℤ total (λ s. s.count) (entries_of q groups) ≡ g.count = ap (λ l. g.count +ℤ total (λ s. s.count) l) (none_of q g groups (same_row q g.row e) up.0) ∙ zero_more g.count in
        subst (λ z. FitsSigned w128 z) (sym alone) (fits_of g.count h.0.count)
    by false e ih = ih

fits_with : (groups : List SignedRow) (q : ARow) → FitsSigned w128 (count_of groups q) → (signed : List SignedRow) → Rising signed → ApplyToGroups groups signed → FitsSigned w128 (count_of groups q +ℤ total (λ s. s.count) (entries_of q signed))
fits_with groups q own [] up a = subst (λ z. FitsSigned w128 z) (sym (zero_more (count_of groups q))) own
fits_with groups q own (s ∷ signed) up a = by (row_eq q s.row) refl (fits_with groups q own signed up.1 a.1)
  where
    by : (b : Bool) → row_eq q s.row ≡ b → FitsSigned w128 (count_of groups q +ℤ total (λ s. s.count) (entries_of q signed)) → FitsSigned w128 (count_of groups q +ℤ total (λ s. s.count) (cond b (s ∷ entries_of q signed) (entries_of q signed)))
    by true e ih =
        let same = same_row q s.row e in
        let is : count_of groups q +ℤ (s.count +ℤ total (λ s. s.count) (entries_of q signed)) ≡ pos a.0.count =
        (λ i. count_of groups (same i) +ℤ (ap (λ l. s.count +ℤ total (λ s. s.count) l) (none_of q s signed same up.0) ∙ zero_more s.count) i) ∙ a.0.left in
        subst (λ z. FitsSigned w128 z) (sym is) (natural_fits a.0.count a.0.small)
    by false e ih = ih

counts_fit : (n : ℕ) (groups signed : List SignedRow) → AreGroups n groups → AreNetted n signed → ApplyToGroups groups signed → CountsFit (groups ++ signed)
counts_fit n groups signed g s a q =
    subst (λ z. FitsSigned w128 z) (sym (ap (total (λ s. s.count)) (filter-append (λ s. row_eq q s.row) groups signed) ∙ total-append (λ s. s.count) (entries_of q groups) (entries_of q signed)))
    (fits_with groups q (own_count n q groups g.rising g.entries) signed s.ascend a)

-- ---- without the groups that have no tuple
filter_twice : (p q : SignedRow → Bool) → ((s : SignedRow) → p s ≡ true → q s ≡ true) → (xs : List SignedRow) → filter p (filter q xs) ≡ filter p xs
filter_twice p q h [] = refl
filter_twice p q h (x ∷ xs) = by (p x) refl (q x) refl (filter_twice p q h xs)
  where
    by : (a : Bool) → p x ≡ a → (b : Bool) → q x ≡ b → filter p (filter q xs) ≡ filter p xs → filter p (cond b (x ∷ filter q xs) (filter q xs)) ≡ cond a (x ∷ filter p xs) (filter p xs)
    by true e true f ih = (λ i. cond (e i) (x ∷ filter p (filter q xs)) (filter p (filter q xs))) ∙ ap (λ l. x ∷ l) ih
    by true e false f ih = let t : q x ≡ true = h x e in cc
    by false e true f ih = (λ i. cond (e i) (x ∷ filter p (filter q xs)) (filter p (filter q xs))) ∙ ih
    by false e false f ih = ih

changes_there : (s : SignedRow) → has_tuples s ≡ true → is_change s ≡ true
changes_there s h = by (int_eq s.count (pos 0)) h
  where
    by : (b : Bool) → not b ≡ true → not (b && list_all (λ n. int_eq n (pos 0)) s.sums) ≡ true
    by true e = cc
    by false e = refl

pub regrouped_is : (n : ℕ) (groups signed : List SignedRow) → AreGroups n groups → AreNetted n signed → ApplyToGroups groups signed → filter has_tuples (tallied (width (groups ++ signed)) (groups ++ signed)) ≡ regrouped n groups signed
regrouped_is n groups signed g s a =
    ap (filter has_tuples) (tallied_width n (groups ++ signed) (both_have_sums n groups signed g s))
    ∙ sym (filter_twice has_tuples is_change changes_there (tallied n (groups ++ signed)))
    ∙ ap (filter has_tuples) (netted_is n (groups ++ signed) (counts_fit n groups signed g s a))

pub regrouped_groups : (n : ℕ) (all groups : List SignedRow) → HaveSums n all → groups ≡ filter has_tuples (tallied (width all) all) → AreGroups n groups
regrouped_groups n all groups h is =
    let now : groups ≡ filter has_tuples (tallied n all) = is ∙ ap (filter has_tuples) (tallied_width n all h) in
    subst (AreGroups n) (sym now) (record { rising = rising_filter has_tuples (tallied n all) (tally_rises n all); entries = all_filter (IsEntry n) has_tuples (tallied n all) (tally_entries n all) })

-- ---- the law
keeps_all : (p : SignedRow → Bool) (xs : List SignedRow) → AllByRecursion (λ x. p x ≡ true) xs → filter p xs ≡ xs
keeps_all p [] h = refl
keeps_all p (x ∷ xs) h = λ i. cond (h.0 i) (x ∷ keeps_all p xs h.1 i) (keeps_all p xs h.1 i)

some_tuple : (s : SignedRow) → IsGroup s → has_tuples s ≡ true
some_tuple s g = (λ i. not (int_eq (g.is i) (pos 0))) ∙ some g.count g.some
  where
    some : (n : ℕ) → 0 < n → not (int_eq (pos n) (pos 0)) ≡ true
    some n h = by (int_eq (pos n) (pos 0)) refl
      where
        by : (b : Bool) → int_eq (pos n) (pos 0) ≡ b → not b ≡ true
        by true e = let z : pos n ≡ pos 0 = int_cmp-IsAntisymmetric (pos n) (pos 0) (is_equal _ e) in absurd (omega (arith, ints, z, h))
        by false e = refl

pub groups_after : (view : ViewDef) (before after : Db) → AllByRecursion IsGroup (groups_of view after) → regrouped (length (summed_columns view)) (groups_of view before) (view_difference view before after) ≡ groups_of view after
groups_after view before after h =
    ap (filter has_tuples) (groups_and_difference view (parts_of view.tables before) (parts_of view.tables after))
    ∙ keeps_all has_tuples (groups_of view after) (all_weaker IsGroup (λ (s : SignedRow). has_tuples s ≡ true) some_tuple (groups_of view after) h)

-- ---- a loop's step
pub some_of_both : (n : ℕ) (groups signed : List SignedRow) → HaveSums n (groups ++ signed) → (xs : List SignedRow) (s : SignedRow) (ys : List SignedRow) → xs ++ s ∷ ys ≡ signed → length s.sums ≡ n
some_of_both n [] signed h xs s ys e = one_of (λ (r : SignedRow). length r.sums ≡ n) signed xs s ys e h
some_of_both n (g ∷ groups) signed h xs s ys e = some_of_both n groups signed h.1 xs s ys e

pub on_ok : {A E : Type 0} (r : Result A E) (P : Type 0) → IsOk r → OnOk r P → P
on_ok (Ok a) P i p = p
on_ok (Err e) P i p = cc
