-- The rows of a join view are groups of one tuple: what changes of them leave.
use Rattle.std.proofs.Common.{◌≡◌, ℤ, pos, ◌+ℤ◌, Bool, true, false, cond, List, [], ◌∷◌, ◌++◌, map, filter, length, get_or, refl, sym, ap, ap₂, ◌∙◌, subst, arith}
use Rattle.std.specs.Prelude.{◌&&◌, ◌||◌, neg_ℤ, not}
use Rattle.std.specs.List.{AllByRecursion}
use Rattle.std.specs.Ordering.{int_eq, is_eq}
use Rattle.std.specs.declared.cmp.Ordering.TheVariants.{Less}
use Rattle.std.proofs.lemmas.List.Folds.{list_any-append}
use Rattle.std.proofs.lemmas.Simd.{map-map}
use Rattle.lv_values.specs.declared.value.Value.{Value}
use Rattle.lv_values.specs.Order.{row_cmp, row_eq}
use Rattle.lv_values.specs.OrderLaws.{row_exact, row_total}
use Rattle.lv_schema.specs.declared.signed.SignedRow.{SignedRow}
use Rattle.lv_schema.specs.Applicable.{ApplyToRows, coming, going, with_changes}
use Rattle.lv_schema.specs.Nets.{has_row, lacking}
use Rattle.lv_schema.specs.Once.{Ascends, are_apart}
use Rattle.lv_schema.specs.SignedRows.{entries_of}
use Rattle.lv_schema.proofs.Apart.{Apart, Untied, all_both, all_filter, all_map, all_weaker, apart_append, apart_filter, ascends_apart, ascends_ascending}
use Rattle.lv_schema.proofs.NetsLead.{any_ascending, any_lacking, only_rows, passes, row_itself, same_row}
use Rattle.lv_group.specs.Gathered.{has_tuples}
use Rattle.lv_viewrows.specs.Changed.{after_changes, group_with, groups_with, sums_added}
use Rattle.lv_viewrows.specs.Kept.{one_row, version_from}
use Rattle.lv_viewrows.specs.Standing.{IsCount, joined}
use Rattle.lv_viewrows.proofs.Changes.{RowsAscend, kept}
use Rattle.lv_viewrows.proofs.Entries.{filter_ascends, filters_swap, AtMostOne, at_most_one, entries_with, with_ascend}
use Rattle.lv_viewrows.proofs.Installing.{Fits}

abbrev pub row_of : SignedRow → List Value
row_of s = s.row

abbrev pub IsOneRow : SignedRow → Type 0
IsOneRow g = g ≡ one_row g.row

-- ---- a row is there where it has an entry
abbrev some : {X : Type 0} → List X → Bool
some [] = false
some (x ∷ xs) = true

has_entries : (q : List Value) (list : List SignedRow) → has_row q (map row_of list) ≡ some (entries_of q list)
has_entries q [] = refl
has_entries q (s ∷ list) = by (row_eq q s.row) (has_entries q list)
  where
    by : (b : Bool) → has_row q (map row_of list) ≡ some (entries_of q list) → (b || has_row q (map row_of list)) ≡ some (cond b (s ∷ entries_of q list) (entries_of q list))
    by true ih = refl
    by false ih = ih

-- of the changes that pass a test
has_passing : (p : SignedRow → Bool) (q : List Value) (list : List SignedRow) → has_row q (map row_of (filter p list)) ≡ some (filter p (entries_of q list))
has_passing p q list = has_entries q (filter p list) ∙ ap some (filters_swap (λ s. row_eq q s.row) p list)

-- ---- a change of a row: one that is there goes, and one that is not comes
pub record IsRowChange (there : Bool) (s : SignedRow) : Type 0 where
  pub count : s.count ≡ cond there (neg_ℤ (pos 1)) (pos 1)
  pub sums : s.sums ≡ []

no_sums : (sums : List ℤ) → length sums ≡ 0 → sums ≡ []
no_sums [] e = refl
no_sums (n ∷ sums) e = absurd (omega arith)

abbrev goes : SignedRow → Bool
goes s = int_eq s.count (neg_ℤ (pos 1))

abbrev comes : SignedRow → Bool
comes s = int_eq s.count (pos 1)

quiet : (count : ℤ) (sums : List ℤ) (row : List Value) → count ≡ pos 0 → sums ≡ [] → has_tuples (record { row = row; count = count; sums = sums }) ≡ false
quiet count sums row c e = λ i. has_tuples (record { row = row; count = c i; sums = e i })

loud : (count : ℤ) (sums : List ℤ) (row : List Value) → count ≡ pos 1 → sums ≡ [] → has_tuples (record { row = row; count = count; sums = sums }) ≡ true
loud count sums row c e = λ i. has_tuples (record { row = row; count = c i; sums = e i })

gone : (g s : SignedRow) → IsOneRow g → IsRowChange true s → has_tuples (group_with g s) ≡ false
gone g s one c = quiet (g.count +ℤ s.count) (sums_added g.sums s.sums) s.row (λ i. (one i).count +ℤ c.count i) ((λ i. sums_added (one i).sums s.sums) ∙ c.sums)

is_there : (s : SignedRow) → IsRowChange false s → has_tuples s ≡ true
is_there s c = loud s.count s.sums s.row c.count c.sums

-- by the entries that a row has in the groups and in the changes
told : (q : List Value) (groups list : List SignedRow) → AtMostOne groups → AtMostOne list → AllByRecursion IsOneRow groups → AllByRecursion (IsRowChange (some groups)) list
    → has_tuples (after_changes q groups list) ≡ ((not (some (filter goes list)) && some groups) || some (filter comes list))
told q [] [] m n a c = refl
told q (g ∷ []) [] m n a c = λ i. has_tuples (a.0 i)
told q (g ∷ h ∷ groups) list m n a c = absurd m
told q [] (s ∷ []) m n a c =
    is_there s c.0 ∙ sym (λ i. (not (some (cond (int_eq (c.0.count i) (neg_ℤ (pos 1))) (s ∷ []) [])) && false) || some (cond (int_eq (c.0.count i) (pos 1)) (s ∷ []) []))
told q groups (s ∷ t ∷ list) m n a c = absurd n
told q (g ∷ []) (s ∷ []) m n a c =
    gone g s a.0 c.0 ∙ sym (λ i. (not (some (cond (int_eq (c.0.count i) (neg_ℤ (pos 1))) (s ∷ []) [])) && true) || some (cond (int_eq (c.0.count i) (pos 1)) (s ∷ []) []))

-- ---- each change by whether its row is there
row_changes : (groups list : List SignedRow) → ApplyToRows (map row_of groups) list → AllByRecursion (λ s. length s.sums ≡ 0) list → AllByRecursion (λ s. IsRowChange (some (entries_of s.row groups)) s) list
row_changes groups list a n =
    all_both (λ (s : SignedRow). s.count ≡ cond (has_row s.row (map row_of groups)) (neg_ℤ (pos 1)) (pos 1)) (λ (s : SignedRow). length s.sums ≡ 0) (λ s. IsRowChange (some (entries_of s.row groups)) s)
    (λ s c e. record { count = c ∙ ap (λ b. cond b (neg_ℤ (pos 1)) (pos 1)) (has_entries s.row groups); sums = no_sums s.sums e }) list a n

own_changes : (q : List Value) (groups list : List SignedRow) → AllByRecursion (λ s. IsRowChange (some (entries_of s.row groups)) s) list → AllByRecursion (IsRowChange (some (entries_of q groups))) (entries_of q list)
own_changes q groups list a =
    all_both (λ (s : SignedRow). row_eq q s.row ≡ true) (λ s. IsRowChange (some (entries_of s.row groups)) s) (IsRowChange (some (entries_of q groups)))
    (λ s h c. subst (λ r. IsRowChange (some (entries_of r groups)) s) (sym (same_row q s.row h)) c) (entries_of q list) (passes (λ (s : SignedRow). row_eq q s.row) list)
    (all_filter (λ s. IsRowChange (some (entries_of s.row groups)) s) (λ (s : SignedRow). row_eq q s.row) list a)

module _ (groups list : List SignedRow) (up : RowsAscend groups) (list_up : RowsAscend list) (ones : AllByRecursion IsOneRow groups) (apply : ApplyToRows (map row_of groups) list) (plain : AllByRecursion (λ s. length s.sums ≡ 0) list) where
  abbrev rows : List (List Value)
  rows = map row_of groups

  some_kept : (g : SignedRow) → some (kept g) ≡ has_tuples g
  some_kept g = by (has_tuples g)
    where
      by : (b : Bool) → some (cond b (g ∷ []) []) ≡ b
      by true = refl
      by false = refl

  same_has : (q : List Value) → has_row q (map row_of (groups_with list groups)) ≡ has_row q (with_changes list rows)
  same_has q =
      has_entries q (groups_with list groups)
      ∙ ap some (entries_with list groups q)
      ∙ some_kept (after_changes q (entries_of q groups) (entries_of q list))
      ∙ told q (entries_of q groups) (entries_of q list) (at_most_one q groups up) (at_most_one q list list_up) (all_filter IsOneRow (λ (s : SignedRow). row_eq q s.row) groups ones)
      (own_changes q groups list (row_changes groups list apply plain))
      ∙ (λ i. (not (sym (has_passing goes q list) i) && sym (has_entries q groups) i) || sym (has_passing comes q list) i)
      ∙ sym (any_ascending row_cmp q (lacking rows (going list) ++ coming list) ∙ list_any-append (row_eq q) (lacking rows (going list)) (coming list) ∙ ap (λ b. b || has_row q (coming list)) (any_lacking q rows (going list)))

  rows_up : (gs : List SignedRow) → RowsAscend gs → Ascends row_cmp (map row_of gs)
  rows_up [] a = tt
  rows_up (g ∷ gs) a = (all_map row_of (λ y. row_cmp g.row y ≡ Less) gs a.0, rows_up gs a.1)

  all_passing : (p : SignedRow → Bool) (P : SignedRow → Type 0) (ss : List SignedRow) → ((s : SignedRow) → p s ≡ true → P s) → AllByRecursion P (filter p ss)
  all_passing p P ss f = all_weaker (λ s. p s ≡ true) P f (filter p ss) (passes p ss)

  -- rows that come are not there
  absent : (there : Bool) (count : ℤ) → count ≡ cond there (neg_ℤ (pos 1)) (pos 1) → int_eq count (pos 1) ≡ true → there ≡ false
  absent true count e h = let f : int_eq count (pos 1) ≡ false = ap (λ n. int_eq n (pos 1)) e in cc
  absent false count e h = refl

  come_new : AllByRecursion (λ y. has_row y rows ≡ false) (coming list)
  come_new =
      all_map row_of (λ y. has_row y rows ≡ false) (filter comes list)
      (all_both (λ s. comes s ≡ true) (λ (s : SignedRow). s.count ≡ cond (has_row s.row rows) (neg_ℤ (pos 1)) (pos 1)) (λ (s : SignedRow). has_row s.row rows ≡ false) (λ s h e. absent (has_row s.row rows) s.count e h)
      (filter comes list) (passes comes list) (all_filter (λ (s : SignedRow). s.count ≡ cond (has_row s.row rows) (neg_ℤ (pos 1)) (pos 1)) comes list apply))

  true_false : true ≡ false → ⊥
  true_false e = cc

  other_rows : (y : List Value) (xs : List (List Value)) → has_row y xs ≡ false → AllByRecursion (λ x. Untied row_total x y) xs
  other_rows y [] h = tt
  other_rows y (x ∷ xs) h = by (row_eq y x) refl h (other_rows y xs)
    where
      by : (b : Bool) → row_eq y x ≡ b → (b || has_row y xs) ≡ false → (has_row y xs ≡ false → AllByRecursion (λ z. Untied row_total z y) xs) → AllByRecursion (λ z. Untied row_total z y) (x ∷ xs)
      by true e k rest = cc
      by false e k rest = (λ tied. (let same : row_eq y x ≡ true = ap (row_eq y) (row_exact x y tied) ∙ row_itself y in true_false (sym same ∙ e)), rest k)

  swap_all : {X Y : Type 0} (R : X → Y → Type 0) (xs : List X) (ys : List Y) → AllByRecursion (λ y. AllByRecursion (λ x. R x y) xs) ys → AllByRecursion (λ x. AllByRecursion (R x) ys) xs
  swap_all R [] ys a = tt
  swap_all {X} {Y} R (x ∷ xs) ys a =
      (all_weaker (λ y. AllByRecursion (λ z. R z y) (x ∷ xs)) (R x) (λ y h. h.0) ys a, swap_all R xs ys (all_weaker (λ y. AllByRecursion (λ z. R z y) (x ∷ xs)) (λ y. AllByRecursion (λ z. R z y) xs) (λ y h. h.1) ys a))

  changed_up : Ascends row_cmp (with_changes list rows)
  changed_up =
      ascends_ascending row_total (lacking rows (going list) ++ coming list)
      (apart_append (Untied row_total) (lacking rows (going list)) (coming list)
      (apart_filter (Untied row_total) (λ row. not (has_row row (going list))) rows (ascends_apart row_total rows (rows_up groups up)))
      (ascends_apart row_total (coming list) (rows_up (filter comes list) (filter_ascends comes list list_up)))
      (swap_all (Untied row_total) (lacking rows (going list)) (coming list)
      (all_weaker (λ y. has_row y rows ≡ false) (λ y. AllByRecursion (λ x. Untied row_total x y) (lacking rows (going list)))
      (λ y h. all_filter (λ x. Untied row_total x y) (λ row. not (has_row row (going list))) rows (other_rows y rows h)) (coming list) come_new)))

  -- the rows of the groups with the changes are the rows with the changes
  pub rows_changed_are : map row_of (groups_with list groups) ≡ with_changes list rows
  rows_changed_are = only_rows row_total (map row_of (groups_with list groups)) (with_changes list rows) (rows_up (groups_with list groups) (with_ascend list groups)) changed_up same_has

  -- each change fits, and what it makes is a row
  fits_by : (s : SignedRow) (own : List SignedRow) → AllByRecursion IsOneRow own → IsRowChange (some own) s → (g : SignedRow) (more : List SignedRow) → own ≡ g ∷ more → IsCount (g.count +ℤ s.count)
  fits_by s [] a c g more e = cc
  fits_by s (h ∷ own) a c g more e = record {
    count = 0;
    is = (λ i. (first e i).count +ℤ s.count) ∙ (λ i. (a.0 i).count +ℤ c.count i);
    small = omega arith;
  }
    where
      first : (h ∷ own) ≡ (g ∷ more) → g ≡ h
      first e = sym (ap (λ l. get_or l 0 h) e)

  pub rows_fit : AllByRecursion (Fits groups) list
  rows_fit =
      all_weaker (λ s. IsRowChange (some (entries_of s.row groups)) s) (Fits groups)
      (λ s c g more e. fits_by s (entries_of s.row groups) (all_filter IsOneRow (λ (t : SignedRow). row_eq s.row t.row) groups ones) c g more e) list (row_changes groups list apply plain)

  makes : (s : SignedRow) (own : List SignedRow) → AllByRecursion IsOneRow own → IsRowChange (some own) s → has_tuples (joined own s) ≡ true → IsOneRow (joined own s)
  makes s [] a c h = ap₂ (λ (n : ℤ) (l : List ℤ). record { row = s.row; count = n; sums = l }) c.count c.sums
  makes s (g ∷ own) a c h = let f = gone g s a.0 c in cc

  pub rows_made : AllByRecursion (λ s. has_tuples (joined (entries_of s.row groups) s) ≡ true → IsOneRow (joined (entries_of s.row groups) s)) list
  rows_made =
      all_weaker (λ s. IsRowChange (some (entries_of s.row groups)) s) (λ s. has_tuples (joined (entries_of s.row groups) s) ≡ true → IsOneRow (joined (entries_of s.row groups) s))
      (λ s c. makes s (entries_of s.row groups) (all_filter IsOneRow (λ (t : SignedRow). row_eq s.row t.row) groups ones) c) list (row_changes groups list apply plain)

-- ---- distinct rows in order, as groups
pub rows_apart : (rows : List (List Value)) → are_apart row_eq rows ≡ true → Apart (Untied row_total) rows
rows_apart [] h = tt
rows_apart (row ∷ rows) h = by (has_row row rows) refl h (rows_apart rows)
  where
    alone : (xs : List (List Value)) → has_row row xs ≡ false → AllByRecursion (Untied row_total row) xs
    alone [] e = tt
    alone (x ∷ xs) e = at (row_eq row x) refl e (alone xs)
      where
        at : (b : Bool) → row_eq row x ≡ b → (b || has_row row xs) ≡ false → (has_row row xs ≡ false → AllByRecursion (Untied row_total row) xs) → AllByRecursion (Untied row_total row) (x ∷ xs)
        at true f k rest = cc
        at false f k rest = (λ tied. (let same = ap is_eq tied in cc), rest k)

    by : (b : Bool) → has_row row rows ≡ b → (not b && are_apart row_eq rows) ≡ true → (are_apart row_eq rows ≡ true → Apart (Untied row_total) rows) → Apart (Untied row_total) (row ∷ rows)
    by true e k rest = cc
    by false e k rest = (alone rows e, rest k)

pub one_rows_ascend : (rows : List (List Value)) → Ascends row_cmp rows → RowsAscend (map one_row rows)
one_rows_ascend [] a = tt
one_rows_ascend (row ∷ rows) a = (all_map one_row (λ (s : SignedRow). row_cmp row s.row ≡ Less) rows a.0, one_rows_ascend rows a.1)

pub one_rows_change : (rows : List (List Value)) → AllByRecursion (λ s. has_tuples s ≡ true) (map one_row rows)
one_rows_change [] = tt
one_rows_change (row ∷ rows) = (refl, one_rows_change rows)

pub one_rows_are : (rows : List (List Value)) → AllByRecursion IsOneRow (map one_row rows)
one_rows_are [] = tt
one_rows_are (row ∷ rows) = (refl, one_rows_are rows)

pub rows_of_ones : (rows : List (List Value)) → map row_of (map one_row rows) ≡ rows
rows_of_ones [] = refl
rows_of_ones (row ∷ rows) = ap (λ l. row ∷ l) (rows_of_ones rows)

pub versions_of_ones : (rows : List (List Value)) → map (version_from 0) (map one_row rows) ≡ map (λ row. version_from 0 (one_row row)) rows
versions_of_ones rows = map-map (version_from 0) one_row rows
