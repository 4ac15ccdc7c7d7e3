-- The groups with changes: each row's entries determine an ascending list of groups.
use Rattle.std.proofs.Common.{◌≡◌, pos, Bool, true, false, cond, List, [], ◌∷◌, ◌++◌, map, filter, get_or, Some, None, refl, sym, ap, ap₂, ◌∙◌, subst}
use Rattle.std.specs.Prelude.{◌&&◌, ◌||◌, not}
use Rattle.std.specs.List.{AllByRecursion, list_all, list_any}
use Rattle.std.specs.Ordering.{int_eq, is_eq, ordering_reverse}
use Rattle.std.specs.declared.cmp.Ordering.{Ordering}
use Rattle.std.specs.declared.cmp.Ordering.TheVariants.{Less, Equal, Greater}
use Rattle.std.proofs.lemmas.List.{map-append}
use Rattle.std.proofs.lemmas.List.Folds.{list_any-append}
use Rattle.lv_values.specs.declared.value.Value.{Value}
use Rattle.lv_values.specs.Order.{row_cmp, row_eq}
use Rattle.lv_values.specs.OrderLaws.{row_exact, row_total}
use Rattle.lv_schema.specs.declared.signed.SignedRow.{SignedRow}
use Rattle.lv_schema.specs.Differences.{changes, is_change}
use Rattle.lv_schema.specs.Nets.{has_row}
use Rattle.lv_schema.specs.Once.{Ascends, once}
use Rattle.lv_schema.specs.SignedRows.{entries_of}
use Rattle.lv_schema.proofs.Apart.{all_filter, all_map, all_weaker}
use Rattle.lv_schema.proofs.ChangeLists.{Covers, own_of, shown_changes}
use Rattle.lv_schema.proofs.DifferencesAddUp.{any_once}
use Rattle.lv_schema.proofs.NetsLead.{passes, row_itself, same_row}
use Rattle.lv_schema.proofs.OnceLists.{once_up}
use Rattle.lv_group.specs.Gathered.{has_tuples}
use Rattle.lv_viewrows.specs.Changed.{after_changes, groups_with}
use Rattle.lv_viewrows.proofs.Changes.{RowsAscend, kept, none_above, settled}

-- ---- ascending lists with the same entries of each row are one
own_entry : (s : SignedRow) (list : List SignedRow) → entries_of s.row (s ∷ list) ≡ s ∷ entries_of s.row list
own_entry s list = λ i. cond (row_itself s.row i) (s ∷ entries_of s.row list) (entries_of s.row list)

other_entry : (q : List Value) (s : SignedRow) (list : List SignedRow) → row_eq q s.row ≡ false → entries_of q (s ∷ list) ≡ entries_of q list
other_entry q s list h = λ i. cond (h i) (s ∷ entries_of q list) (entries_of q list)

pub below_all : (q : List Value) (s : SignedRow) (list : List SignedRow) → row_cmp q s.row ≡ Less → AllByRecursion (λ (t : SignedRow). row_cmp s.row t.row ≡ Less) list → AllByRecursion (λ (t : SignedRow). row_cmp q t.row ≡ Less) (s ∷ list)
below_all q s list l a = (l, all_weaker (λ (t : SignedRow). row_cmp s.row t.row ≡ Less) (λ t. row_cmp q t.row ≡ Less) (λ t. row_total.trans q s.row t.row l) list a)

not_one : (s : SignedRow) (list : List SignedRow) → [] ≡ s ∷ list → ⊥
not_one s list e = cc

first_is : (x y : SignedRow) (xs ys : List SignedRow) → (x ∷ xs) ≡ (y ∷ ys) → x ≡ y
first_is x y xs ys e = ap (λ l. get_or l 0 x) e

pub only_groups : (xs ys : List SignedRow) → RowsAscend xs → RowsAscend ys → ((q : List Value) → entries_of q xs ≡ entries_of q ys) → xs ≡ ys
only_groups [] [] a b same = refl
only_groups [] (y ∷ ys) a b same = absurd (not_one y (entries_of y.row ys) (same y.row ∙ own_entry y ys))
only_groups (x ∷ xs) [] a b same = absurd (not_one x (entries_of x.row xs) (sym (same x.row) ∙ own_entry x xs))
only_groups (x ∷ xs) (y ∷ ys) a b same = by (row_cmp x.row y.row) refl (only_groups xs ys a.1 b.1)
  where
    rest : x.row ≡ y.row → (q : List Value) → entries_of q xs ≡ entries_of q ys
    rest e q = at (row_eq q x.row) refl
      where
        at : (t : Bool) → row_eq q x.row ≡ t → entries_of q xs ≡ entries_of q ys
        at true h =
            let qx = same_row q x.row h in
            subst (λ r. entries_of r xs ≡ entries_of r ys) (sym qx) (none_above x.row xs a.0 ∙ sym (subst (λ r. entries_of r ys ≡ []) (sym e) (none_above y.row ys b.0)))
        at false h = sym (other_entry q x xs h) ∙ same q ∙ other_entry q y ys (ap (row_eq q) (sym e) ∙ h)

    by : (r : Ordering) → row_cmp x.row y.row ≡ r → (((q : List Value) → entries_of q xs ≡ entries_of q ys) → xs ≡ ys) → (x ∷ xs) ≡ (y ∷ ys)
    by Less e f = absurd (not_one x (entries_of x.row xs) (sym (none_above x.row (y ∷ ys) (below_all x.row y ys e b.0)) ∙ sym (same x.row) ∙ own_entry x xs))
    by Equal e f =
        let rows = row_exact x.row y.row e in
        let here : x ≡ y =
        first_is x y (entries_of x.row xs) (entries_of y.row ys) (sym (own_entry x xs) ∙ same x.row ∙ ap (λ r. entries_of r (y ∷ ys)) rows ∙ own_entry y ys) in
        ap₂ (λ z zs. z ∷ zs) here (f (rest rows))
    by Greater e f =
        let l : row_cmp y.row x.row ≡ Less = row_total.antisymm y.row x.row ∙ ap ordering_reverse e in
        absurd (not_one y (entries_of y.row ys) (sym (none_above y.row (x ∷ xs) (below_all y.row x xs l a.0)) ∙ same y.row ∙ own_entry y ys))

-- ---- the entries of a row in a list of changes
only_one : (q : List Value) (ks : List (List Value)) → Ascends row_cmp ks → filter (row_eq q) ks ≡ cond (has_row q ks) (q ∷ []) []
only_one q [] a = refl
only_one q (k ∷ ks) a = by (row_eq q k) refl (only_one q ks a.1)
  where
    none : (us : List (List Value)) → AllByRecursion (λ y. row_cmp k y ≡ Less) us → filter (row_eq k) us ≡ []
    none [] b = refl
    none (u ∷ us) b = (λ i. cond (is_eq (b.0 i)) (u ∷ filter (row_eq k) us) (filter (row_eq k) us)) ∙ none us b.1

    by : (b : Bool) → row_eq q k ≡ b → filter (row_eq q) ks ≡ cond (has_row q ks) (q ∷ []) [] → cond b (k ∷ filter (row_eq q) ks) (filter (row_eq q) ks) ≡ cond (b || has_row q ks) (q ∷ []) []
    by true e ih = let same = same_row q k e in ap₂ (λ x l. x ∷ l) (sym same) (ap (λ r. filter (row_eq r) ks) same ∙ none ks a.0)
    by false e ih = ih

choices : {X : Type 0} (a b : Bool) (x : X) → cond a (Some x) None ≡ cond b (Some x) None → a ≡ b
choices true true x e = refl
choices true false x e = cc
choices false true x e = cc
choices false false x e = refl

pub entries_of_changes : (at : List Value → SignedRow) → ((q : List Value) → (at q).row ≡ q) → (rows : List (List Value)) → Covers at rows → (q : List Value) → entries_of q (changes at rows) ≡ cond (is_change (at q)) (at q ∷ []) []
entries_of_changes at named rows covers q =
    let some = filter (λ row. is_change (at row)) rows in
    let there : has_row q (once row_cmp some) ≡ is_change (at q) = any_once q some ∙ choices (has_row q some) (is_change (at q)) (at q) (shown_changes at rows covers q) in
    own_of at named q (once row_cmp some)
    ∙ ap (map at) (only_one q (once row_cmp some) (once_up row_total some) ∙ ap (λ b. cond b (q ∷ []) []) there)
    ∙ by (is_change (at q))
  where
    by : (b : Bool) → map at (cond b (q ∷ []) []) ≡ cond b (at q ∷ []) []
    by true = refl
    by false = refl

pub changes_ascend : (at : List Value → SignedRow) → ((q : List Value) → (at q).row ≡ q) → (rows : List (List Value)) → RowsAscend (changes at rows)
changes_ascend at named rows = up (once row_cmp (filter (λ row. is_change (at row)) rows)) (once_up row_total (filter (λ row. is_change (at row)) rows))
  where
    up : (ks : List (List Value)) → Ascends row_cmp ks → RowsAscend (map at ks)
    up [] a = tt
    up (k ∷ ks) a = (
      all_map at (λ (s : SignedRow). row_cmp (at k).row s.row ≡ Less) ks (all_weaker (λ y. row_cmp k y ≡ Less) (λ y. row_cmp (at k).row (at y).row ≡ Less) (λ y e. ap₂ row_cmp (named k) (named y) ∙ e) ks a.0),
      up ks a.1,
    )

-- ---- of those that pass a test
pub filters_swap : {X : Type 0} (p r : X → Bool) (xs : List X) → filter p (filter r xs) ≡ filter r (filter p xs)
filters_swap p r [] = refl
filters_swap {X} p r (x ∷ xs) = by (p x) refl (r x) refl (filters_swap p r xs)
  where
    by : (a : Bool) → p x ≡ a → (b : Bool) → r x ≡ b → filter p (filter r xs) ≡ filter r (filter p xs) → filter p (cond b (x ∷ filter r xs) (filter r xs)) ≡ filter r (cond a (x ∷ filter p xs) (filter p xs))
    by true e true f ih = (λ i. cond (e i) (x ∷ filter p (filter r xs)) (filter p (filter r xs))) ∙ ap (λ l. x ∷ l) ih ∙ (λ i. cond (sym f i) (x ∷ filter r (filter p xs)) (filter r (filter p xs)))
    by true e false f ih = ih ∙ (λ i. cond (sym f i) (x ∷ filter r (filter p xs)) (filter r (filter p xs)))
    by false e true f ih = (λ i. cond (e i) (x ∷ filter p (filter r xs)) (filter p (filter r xs))) ∙ ih
    by false e false f ih = ih

pub filter_ascends : (p : SignedRow → Bool) (list : List SignedRow) → RowsAscend list → RowsAscend (filter p list)
filter_ascends p [] a = tt
filter_ascends p (s ∷ list) a = by (p s) (filter_ascends p list a.1)
  where
    by : (b : Bool) → RowsAscend (filter p list) → RowsAscend (cond b (s ∷ filter p list) (filter p list))
    by true ih = (all_filter (λ (t : SignedRow). row_cmp s.row t.row ≡ Less) p list a.0, ih)
    by false ih = ih

-- a change without a tuple goes
with_tuples : (s : SignedRow) → filter has_tuples (cond (is_change s) (s ∷ []) []) ≡ kept s
with_tuples s = by (int_eq s.count (pos 0)) refl (list_all (λ n. int_eq n (pos 0)) s.sums)
  where
    by : (a : Bool) → int_eq s.count (pos 0) ≡ a → (b : Bool) → filter has_tuples (cond (not (a && b)) (s ∷ []) []) ≡ cond (not a) (s ∷ []) []
    by true e true = refl
    by true e false = λ i. cond (not (e i)) (s ∷ []) []
    by false e true = λ i. cond (not (e i)) (s ∷ []) []
    by false e false = λ i. cond (not (e i)) (s ∷ []) []

-- ---- of groups with changes
abbrev pub AtMostOne : List SignedRow → Type 0
AtMostOne [] = Unit {0}
AtMostOne (s ∷ []) = Unit {0}
AtMostOne (s ∷ t ∷ more) = ⊥

pub at_most_one : (q : List Value) (list : List SignedRow) → RowsAscend list → AtMostOne (entries_of q list)
at_most_one q [] a = tt
at_most_one q (s ∷ list) a = by (row_eq q s.row) refl (at_most_one q list a.1)
  where
    by : (b : Bool) → row_eq q s.row ≡ b → AtMostOne (entries_of q list) → AtMostOne (cond b (s ∷ entries_of q list) (entries_of q list))
    by true e ih = subst (λ l. AtMostOne (s ∷ l)) (sym (ap (λ r. entries_of r list) (same_row q s.row e) ∙ none_above s.row list a.0)) tt
    by false e ih = ih

settled_kept : (q : List Value) (groups list : List SignedRow) → AtMostOne groups → AllByRecursion (λ s. has_tuples s ≡ true) groups → settled groups list ≡ kept (after_changes q groups list)
settled_kept q [] [] one c = refl
settled_kept q (s ∷ []) [] one c = λ i. cond (sym c.0 i) (s ∷ []) []
settled_kept q (s ∷ t ∷ more) [] one c = absurd one
settled_kept q [] (s ∷ list) one c = refl
settled_kept q (group ∷ groups) (s ∷ list) one c = refl

module _ (list groups : List SignedRow) where
  abbrev pub at : List Value → SignedRow
  at q = after_changes q (entries_of q groups) (entries_of q list)

  abbrev rows : List (List Value)
  rows = map (λ (s : SignedRow). s.row) (groups ++ list)

  pub named : (q : List Value) → (at q).row ≡ q
  named q = by (entries_of q groups) (entries_of q list) (passes (λ (s : SignedRow). row_eq q s.row) groups) (passes (λ (s : SignedRow). row_eq q s.row) list)
    where
      by : (gs ss : List SignedRow) → AllByRecursion (λ (s : SignedRow). row_eq q s.row ≡ true) gs → AllByRecursion (λ (s : SignedRow). row_eq q s.row ≡ true) ss → (after_changes q gs ss).row ≡ q
      by [] [] a b = refl
      by [] (s ∷ ss) a b = sym (same_row q s.row b.0)
      by (g ∷ gs) [] a b = sym (same_row q g.row a.0)
      by (g ∷ gs) (s ∷ ss) a b = sym (same_row q s.row b.0)

  pub covered : Covers at rows
  covered q h =
      let split = neither (list_any (row_eq q) (map row_of groups)) (list_any (row_eq q) (map row_of list)) (sym (list_any-append (row_eq q) (map row_of groups) (map row_of list)) ∙ ap (list_any (row_eq q)) (sym (map-append row_of groups list)) ∙ h) in
      λ i. is_change (after_changes q (none_of groups split.0 i) (none_of list split.1 i))
    where
      row_of : SignedRow → List Value
      row_of = λ s. s.row

      neither : (a b : Bool) → (a || b) ≡ false → (a ≡ false) × (b ≡ false)
      neither true b h = cc
      neither false b h = (refl, h)

      none_of : (xs : List SignedRow) → list_any (row_eq q) (map (λ (s : SignedRow). s.row) xs) ≡ false → entries_of q xs ≡ []
      none_of [] h = refl
      none_of (x ∷ xs) h =
          let parts = neither (row_eq q x.row) (list_any (row_eq q) (map (λ (s : SignedRow). s.row) xs)) h in
          (λ i. cond (parts.0 i) (x ∷ entries_of q xs) (entries_of q xs)) ∙ none_of xs parts.1

  pub entries_with : (q : List Value) → entries_of q (groups_with list groups) ≡ kept (at q)
  entries_with q =
      filters_swap (λ (s : SignedRow). row_eq q s.row) has_tuples (changes at rows) ∙ ap (filter has_tuples) (entries_of_changes at named rows covered q) ∙ with_tuples (at q)

  pub with_ascend : RowsAscend (groups_with list groups)
  with_ascend = filter_ascends has_tuples (changes at rows) (changes_ascend at named rows)

  -- a list with the entries that changes leave is the groups with the changes
  pub groups_with_is : RowsAscend groups → AllByRecursion (λ s. has_tuples s ≡ true) groups → (after : List SignedRow) → RowsAscend after
      → ((q : List Value) → entries_of q after ≡ settled (entries_of q groups) (entries_of q list)) → after ≡ groups_with list groups
  groups_with_is up c after a says =
      only_groups after (groups_with list groups) a with_ascend
      (λ q. says q
      ∙ settled_kept q (entries_of q groups) (entries_of q list) (at_most_one q groups up) (all_filter (λ s. has_tuples s ≡ true) (λ (s : SignedRow). row_eq q s.row) groups c)
      ∙ sym (entries_with q))
