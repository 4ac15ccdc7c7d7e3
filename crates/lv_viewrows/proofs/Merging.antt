-- A walk over ascending groups and ascending changes gives the groups with the changes.
use Rattle.std.proofs.Common.{◌≡◌, ℕ, ◌≤◌, Bool, true, false, cond, List, [], ◌∷◌, ◌++◌, filter, Option, Some, None, refl, sym, ap, ◌∙◌, subst, append_assoc, arith}
use Rattle.std.specs.Prelude.{nat_lt, nat_le}
use Rattle.std.specs.List.{AllByRecursion}
use Rattle.std.specs.Ordering.{ordering_reverse}
use Rattle.std.specs.declared.cmp.Ordering.{Ordering}
use Rattle.std.specs.declared.cmp.Ordering.TheVariants.{Less, Equal, Greater}
use Rattle.std.specs.FinMap.Entries.{by_order}
use Rattle.std.proofs.lemmas.Bool.Decides.{nat_tests}
use Rattle.std.proofs.lemmas.List.{append-nil}
use Rattle.std.proofs.lemmas.List.Elements.{filter-append}
use Rattle.lv_values.specs.declared.value.Value.{Value}
use Rattle.lv_values.specs.Order.{row_cmp, row_eq}
use Rattle.lv_values.specs.OrderLaws.{row_exact, row_total}
use Rattle.lv_schema.specs.declared.signed.SignedRow.{SignedRow}
use Rattle.lv_schema.specs.SignedRows.{entries_of}
use Rattle.lv_schema.specs.Versions.{ends_after}
use Rattle.lv_schema.proofs.Apart.{all_append, all_filter, all_weaker}
use Rattle.lv_schema.proofs.NetsLead.{same_row}
use Rattle.lv_group.specs.Gathered.{has_tuples}
use Rattle.lv_viewrows.specs.declared.version.GroupVersion.{GroupVersion}
use Rattle.lv_viewrows.specs.Changed.{group_with, groups_with}
use Rattle.lv_viewrows.specs.Merged.{AllFitAt, FitsInto, if_some, is_below, left_by, merged, up_to}
use Rattle.lv_viewrows.specs.Standing.{EndsAtMost, IsBy, MeetAll, Meets, meets_by}
use Rattle.lv_viewrows.proofs.Changes.{RowsAscend, none_above, settled}
use Rattle.lv_viewrows.proofs.Ending.{both}
use Rattle.lv_viewrows.proofs.Entries.{AtMostOne, at_most_one, below_all, filter_ascends, filters_swap, groups_with_is}
use Rattle.lv_viewrows.proofs.Order.{is_over}

-- ---- one change and one group
pub merged_less : (s : SignedRow) (list : List SignedRow) (g : SignedRow) (groups : List SignedRow) → row_cmp s.row g.row ≡ Less → merged (s ∷ list) (g ∷ groups) ≡ if_some s ++ merged list (g ∷ groups)
merged_less s list g groups e =
    (λ i. by_order (e i) (if_some s ++ up_to g list) (if_some (group_with g s)) (g ∷ []) ++ merged (by_order (e i) (left_by g list) list (s ∷ list)) groups)
    ∙ append_assoc (if_some s) (up_to g list) (merged (left_by g list) groups)

pub merged_equal : (s : SignedRow) (list : List SignedRow) (g : SignedRow) (groups : List SignedRow) → row_cmp s.row g.row ≡ Equal → merged (s ∷ list) (g ∷ groups) ≡ if_some (group_with g s) ++ merged list groups
merged_equal s list g groups e = λ i. by_order (e i) (if_some s ++ up_to g list) (if_some (group_with g s)) (g ∷ []) ++ merged (by_order (e i) (left_by g list) list (s ∷ list)) groups

pub merged_greater : (s : SignedRow) (list : List SignedRow) (g : SignedRow) (groups : List SignedRow) → row_cmp s.row g.row ≡ Greater → merged (s ∷ list) (g ∷ groups) ≡ g ∷ merged (s ∷ list) groups
merged_greater s list g groups e = λ i. by_order (e i) (if_some s ++ up_to g list) (if_some (group_with g s)) (g ∷ []) ++ merged (by_order (e i) (left_by g list) list (s ∷ list)) groups

-- no change leaves the groups as they are
pub merged_none : (groups : List SignedRow) → merged [] groups ≡ groups
merged_none [] = refl
merged_none (g ∷ groups) = ap (λ l. g ∷ l) (merged_none groups)

-- groups below the changes come first, and stay as they are
pub merged_below : (list gs groups : List SignedRow) → AllByRecursion (λ g. is_below list g ≡ true) gs → merged list (gs ++ groups) ≡ gs ++ merged list groups
merged_below [] gs groups a = merged_none (gs ++ groups) ∙ ap (λ l. gs ++ l) (sym (merged_none groups))
merged_below (s ∷ list) [] groups a = refl
merged_below (s ∷ list) (g ∷ gs) groups a = merged_greater s list g (gs ++ groups) (is_over (row_cmp s.row g.row) a.0) ∙ ap (λ l. g ∷ l) (merged_below (s ∷ list) gs groups a.1)

-- ---- the entries of a row
entries_some : (q : List Value) (s : SignedRow) (b : Bool) → row_eq q s.row ≡ b → entries_of q (if_some s) ≡ cond b (if_some s) []
entries_some q s b e = by (has_tuples s) b e
  where
    by : (t b : Bool) → row_eq q s.row ≡ b → entries_of q (cond t (s ∷ []) []) ≡ cond b (cond t (s ∷ []) []) []
    by true b e = ap (λ c. cond c (s ∷ []) []) e
    by false true e = refl
    by false false e = refl

none_of : (q row : List Value) (list : List SignedRow) → row_eq q row ≡ true → AllByRecursion (λ (s : SignedRow). row_cmp row s.row ≡ Less) list → entries_of q list ≡ []
none_of q row list e a = subst (λ r. entries_of r list ≡ []) (sym (same_row q row e)) (none_above row list a)

under : (s g : SignedRow) → row_cmp s.row g.row ≡ Greater → row_cmp g.row s.row ≡ Less
under s g e = row_total.antisymm g.row s.row ∙ ap ordering_reverse e

only_changes : (list : List SignedRow) → AtMostOne list → filter has_tuples list ≡ settled [] list
only_changes [] one = refl
only_changes (s ∷ []) one = refl
only_changes (s ∷ t ∷ more) one = absurd one

module _ (q : List Value) (g : SignedRow) (groups : List SignedRow) (a : RowsAscend (g ∷ groups)) (under_g : (list : List SignedRow) → RowsAscend list → entries_of q (merged list groups) ≡ settled (entries_of q groups) (entries_of q list)) where
  entries_along : (list : List SignedRow) → RowsAscend list → entries_of q (merged list (g ∷ groups)) ≡ settled (entries_of q (g ∷ groups)) (entries_of q list)
  entries_along [] b = let rest = under_g [] tt in λ i. cond (row_eq q g.row) (g ∷ rest i) (rest i)
  entries_along (s ∷ list) b = by (row_cmp s.row g.row) refl (entries_along list b.1) (under_g list b.1) (under_g (s ∷ list) b)
    where
      less : row_cmp s.row g.row ≡ Less → (t : Bool) → row_eq q s.row ≡ t → entries_of q (if_some s) ++ settled (entries_of q (g ∷ groups)) (entries_of q list) ≡ settled (entries_of q (g ∷ groups)) (cond t (s ∷ entries_of q list) (entries_of q list))
      less e true f =
          let nothing : entries_of q (g ∷ groups) ≡ [] = none_of q s.row (g ∷ groups) f (below_all s.row g groups e a.0) in
          let no_more : entries_of q list ≡ [] = none_of q s.row list f b.0 in
          (λ i. entries_some q s true f i ++ settled (nothing i) (no_more i)) ∙ append-nil (if_some s) ∙ (λ i. settled (sym nothing i) (s ∷ entries_of q list))
      less e false f = λ i. entries_some q s false f i ++ settled (entries_of q (g ∷ groups)) (entries_of q list)

      equal : row_cmp s.row g.row ≡ Equal → (t : Bool) → row_eq q s.row ≡ t
          → entries_of q (if_some (group_with g s)) ++ settled (entries_of q groups) (entries_of q list) ≡ settled (entries_of q (g ∷ groups)) (cond t (s ∷ entries_of q list) (entries_of q list))
      equal e true f =
          let here : row_eq q g.row ≡ true = ap (row_eq q) (sym (row_exact s.row g.row e)) ∙ f in
          let nothing : entries_of q groups ≡ [] = none_of q g.row groups here a.0 in
          let no_more : entries_of q list ≡ [] = none_of q s.row list f b.0 in
          (λ i. entries_some q (group_with g s) true f i ++ settled (nothing i) (no_more i))
          ∙ append-nil (if_some (group_with g s))
          ∙ (λ i. settled (cond (sym here i) (g ∷ entries_of q groups) (entries_of q groups)) (s ∷ entries_of q list))
      equal e false f =
          let here : row_eq q g.row ≡ false = ap (row_eq q) (sym (row_exact s.row g.row e)) ∙ f in
          λ i. entries_some q (group_with g s) false f i ++ settled (cond (sym here i) (g ∷ entries_of q groups) (entries_of q groups)) (entries_of q list)

      greater : row_cmp s.row g.row ≡ Greater → (t : Bool) → row_eq q g.row ≡ t
          → cond t (g ∷ settled (entries_of q groups) (entries_of q (s ∷ list))) (settled (entries_of q groups) (entries_of q (s ∷ list))) ≡ settled (cond t (g ∷ entries_of q groups) (entries_of q groups)) (entries_of q (s ∷ list))
      greater e true f =
          let nothing : entries_of q (s ∷ list) ≡ [] = none_of q g.row (s ∷ list) f (below_all g.row s list (under s g e) b.0) in
          (λ i. g ∷ settled (entries_of q groups) (nothing i)) ∙ (λ i. settled (g ∷ entries_of q groups) (sym nothing i))
      greater e false f = refl

      by : (o : Ordering) → row_cmp s.row g.row ≡ o → entries_of q (merged list (g ∷ groups)) ≡ settled (entries_of q (g ∷ groups)) (entries_of q list) → entries_of q (merged list groups) ≡ settled (entries_of q groups) (entries_of q list)
          → entries_of q (merged (s ∷ list) groups) ≡ settled (entries_of q groups) (entries_of q (s ∷ list)) → entries_of q (merged (s ∷ list) (g ∷ groups)) ≡ settled (entries_of q (g ∷ groups)) (entries_of q (s ∷ list))
      by Less e ih₁ ih₂ ih₃ =
          ap (entries_of q) (merged_less s list g groups e)
          ∙ filter-append (λ (t : SignedRow). row_eq q t.row) (if_some s) (merged list (g ∷ groups))
          ∙ ap (λ l. entries_of q (if_some s) ++ l) ih₁
          ∙ less e (row_eq q s.row) refl
      by Equal e ih₁ ih₂ ih₃ =
          ap (entries_of q) (merged_equal s list g groups e)
          ∙ filter-append (λ (t : SignedRow). row_eq q t.row) (if_some (group_with g s)) (merged list groups)
          ∙ ap (λ l. entries_of q (if_some (group_with g s)) ++ l) ih₂
          ∙ equal e (row_eq q s.row) refl
      by Greater e ih₁ ih₂ ih₃ =
          ap (entries_of q) (merged_greater s list g groups e)
          ∙ (λ i. cond (row_eq q g.row) (g ∷ ih₃ i) (ih₃ i))
          ∙ greater e (row_eq q g.row) refl

merged_entries : (q : List Value) (groups list : List SignedRow) → RowsAscend groups → RowsAscend list → entries_of q (merged list groups) ≡ settled (entries_of q groups) (entries_of q list)
merged_entries q [] list a b = filters_swap (λ (s : SignedRow). row_eq q s.row) has_tuples list ∙ only_changes (entries_of q list) (at_most_one q list b)
merged_entries q (g ∷ groups) list a b = entries_along q g groups a (λ l up. merged_entries q groups l a.1 up) list b

-- ---- their order
module _ (P : List Value → Type 0) (g : SignedRow) (groups : List SignedRow) (here : P g.row) (under_g : (list : List SignedRow) → AllByRecursion (λ (s : SignedRow). P s.row) list → AllByRecursion (λ (s : SignedRow). P s.row) (merged list groups)) where
  abbrev Q : SignedRow → Type 0
  Q s = P s.row

  all_along : (list : List SignedRow) → AllByRecursion Q list → AllByRecursion Q (merged list (g ∷ groups))
  all_along [] b = (here, under_g [] tt)
  all_along (s ∷ list) b = by (row_cmp s.row g.row) refl (all_along list b.1)
    where
      by : (o : Ordering) → row_cmp s.row g.row ≡ o → AllByRecursion Q (merged list (g ∷ groups)) → AllByRecursion Q (merged (s ∷ list) (g ∷ groups))
      by Less e rest = subst (AllByRecursion Q) (sym (merged_less s list g groups e)) (all_append Q (if_some s) (merged list (g ∷ groups)) (all_filter Q has_tuples (s ∷ []) (b.0, tt)) rest)
      by Equal e rest =
          subst (AllByRecursion Q) (sym (merged_equal s list g groups e))
          (all_append Q (if_some (group_with g s)) (merged list groups) (all_filter Q has_tuples (group_with g s ∷ []) (b.0, tt)) (under_g list b.1))
      by Greater e rest = subst (AllByRecursion Q) (sym (merged_greater s list g groups e)) (here, under_g (s ∷ list) b)

merged_all : (P : List Value → Type 0) (groups list : List SignedRow) → AllByRecursion (λ (s : SignedRow). P s.row) groups → AllByRecursion (λ (s : SignedRow). P s.row) list → AllByRecursion (λ (s : SignedRow). P s.row) (merged list groups)
merged_all P [] list a b = all_filter (λ (s : SignedRow). P s.row) has_tuples list b
merged_all P (g ∷ groups) list a b = all_along P g groups a.0 (λ l c. merged_all P groups l a.1 c) list b

in_front : (s : SignedRow) (list : List SignedRow) → AllByRecursion (λ (t : SignedRow). row_cmp s.row t.row ≡ Less) list → RowsAscend list → RowsAscend (if_some s ++ list)
in_front s list l a = by (has_tuples s)
  where
    by : (b : Bool) → RowsAscend (cond b (s ∷ []) [] ++ list)
    by true = (l, a)
    by false = a

module _ (g : SignedRow) (groups : List SignedRow) (a : RowsAscend (g ∷ groups)) (under_g : (list : List SignedRow) → RowsAscend list → RowsAscend (merged list groups)) where
  ascend_along : (list : List SignedRow) → RowsAscend list → RowsAscend (merged list (g ∷ groups))
  ascend_along [] b = (merged_all (λ r. row_cmp g.row r ≡ Less) groups [] a.0 tt, under_g [] tt)
  ascend_along (s ∷ list) b = by (row_cmp s.row g.row) refl (ascend_along list b.1)
    where
      by : (o : Ordering) → row_cmp s.row g.row ≡ o → RowsAscend (merged list (g ∷ groups)) → RowsAscend (merged (s ∷ list) (g ∷ groups))
      by Less e rest =
          subst RowsAscend (sym (merged_less s list g groups e)) (in_front s (merged list (g ∷ groups)) (merged_all (λ r. row_cmp s.row r ≡ Less) (g ∷ groups) list (below_all s.row g groups e a.0) b.0) rest)
      by Equal e rest =
          let above = subst (λ r. AllByRecursion (λ (t : SignedRow). row_cmp r t.row ≡ Less) groups) (sym (row_exact s.row g.row e)) a.0 in
          subst RowsAscend (sym (merged_equal s list g groups e)) (in_front (group_with g s) (merged list groups) (merged_all (λ r. row_cmp s.row r ≡ Less) groups list above b.0) (under_g list b.1))
      by Greater e rest =
          subst RowsAscend (sym (merged_greater s list g groups e)) (merged_all (λ r. row_cmp g.row r ≡ Less) groups (s ∷ list) a.0 (below_all g.row s list (under s g e) b.0), under_g (s ∷ list) b)

merged_ascend : (groups list : List SignedRow) → RowsAscend groups → RowsAscend list → RowsAscend (merged list groups)
merged_ascend [] list a b = filter_ascends has_tuples list b
merged_ascend (g ∷ groups) list a b = ascend_along g groups a (λ l up. merged_ascend groups l a.1 up) list b

pub merged_is : (list groups : List SignedRow) → RowsAscend groups → AllByRecursion (λ s. has_tuples s ≡ true) groups → RowsAscend list → merged list groups ≡ groups_with list groups
merged_is list groups a c b = groups_with_is list groups a c (merged list groups) (merged_ascend groups list a b) (λ q. merged_entries q groups list a b)

-- ---- changes that the versions meet fit those that are there
open_now : (n : ℕ) (u : Option ℕ) → EndsAtMost n u → ends_after n u ≡ true → u ≡ None
open_now n None h e = refl
open_now n (Some k) h e = let le : k ≤ n = h in let f : nat_lt n k ≡ false = grind (arith, nat_tests) in cc

fit_now : (n hi : ℕ) (list : List SignedRow) (v : GroupVersion) → IsBy n v → AllByRecursion (λ s. Meets hi s v) list → AllFitAt n list v
fit_now n hi list v h m there = all_weaker (λ s. Meets hi s v) (FitsInto v.group) fits list m
  where
    fits : (s : SignedRow) → Meets hi s v → FitsInto v.group s
    fits s met e =
        (subst (λ o. meets_by o hi s v) (row_total.antisymm v.group.row s.row ∙ ap ordering_reverse e) met).1
        (open_now n v.until h.1 (both (nat_le v.from n) (ends_after n v.until) there).1)

pub all_fit : (n hi : ℕ) (list : List SignedRow) (vs : List GroupVersion) → AllByRecursion (IsBy n) vs → AllByRecursion (MeetAll hi vs) list → AllByRecursion (AllFitAt n list) vs
all_fit n hi list [] a m = tt
all_fit n hi list (v ∷ vs) a m = (
  fit_now n hi list v a.0 (all_weaker (MeetAll hi (v ∷ vs)) (λ s. Meets hi s v) (λ s met. met.0) list m),
  all_fit n hi list vs a.1 (all_weaker (MeetAll hi (v ∷ vs)) (MeetAll hi vs) (λ s met. met.1) list m),
)
