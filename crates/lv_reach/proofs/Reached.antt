-- Over the reach of a change the difference of a view is that over the whole tables.
use Rattle.std.proofs.Common.{◌≡◌, ℕ, zero, suc, ◌+◌, ℤ, pos, ◌+ℤ◌, ◌-ℤ◌, Bool, true, false, cond, not, ◌&&◌, ◌||◌, Some, None, List, [], ◌∷◌, ◌++◌, map, length, refl, sym, ap, ◌∙◌, subst, arith}
use Rattle.std.proofs.lemmas.Int.{ints}
use Rattle.std.proofs.lemmas.List.Elements.{filter-append}
use Rattle.std.specs.Int.{int_wrap, w128}
use Rattle.std.specs.List.{filter, AllByRecursion, AllZip}
use Rattle.lv_values.specs.Order.{row_eq}
use Rattle.lv_schema.specs.declared.cond.Cond.{Cond}
use Rattle.lv_schema.specs.declared.part.Part.{Part}
use Rattle.lv_schema.specs.declared.table.TableDef.{TableDef}
use Rattle.lv_schema.specs.declared.view.ViewDef.{ViewDef}
use Rattle.lv_schema.specs.Bound.{alias_columns, IsBoundView}
use Rattle.lv_schema.specs.Differences.{summed_columns, key_of, tuples_of, change_of, is_change, changes, difference}
use Rattle.lv_schema.specs.Groups.{total, number_at}
use Rattle.lv_schema.specs.Jobs.{new_rows, old_sides, new_sides}
use Rattle.lv_schema.specs.JoinViews.{selected}
use Rattle.lv_schema.specs.Nets.{has_row, lacking}
use Rattle.lv_schema.specs.Truth.{holds}
use Rattle.lv_schema.specs.Tuples.{Tuple, tuples}
use Rattle.lv_schema.proofs.Apart.{all_weaker, all_filter, all_map, all_append, all_flat_map}
use Rattle.lv_schema.proofs.ChangeLists.{ARow, same_changes, change_covers}
use Rattle.lv_schema.proofs.NetsLead.{elements}
use Rattle.lv_schema.proofs.Totals.{total_same, total-add, total-filter, total-ones, total-tuples}
use Rattle.lv_reach.specs.Links.{links_of}
use Rattle.lv_reach.specs.declared.rows.AliasRow.{AliasRow}
use Rattle.lv_reach.specs.Reach.{of_alias, in_tuple, row_at, part_at, AreWithin, is_changed, is_present, IsOver, has_change, unchanged, IsFar, KeepsReach, cut_from, cut}
use Rattle.lv_reach.proofs.LinkLaws.{links_agree}
use Rattle.lv_reach.proofs.LinksWithin.{links_within}
use Rattle.lv_reach.proofs.NearLaws.{changed_near, near_along}
use Rattle.lv_reach.proofs.Unchanged.{tuples_stay}

-- ---- totals
total_on : {X : Type 0} (f g : X → ℤ) (xs : List X) → AllByRecursion (λ x. f x ≡ g x) xs → total f xs ≡ total g xs
total_on f g [] a = refl
total_on f g (x ∷ xs) a = λ i. a.0 i +ℤ total_on f g xs a.1 i

total_zero : {X : Type 0} (xs : List X) → total (λ (x : X). pos 0) xs ≡ pos 0
total_zero [] = refl
total_zero (x ∷ xs) = omega (arith, ints, total_zero xs)

either_side : (b : Bool) (n : ℤ) → n ≡ cond b n (pos 0) +ℤ cond (not b) n (pos 0)
either_side true n = omega (arith, ints)
either_side false n = omega (arith, ints)

-- over what passes a test, and the rest
split : {X : Type 0} (test : X → Bool) (f : X → ℤ) (xs : List X) → total f xs ≡ total (λ x. cond (test x) (f x) (pos 0)) xs +ℤ total f (filter (λ x. not (test x)) xs)
split test f xs =
    total_same f (λ x. cond (test x) (f x) (pos 0) +ℤ cond (not (test x)) (f x) (pos 0)) (λ x. either_side (test x) (f x)) xs
    ∙ total-add (λ x. cond (test x) (f x) (pos 0)) (λ x. cond (not (test x)) (f x) (pos 0)) xs
    ∙ ap (λ n. total (λ x. cond (test x) (f x) (pos 0)) xs +ℤ n) (sym (total-filter f (λ x. not (test x)) xs))

-- ---- tuples of rows that stand before the step or after it
abbrev Present : Part → ARow → Type 0
Present p row = is_present p row ≡ true

all_over : (parts : List Part) (sides : List (List ARow)) → AllZip (λ p rows. AllByRecursion (Present p) rows) parts sides → AllByRecursion (IsOver parts) (tuples sides)
all_over [] [] a = (tt, tt)
all_over [] (rows ∷ sides) a = absurd a
all_over (p ∷ parts) [] a = absurd a
all_over (p ∷ parts) (rows ∷ sides) a =
    let rest = all_over parts sides a.1 in
    all_flat_map (λ row. map (λ tuple. row ∷ tuple) (tuples sides)) (IsOver (p ∷ parts)) rows
    (all_weaker (Present p) (λ row. AllByRecursion (IsOver (p ∷ parts)) (map (λ tuple. row ∷ tuple) (tuples sides)))
    (λ row here. all_map (λ tuple. row ∷ tuple) (IsOver (p ∷ parts)) (tuples sides) (all_weaker (IsOver parts) (λ tuple. IsOver (p ∷ parts) (row ∷ tuple)) (λ tuple o. (here, o)) (tuples sides) rest))
    rows a.0)

first_of : (a b : Bool) → a ≡ true → (a || b) ≡ true
first_of true b e = refl
first_of false b e = cc

pub second_of : (a b : Bool) → b ≡ true → (a || b) ≡ true
second_of true b e = refl
second_of false b e = e

old_present : (p : Part) → AllByRecursion (Present p) p.old
old_present p = all_weaker (λ row. has_row row p.old ≡ true) (Present p) (λ row e. first_of (has_row row p.old) (has_row row p.plus) e) p.old (elements p.old)

new_present : (p : Part) → AllByRecursion (Present p) (new_rows p)
new_present p =
    all_append (Present p) (lacking p.old p.minus) p.plus
    (all_filter (Present p) (λ row. not (has_row row p.minus)) p.old (old_present p))
    (all_weaker (λ row. has_row row p.plus ≡ true) (Present p) (λ row e. second_of (has_row row p.old) (has_row row p.plus) e) p.plus (elements p.plus))

old_over : (parts : List Part) → AllZip (λ p rows. AllByRecursion (Present p) rows) parts (old_sides parts)
old_over [] = tt
old_over (p ∷ parts) = (old_present p, old_over parts)

new_over : (parts : List Part) → AllZip (λ p rows. AllByRecursion (Present p) rows) parts (new_sides parts)
new_over [] = tt
new_over (p ∷ parts) = (new_present p, new_over parts)

-- ---- a changed tuple has a changed row
pub change_in : (parts : List Part) (tuple : Tuple) → has_change parts tuple ≡ true → (i : ℕ) × (is_changed (part_at parts i) (row_at tuple i) ≡ true)
change_in [] tuple h = cc
change_in (p ∷ parts) [] h = cc
change_in (p ∷ parts) (row ∷ tuple) h = by (is_changed p row) refl h (change_in parts tuple)
  where
    by : (b : Bool) → is_changed p row ≡ b → (b || has_change parts tuple) ≡ true → (has_change parts tuple ≡ true → (i : ℕ) × (is_changed (part_at parts i) (row_at tuple i) ≡ true))
        → (i : ℕ) × (is_changed (part_at (p ∷ parts) i) (row_at (row ∷ tuple) i) ≡ true)
    by true e h rest = (zero, e)
    by false e h rest = let found = rest h in (suc found.0, found.1)

-- ---- what is kept
module _ (keep : AliasRow → Bool) where
  abbrev pub all_kept : ℕ → Tuple → Bool
  all_kept i [] = true
  all_kept i (row ∷ tuple) = keep (of_alias i row) && all_kept (suc i) tuple

  abbrev kept_sides : ℕ → List (List ARow) → List (List ARow)
  kept_sides i [] = []
  kept_sides i (rows ∷ sides) = filter (λ row. keep (of_alias i row)) rows ∷ kept_sides (suc i) sides

  both_true : (a b : Bool) → a ≡ true → b ≡ true → (a && b) ≡ true
  both_true a b h k = (λ i. h i && b) ∙ k

  pub each_kept : (i : ℕ) (tuple : Tuple) → ((j : ℕ) → keep (of_alias (i + j) (row_at tuple j)) ≡ true) → all_kept i tuple ≡ true
  each_kept i [] h = refl
  each_kept i (row ∷ tuple) h =
      let here : i + 0 ≡ i = omega arith in
      both_true _ _ (subst (λ n. keep (of_alias n row) ≡ true) here (h 0))
      (each_kept (suc i) tuple (λ j. let next : i + suc j ≡ suc i + j = omega arith in subst (λ n. keep (of_alias n (row_at tuple j)) ≡ true) next (h (suc j))))

  -- a total over the kept rows is one over the kept tuples
  total_kept : (i : ℕ) (sides : List (List ARow)) (g : Tuple → ℤ) → total g (tuples (kept_sides i sides)) ≡ total (λ t. cond (all_kept i t) (g t) (pos 0)) (tuples sides)
  total_kept i [] g = refl
  total_kept i (rows ∷ sides) g =
      total-tuples g (filter (λ row. keep (of_alias i row)) rows) (kept_sides (suc i) sides)
      ∙ total-filter (λ row. total (λ t. g (row ∷ t)) (tuples (kept_sides (suc i) sides))) (λ row. keep (of_alias i row)) rows
      ∙ total_same _ _ (λ row. by row (keep (of_alias i row)) (total_kept (suc i) sides (λ t. g (row ∷ t)))) rows
      ∙ sym (total-tuples (λ t. cond (all_kept i t) (g t) (pos 0)) rows sides)
    where
      by : (row : ARow) (b : Bool) → total (λ t. g (row ∷ t)) (tuples (kept_sides (suc i) sides)) ≡ total (λ t. cond (all_kept (suc i) t) (g (row ∷ t)) (pos 0)) (tuples sides)
          → cond b (total (λ t. g (row ∷ t)) (tuples (kept_sides (suc i) sides))) (pos 0) ≡ total (λ t. cond (b && all_kept (suc i) t) (g (row ∷ t)) (pos 0)) (tuples sides)
      by row true e = e
      by row false e = sym (total_zero (tuples sides))

  -- ---- the parts cut
  old_cut : (i : ℕ) (parts : List Part) → old_sides (cut_from keep i parts) ≡ kept_sides i (old_sides parts)
  old_cut i [] = refl
  old_cut i (p ∷ parts) = ap (λ l. filter (λ row. keep (of_alias i row)) p.old ∷ l) (old_cut (suc i) parts)

  abbrev KeepsPlus : ℕ → List Part → Type 0
  KeepsPlus i [] = Unit {0}
  KeepsPlus i (p ∷ parts) = AllByRecursion (λ row. keep (of_alias i row) ≡ true) p.plus × KeepsPlus (suc i) parts

  plus_kept : (i : ℕ) (parts : List Part) → ((j : ℕ) (row : ARow) → has_row row (part_at parts j).plus ≡ true → keep (of_alias (i + j) row) ≡ true) → KeepsPlus i parts
  plus_kept i [] h = tt
  plus_kept i (p ∷ parts) h =
      let here : i + 0 ≡ i = omega arith in (
        all_weaker (λ row. has_row row p.plus ≡ true) (λ row. keep (of_alias i row) ≡ true) (λ row e. subst (λ n. keep (of_alias n row) ≡ true) here (h 0 row e)) p.plus (elements p.plus),
        plus_kept (suc i) parts (λ j row e. let next : i + suc j ≡ suc i + j = omega arith in subst (λ n. keep (of_alias n row) ≡ true) next (h (suc j) row e)),
      )

  all_pass : {X : Type 0} (f : X → Bool) (xs : List X) → AllByRecursion (λ x. f x ≡ true) xs → filter f xs ≡ xs
  all_pass f [] a = refl
  all_pass f (x ∷ xs) a = (λ i. cond (a.0 i) (x ∷ filter f xs) (filter f xs)) ∙ ap (λ l. x ∷ l) (all_pass f xs a.1)

  filters_swap : {X : Type 0} (f g : X → Bool) (xs : List X) → filter f (filter g xs) ≡ filter g (filter f xs)
  filters_swap f g [] = refl
  filters_swap f g (x ∷ xs) = by (f x) (g x) refl refl (filters_swap f g xs)
    where
      by : (a b : Bool) → f x ≡ a → g x ≡ b → filter f (filter g xs) ≡ filter g (filter f xs) → filter f (cond b (x ∷ filter g xs) (filter g xs)) ≡ filter g (cond a (x ∷ filter f xs) (filter f xs))
      by true true e d r = (λ i. cond (e i) (x ∷ filter f (filter g xs)) (filter f (filter g xs))) ∙ ap (λ l. x ∷ l) r ∙ sym (λ i. cond (d i) (x ∷ filter g (filter f xs)) (filter g (filter f xs)))
      by true false e d r = r ∙ sym (λ i. cond (d i) (x ∷ filter g (filter f xs)) (filter g (filter f xs)))
      by false true e d r = (λ i. cond (e i) (x ∷ filter f (filter g xs)) (filter f (filter g xs))) ∙ r
      by false false e d r = r

  new_cut : (i : ℕ) (parts : List Part) → KeepsPlus i parts → new_sides (cut_from keep i parts) ≡ kept_sides i (new_sides parts)
  new_cut i [] k = refl
  new_cut i (p ∷ parts) k =
      let mine : ARow → Bool = λ row. keep (of_alias i row) in
      let same : lacking (filter mine p.old) p.minus ++ p.plus ≡ filter mine (new_rows p) =
      (λ t. filters_swap (λ row. not (has_row row p.minus)) mine p.old t ++ sym (all_pass mine p.plus k.0) t)
      ∙ sym (filter-append mine (lacking p.old p.minus) p.plus) in
      λ t. same t ∷ new_cut (suc i) parts k.1 t

  change_cut : (i : ℕ) (parts : List Part) (tuple : Tuple) → has_change (cut_from keep i parts) tuple ≡ has_change parts tuple
  change_cut i [] tuple = refl
  change_cut i (p ∷ parts) [] = refl
  change_cut i (p ∷ parts) (row ∷ tuple) = ap (λ b. is_changed p row || b) (change_cut (suc i) parts tuple)

  unchanged_cut : (parts : List Part) (ts : List Tuple) → unchanged (cut keep parts) ts ≡ unchanged parts ts
  unchanged_cut parts ts = λ i. filter (λ t. not (change_cut 0 parts t i)) ts

-- ---- a tuple that matters is kept
not_both : true ≡ false → ⊥
not_both e = cc

same_zero : (k : Bool) → pos 0 ≡ cond k (pos 0) (pos 0)
same_zero true = refl
same_zero false = refl

guarded : (h k b : Bool) (n : ℤ) → (h ≡ true → b ≡ true → k ≡ true) → cond h (cond b n (pos 0)) (pos 0) ≡ cond k (cond h (cond b n (pos 0)) (pos 0)) (pos 0)
guarded true k true n f = sym (ap (λ x. cond x n (pos 0)) (f refl refl))
guarded true k false n f = same_zero k
guarded false k b n f = same_zero k

cancels : (a b a' b' ga gb ga' gb' ua ub ua' ub' : ℤ) → a ≡ ga +ℤ ua → b ≡ gb +ℤ ub → a' ≡ ga' +ℤ ua' → b' ≡ gb' +ℤ ub' → ga' ≡ ga → gb' ≡ gb → ub ≡ ua → ub' ≡ ua' → a' -ℤ b' ≡ a -ℤ b
cancels a b a' b' ga gb ga' gb' ua ub ua' ub' ha hb ha' hb' g h u v = omega (arith, ints)

module _ (c : Cond) (parts : List Part) (keep : AliasRow → Bool)
    (whole : (tuple : Tuple) → IsOver parts tuple → has_change parts tuple ≡ true → holds c tuple ≡ true → all_kept keep 0 tuple ≡ true)
    (coming : (j : ℕ) (row : ARow) → has_row row (part_at parts j).plus ≡ true → keep (of_alias j row) ≡ true)
    (f : Tuple → ℤ) where
  -- of the tuples that the condition keeps, and of those with a change
  abbrev chosen : Tuple → ℤ
  chosen t = cond (holds c t) (f t) (pos 0)

  abbrev changed : Tuple → ℤ
  changed t = cond (has_change parts t) (chosen t) (pos 0)

  total_changed : (sides : List (List ARow)) → AllByRecursion (IsOver parts) (tuples sides) → total changed (tuples (kept_sides keep 0 sides)) ≡ total changed (tuples sides)
  total_changed sides over =
      total_kept keep 0 sides changed
      ∙ sym (total_on changed (λ t. cond (all_kept keep 0 t) (changed t) (pos 0)) (tuples sides)
      (all_weaker (IsOver parts) (λ t. changed t ≡ cond (all_kept keep 0 t) (changed t) (pos 0)) (λ t o. guarded (has_change parts t) (all_kept keep 0 t) (holds c t) (f t) (whole t o)) (tuples sides) over))

  new_kept : new_sides (cut keep parts) ≡ kept_sides keep 0 (new_sides parts)
  new_kept = new_cut keep 0 parts (plus_kept keep 0 parts (λ j row e.
      let same : j ≡ 0 + j = omega arith in
      subst (λ n. keep (of_alias n row) ≡ true) same (coming j row e)))

  total_cut : total chosen (tuples (new_sides (cut keep parts))) -ℤ total chosen (tuples (old_sides (cut keep parts))) ≡ total chosen (tuples (new_sides parts)) -ℤ total chosen (tuples (old_sides parts))
  total_cut =
      let old = tuples (old_sides parts) in
      let new = tuples (new_sides parts) in
      let old' = tuples (old_sides (cut keep parts)) in
      let new' = tuples (new_sides (cut keep parts)) in
      cancels (total chosen new) (total chosen old) (total chosen new') (total chosen old')
      (total changed new) (total changed old) (total changed new') (total changed old')
      (total chosen (unchanged parts new)) (total chosen (unchanged parts old)) (total chosen (unchanged parts new')) (total chosen (unchanged parts old'))
      (split (has_change parts) chosen new) (split (has_change parts) chosen old) (split (has_change parts) chosen new') (split (has_change parts) chosen old')
      (ap (λ sides. total changed (tuples sides)) new_kept ∙ total_changed (new_sides parts) (all_over parts (new_sides parts) (new_over parts)))
      (ap (λ sides. total changed (tuples sides)) (old_cut keep 0 parts) ∙ total_changed (old_sides parts) (all_over parts (old_sides parts) (old_over parts)))
      (ap (total chosen) (tuples_stay parts))
      (ap (total chosen) (sym (unchanged_cut keep parts old') ∙ tuples_stay (cut keep parts) ∙ unchanged_cut keep parts new'))

-- ---- equal differences of totals give equal differences of views
module _ (view : ViewDef) (was is was' is' : List Tuple) (same : (f : Tuple → ℤ) → total f is' -ℤ total f was' ≡ total f is -ℤ total f was) where
  of_row : (q : ARow) (f : Tuple → ℤ) → total f (tuples_of view q is') -ℤ total f (tuples_of view q was') ≡ total f (tuples_of view q is) -ℤ total f (tuples_of view q was)
  of_row q f =
      let own : Tuple → Bool = λ tuple. row_eq q (key_of view tuple) in
      (λ i. total-filter f own is' i -ℤ total-filter f own was' i)
      ∙ same (λ t. cond (own t) (f t) (pos 0))
      ∙ sym (λ i. total-filter f own is i -ℤ total-filter f own was i)

  counted : (q : ARow) → pos (length (tuples_of view q is')) -ℤ pos (length (tuples_of view q was')) ≡ pos (length (tuples_of view q is)) -ℤ pos (length (tuples_of view q was))
  counted q =
      sym (λ i. total-ones (tuples_of view q is') i -ℤ total-ones (tuples_of view q was') i)
      ∙ of_row q (λ _. pos 1)
      ∙ (λ i. total-ones (tuples_of view q is) i -ℤ total-ones (tuples_of view q was) i)

  change_same : (q : ARow) → change_of view was' is' q ≡ change_of view was is q
  change_same q = λ i. record {
    row = q;
    count = counted q i;
    sums = map (λ col. int_wrap w128 (of_row q (number_at col) i)) (summed_columns view);
  }

  pub changes_same : changes (change_of view was' is') (map (key_of view) (was' ++ is')) ≡ changes (change_of view was is) (map (key_of view) (was ++ is))
  changes_same = same_changes (change_of view was' is') (change_of view was is) (map (key_of view) (was' ++ is')) (map (key_of view) (was ++ is))
      (change_covers view was' is') (change_covers view was is) (λ q. ap (λ s. cond (is_change s) (Some s) None) (change_same q))

-- where each tuple that matters is kept whole, and each row that comes
pub kept_gives : (view : ViewDef) (parts : List Part) (keep : AliasRow → Bool)
    → ((tuple : Tuple) → IsOver parts tuple → has_change parts tuple ≡ true → holds view.cond tuple ≡ true → all_kept keep 0 tuple ≡ true)
    → ((j : ℕ) (row : ARow) → has_row row (part_at parts j).plus ≡ true → keep (of_alias j row) ≡ true)
    → difference view (old_sides (cut keep parts)) (new_sides (cut keep parts)) ≡ difference view (old_sides parts) (new_sides parts)
kept_gives view parts keep whole coming =
    let c = view.cond in
    let smaller = cut keep parts in
    changes_same view (selected c (old_sides parts)) (selected c (new_sides parts)) (selected c (old_sides smaller)) (selected c (new_sides smaller))
    (λ f.
    (λ i. total-filter f (holds c) (tuples (new_sides smaller)) i -ℤ total-filter f (holds c) (tuples (old_sides smaller)) i)
    ∙ total_cut c parts keep whole coming f
    ∙ sym (λ i. total-filter f (holds c) (tuples (new_sides parts)) i -ℤ total-filter f (holds c) (tuples (old_sides parts)) i))

-- ---- what keeps the reach keeps them
module _ (c : Cond) (parts : List Part) (keep : AliasRow → Bool) (within : AreWithin (length parts) (links_of c)) (reach : KeepsReach (links_of c) parts keep) where
  row_kept : (tuple : Tuple) (i j : ℕ) → IsOver parts tuple → holds c tuple ≡ true → is_changed (part_at parts i) (row_at tuple i) ≡ true → keep (in_tuple tuple j) ≡ true
  row_kept tuple i j over kept changed = by (keep (in_tuple tuple j)) refl
    where
      by : (b : Bool) → keep (in_tuple tuple j) ≡ b → keep (in_tuple tuple j) ≡ true
      by true e = e
      by false e =
          let links = links_of c in
          let far : IsFar links parts j = record {
            from = in_tuple tuple i;
            changed = changed;
            apart = λ path p. not_both (sym (reach.near (in_tuple tuple j) (near_along links parts tuple within over (links_agree c tuple kept) i path j (changed_near links parts (in_tuple tuple i) changed) p)) ∙ e);
          } in
          reach.far (in_tuple tuple j) far

  tuple_kept : (tuple : Tuple) → IsOver parts tuple → has_change parts tuple ≡ true → holds c tuple ≡ true → all_kept keep 0 tuple ≡ true
  tuple_kept tuple over changed kept =
      let at = change_in parts tuple changed in
      each_kept keep 0 tuple (λ j. let e : j ≡ 0 + j = omega arith in subst (λ n. keep (of_alias n (row_at tuple j)) ≡ true) e (row_kept tuple at.0 j over kept at.1))

  coming_kept : (j : ℕ) (row : ARow) → has_row row (part_at parts j).plus ≡ true → keep (of_alias j row) ≡ true
  coming_kept j row e = reach.near (of_alias j row) (changed_near (links_of c) parts (of_alias j row) (second_of (has_row row (part_at parts j).minus) (has_row row (part_at parts j).plus) e))

pub reach_gives : (view : ViewDef) (parts : List Part) (keep : AliasRow → Bool) → AreWithin (length parts) (links_of view.cond) → KeepsReach (links_of view.cond) parts keep
    → difference view (old_sides (cut keep parts)) (new_sides (cut keep parts)) ≡ difference view (old_sides parts) (new_sides parts)
reach_gives view parts keep within reach =
    kept_gives view parts keep (tuple_kept view.cond parts keep within reach) (coming_kept view.cond parts keep within reach)

-- of a bound view
as_many : (tables : List TableDef) (ts : List ℕ) → length (alias_columns tables ts) ≡ length ts
as_many tables [] = refl
as_many tables (t ∷ ts) = ap suc (as_many tables ts)

pub reach_of_bound : (tables : List TableDef) (views : List ViewDef) (view : ViewDef) (parts : List Part) (keep : AliasRow → Bool) → IsBoundView tables views view → length parts ≡ length view.tables → KeepsReach (links_of view.cond) parts keep
    → difference view (old_sides (cut keep parts)) (new_sides (cut keep parts)) ≡ difference view (old_sides parts) (new_sides parts)
reach_of_bound tables views view parts keep bound long reach =
    let aliases = alias_columns tables view.tables in
    reach_gives view parts keep (subst (λ n. AreWithin n (links_of view.cond)) (as_many tables view.tables ∙ sym long) (links_within aliases view.cond bound.bound_cond)) reach
