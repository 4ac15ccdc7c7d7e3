-- Groups of which nothing passes can be left out of a walk over groups and changes.
use Rattle.std.proofs.Common.{◌≡◌, ℕ, zero, suc, Bool, true, false, cond, List, [], ◌∷◌, ◌++◌, filter, take, drop, refl, sym, ap, ◌∙◌, subst}
use Rattle.std.specs.List.{AllByRecursion}
use Rattle.std.specs.declared.cmp.Ordering.{Ordering}
use Rattle.std.specs.declared.cmp.Ordering.TheVariants.{Less, Equal, Greater}
use Rattle.std.proofs.lemmas.List.{append-nil, take-append-drop}
use Rattle.lv_values.specs.declared.value.Value.{Value}
use Rattle.lv_values.specs.Order.{row_cmp}
use Rattle.lv_values.specs.OrderLaws.{row_exact}
use Rattle.lv_schema.specs.declared.signed.SignedRow.{SignedRow}
use Rattle.lv_schema.specs.declared.view.ViewDef.{ViewDef}
use Rattle.lv_group.specs.Gathered.{has_tuples}
use Rattle.lv_shelf.specs.Cuts.{Apart}
use Rattle.lv_viewrows.specs.declared.version.GroupVersion.{GroupVersion}
use Rattle.lv_viewrows.specs.Beginning.{NonePasses}
use Rattle.lv_viewrows.specs.Changed.{group_with}
use Rattle.lv_viewrows.specs.Kept.{groups_at, row_listed}
use Rattle.lv_viewrows.specs.Merged.{if_some, merged, passing}
use Rattle.lv_viewrows.specs.Standing.{Precedes}
use Rattle.lv_viewrows.proofs.Changes.{RowsAscend}
use Rattle.lv_viewrows.proofs.Entries.{below_all}
use Rattle.lv_viewrows.proofs.Installing.{all_there}
use Rattle.lv_viewrows.proofs.Merging.{merged_equal, merged_greater, merged_less}
use Rattle.lv_viewrows.proofs.Order.{groups_ascend}
use Rattle.lv_viewrows.proofs.Passing.{passing_append}
use Rattle.lv_viewrows.proofs.Unchanged.{groups_append}

-- a change below all groups comes first
merged_first : (s : SignedRow) (list groups : List SignedRow) → AllByRecursion (λ (t : SignedRow). row_cmp s.row t.row ≡ Less) groups → merged (s ∷ list) groups ≡ if_some s ++ merged list groups
merged_first s list [] a = by (has_tuples s)
  where
    by : (b : Bool) → cond b (s ∷ filter has_tuples list) (filter has_tuples list) ≡ cond b (s ∷ []) [] ++ filter has_tuples list
    by true = refl
    by false = refl
merged_first s list (g ∷ groups) a = merged_less s list g groups a.0

pub apart_drop : (R : GroupVersion → GroupVersion → Type 0) (i : ℕ) (vs : List GroupVersion) → Apart R vs → Apart R (drop i vs)
apart_drop R zero vs a = a
apart_drop R (suc i) [] a = tt
apart_drop R (suc i) (v ∷ vs) a = apart_drop R i vs a.1

module _ (view : ViewDef) (p : List Value → Bool) where
  -- no row passes that the view lists of a group with this row
  abbrev Fails : List Value → Type 0
  Fails row = (group : SignedRow) → group.row ≡ row → p (row_listed view group) ≡ false

  skip_one : (g : SignedRow) (list : List SignedRow) → Fails g.row → passing view p (g ∷ list) ≡ passing view p list
  skip_one g list fails = λ i. cond (fails g refl i) (row_listed view g ∷ passing view p list) (passing view p list)

  skip_some : (s : SignedRow) (list : List SignedRow) → Fails s.row → passing view p (if_some s ++ list) ≡ passing view p list
  skip_some s list fails = by (has_tuples s)
    where
      by : (b : Bool) → passing view p (cond b (s ∷ []) [] ++ list) ≡ passing view p list
      by true = skip_one s list fails
      by false = refl

  module _ (g : SignedRow) (groups : List SignedRow) (fails : Fails g.row) (up : AllByRecursion (λ (t : SignedRow). row_cmp g.row t.row ≡ Less) groups) where
    skip_group : (list : List SignedRow) → passing view p (merged list (g ∷ groups)) ≡ passing view p (merged list groups)
    skip_group [] = skip_one g (merged [] groups) fails
    skip_group (s ∷ list) = by (row_cmp s.row g.row) refl (skip_group list)
      where
        by : (o : Ordering) → row_cmp s.row g.row ≡ o → passing view p (merged list (g ∷ groups)) ≡ passing view p (merged list groups) → passing view p (merged (s ∷ list) (g ∷ groups)) ≡ passing view p (merged (s ∷ list) groups)
        by Less e rest =
            ap (passing view p) (merged_less s list g groups e)
            ∙ passing_append view p (if_some s) (merged list (g ∷ groups))
            ∙ ap (λ l. passing view p (if_some s) ++ l) rest
            ∙ sym (passing_append view p (if_some s) (merged list groups))
            ∙ ap (passing view p) (sym (merged_first s list groups (below_all s.row g groups e up).1))
        by Equal e rest =
            let same : g.row ≡ s.row = sym (row_exact s.row g.row e) in
            let gone : Fails s.row = subst Fails same fails in
            ap (passing view p) (merged_equal s list g groups e)
            ∙ skip_some (group_with g s) (merged list groups) gone
            ∙ sym (skip_some s (merged list groups) gone)
            ∙ ap (passing view p) (sym (merged_first s list groups (subst (λ r. AllByRecursion (λ (t : SignedRow). row_cmp r t.row ≡ Less) groups) same up)))
        by Greater e rest = ap (passing view p) (merged_greater s list g groups e) ∙ skip_one g (merged (s ∷ list) groups) fails

  skip_front : (gs groups list : List SignedRow) → AllByRecursion (λ (g : SignedRow). Fails g.row) gs → RowsAscend (gs ++ groups) → passing view p (merged list (gs ++ groups)) ≡ passing view p (merged list groups)
  skip_front [] groups list fail up = refl
  skip_front (g ∷ gs) groups list fail up = skip_group g (gs ++ groups) fail.0 up.0 list ∙ skip_front gs groups list fail.1 up.1

  -- the versions up to a place, and those from a place on
  pub without_front : (n i : ℕ) (vs : List GroupVersion) (list : List SignedRow) → Apart Precedes vs → NonePasses view p (take i vs) → passing view p (merged list (groups_at n (drop i vs))) ≡ passing view p (merged list (groups_at n vs))
  without_front n i vs list order fail =
      let front = groups_at n (take i vs) in
      let rest = groups_at n (drop i vs) in
      let all : groups_at n vs ≡ front ++ rest = ap (groups_at n) (sym (take-append-drop i vs)) ∙ groups_append n (take i vs) (drop i vs) in
      sym (skip_front front rest list (all_there (λ g. Fails g.row) n (take i vs) fail) (subst RowsAscend all (groups_ascend n vs order))) ∙ ap (λ groups. passing view p (merged list groups)) (sym all)

  pub without_rest : (n : ℕ) (vs : List GroupVersion) (list : List SignedRow) → Apart Precedes vs → NonePasses view p vs → passing view p (merged list (groups_at n vs)) ≡ passing view p (filter has_tuples list)
  without_rest n vs list order fail =
      let groups = groups_at n vs in
      let all = append-nil groups in
      ap (λ l. passing view p (merged list l)) (sym all) ∙ skip_front groups [] list (all_there (λ g. Fails g.row) n vs fail) (subst RowsAscend (sym all) (groups_ascend n vs order))
