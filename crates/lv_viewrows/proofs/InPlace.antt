-- What a change of a row that has a group leaves where no version has ended and that of the group is replaced.
use Rattle.std.proofs.Common.{◌≡◌, ℕ, zero, suc, ◌+◌, ◌-◌, ◌<◌, Bool, true, false, cond, List, [], ◌∷◌, length, filter, set, Some, refl, sym, ap, ◌∙◌, subst, arith}
use Rattle.std.specs.Prelude.{slice_get}
use Rattle.std.specs.List.{AllByRecursion, insert, remove}
use Rattle.std.specs.Ordering.{is_lt}
use Rattle.std.proofs.lemmas.Bool.Decides.{nat_tests}
use Rattle.std.proofs.lemmas.Cmp.{tied_itself}
use Rattle.lv_values.specs.declared.value.Value.{Value}
use Rattle.lv_schema.specs.declared.signed.SignedRow.{SignedRow}
use Rattle.lv_schema.specs.Versions.{ends_after}
use Rattle.lv_group.specs.Gathered.{has_tuples}
use Rattle.lv_shelf.specs.Cuts.{Apart, IsCut}
use Rattle.lv_shelf.proofs.Cutting.{got_within}
use Rattle.lv_viewrows.specs.declared.version.GroupVersion.{GroupVersion}
use Rattle.lv_viewrows.specs.Changed.{group_with}
use Rattle.lv_viewrows.specs.Kept.{version_from}
use Rattle.lv_viewrows.specs.Standing.{AreOpen, MeetAll, Precedes, changed, comes_before, ended_at, is_current, not_ended_before, pruned}
use Rattle.lv_viewrows.proofs.Open.{all_pass, open_ends_after}
use Rattle.lv_viewrows.proofs.Order.{version_total}
use Rattle.lv_viewrows.proofs.Replacing.{HasCurrent, is_followed, is_left}

-- ---- lists of which each element passes: one that does not stands in the place of one, alone or in front of one that does
without_followed : {X : Type 0} (q : X → Bool) (i : ℕ) (xs : List X) (y z : X) → i < length xs → AllByRecursion (λ x. q x ≡ true) xs → q y ≡ false → q z ≡ true → filter q (insert (set xs i y) (suc i) z) ≡ set xs i z
without_followed q i [] y z lt a f t = absurd (omega arith)
without_followed q zero (x ∷ xs) y z lt a f t =
    (λ i. cond (f i) (y ∷ filter q (z ∷ xs)) (filter q (z ∷ xs))) ∙ (λ i. cond (t i) (z ∷ filter q xs) (filter q xs)) ∙ ap (λ l. z ∷ l) (all_pass q xs a.1)
without_followed q (suc i) (x ∷ xs) y z lt a f t =
    (λ k. cond (a.0 k) (x ∷ filter q (insert (set xs i y) (suc i) z)) (filter q (insert (set xs i y) (suc i) z))) ∙ ap (λ l. x ∷ l) (without_followed q i xs y z (omega arith) a.1 f t)

without_alone : {X : Type 0} (q : X → Bool) (i : ℕ) (xs : List X) (y : X) → i < length xs → AllByRecursion (λ x. q x ≡ true) xs → q y ≡ false → filter q (set xs i y) ≡ remove xs i
without_alone q i [] y lt a f = absurd (omega arith)
without_alone q zero (x ∷ xs) y lt a f = (λ i. cond (f i) (y ∷ filter q xs) (filter q xs)) ∙ all_pass q xs a.1
without_alone q (suc i) (x ∷ xs) y lt a f =
    (λ k. cond (a.0 k) (x ∷ filter q (set xs i y)) (filter q (set xs i y))) ∙ ap (λ l. x ∷ l) (without_alone q i xs y (omega arith) a.1 f)

-- the last of the elements that pass in front, once it does not or goes
cut_set : {X : Type 0} (p : X → Bool) (i : ℕ) (xs : List X) (y : X) → IsCut p (suc i) xs → p y ≡ false → IsCut p i (set xs i y)
cut_set p i [] y h f = absurd h
cut_set p zero (x ∷ xs) y h f = (f, h.1)
cut_set p (suc i) (x ∷ xs) y h f = (h.0, cut_set p i xs y h.1 f)

cut_remove : {X : Type 0} (p : X → Bool) (i : ℕ) (xs : List X) → IsCut p (suc i) xs → IsCut p i (remove xs i)
cut_remove p i [] h = absurd h
cut_remove p zero (x ∷ xs) h = h.1
cut_remove p (suc i) (x ∷ xs) h = (h.0, cut_remove p i xs h.1)

-- a version does not come before its own row and commit
not_before : (number : ℕ) (group : SignedRow) → comes_before group.row number (version_from number group) ≡ false
not_before number group = ap is_lt (tied_itself version_total (version_from number group))

-- ---- a group in the place of another one, and one that goes: what the change leaves, without the version that it ends
module _ (number : ℕ) (s : SignedRow) (vs : List GroupVersion) (at : ℕ) (item : GroupVersion) (order : Apart Precedes vs) (open_now : AreOpen vs) (meets : MeetAll number vs s) (some : 0 < at)
    (cut : IsCut (comes_before s.row number) at vs) (get : slice_get vs (at - 1) ≡ Some item) (here : is_current s.row item ≡ true) where
  was : HasCurrent number s vs at (not_ended_before at vs) item
  was = record { order = order; meets = meets; some = some; cut = cut; place = refl; get = get; here = here }

  within : at - 1 < length vs
  within = got_within vs (at - 1) item get

  next_cut : IsCut (comes_before s.row number) (suc (at - 1)) vs
  next_cut = let e : at ≡ suc (at - 1) = omega (arith, some) in subst (λ n. IsCut (comes_before s.row number) n vs) e cut

  goes : ends_after number (Some number) ≡ false
  goes = grind (arith, nat_tests)

  abbrev stays : GroupVersion → Bool
  stays v = ends_after number v.until

  pub set_changed : (group : SignedRow) → group ≡ group_with item.group s → has_tuples group ≡ true → set vs (at - 1) (version_from number group) ≡ pruned number (changed number s vs)
  set_changed group joins there =
      let w = version_from number group in
      let next : suc (at - 1) ≡ at - 1 + 1 = omega arith in
      sym (without_followed stays (at - 1) vs (ended_at number item) w within (open_ends_after number vs open_now) goes refl)
      ∙ ap (λ n. pruned number (insert (set vs (at - 1) (ended_at number item)) n w)) next
      ∙ ap (pruned number) (is_followed was group joins there (insert (set vs (at - 1) (ended_at number item)) (at - 1 + 1) w) refl).is

  pub set_cut : (group : SignedRow) → group ≡ group_with item.group s → IsCut (comes_before s.row number) (at - 1) (set vs (at - 1) (version_from number group))
  set_cut group joins =
      let row : group.row ≡ s.row = ap (λ (g : SignedRow). g.row) joins in
      cut_set (comes_before s.row number) (at - 1) vs (version_from number group) next_cut
      (subst (λ (r : List Value). comes_before r number (version_from number group) ≡ false) row (not_before number group))

  pub remove_changed : has_tuples (group_with item.group s) ≡ false → remove vs (at - 1) ≡ pruned number (changed number s vs)
  remove_changed gone =
      sym (without_alone stays (at - 1) vs (ended_at number item) within (open_ends_after number vs open_now) goes)
      ∙ ap (pruned number) (is_left was (group_with item.group s) refl gone (set vs (at - 1) (ended_at number item)) refl).is

  pub remove_cut : IsCut (comes_before s.row number) (at - 1) (remove vs (at - 1))
  remove_cut = cut_remove (comes_before s.row number) (at - 1) vs next_cut
