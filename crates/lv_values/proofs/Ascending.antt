-- What a sort leaves is the items in ascending order.
use Rattle.std.proofs.Common.{◌≡◌, ℕ, ◌+◌, suc, Bool, true, false, cond, List, [], ◌∷◌, refl, sym, ◌∙◌, ap, subst, arith, add-one}
use Rattle.std.specs.declared.cmp.Ordering.{Ordering}
use Rattle.std.specs.declared.cmp.Ordering.TheVariants.{Less, Equal, Greater}
use Rattle.std.specs.Ordering.{is_eq, is_gt, is_lt}
use Rattle.std.specs.Cmp.{IsTotalOrder}
use Rattle.std.specs.List.{sum_by}
use Rattle.std.specs.List.Sorted.{IsSorted, IsPermutation}
use Rattle.std.proofs.lemmas.Cmp.{upto, tied_itself}
use Rattle.std.proofs.lemmas.List.Sums.{sum_by-cons}
use Rattle.std.proofs.lemmas.List.Sorted.{sum_by-IsPermutation}
use Rattle.lv_values.specs.Ascending.{placed, ascending}

module _ {A : Type 0} (R : A → A → Ordering) (o : IsTotalOrder R) (same : (x y : A) → R x y ≡ Equal → x ≡ y) where
  -- x is at most each of them
  abbrev Below : A → List A → Type 0
  Below x [] = Unit {0}
  Below x (y ∷ ys) = (is_gt (R x y) ≡ false) × Below x ys

  -- each is at most those after it
  abbrev Up : List A → Type 0
  Up [] = Unit {0}
  Up (x ∷ xs) = Below x xs × Up xs

  one : A → A → ℕ
  one z x = cond (is_eq (R z x)) 1 0

  -- how often z is there
  abbrev hits : A → List A → ℕ
  hits z = sum_by (one z)

  not_above : (x y : A) → is_gt (R x y) ≡ true → is_gt (R y x) ≡ false
  not_above x y g = by (R x y) refl g
    where
      by : (r : Ordering) → R x y ≡ r → is_gt r ≡ true → is_gt (R y x) ≡ false
      by Less e g = cc
      by Equal e g = cc
      by Greater e g = rw (o.antisymm y x, e) refl

  below_along : (x y : A) (ys : List A) → is_gt (R x y) ≡ false → Below y ys → Below x ys
  below_along x y [] h b = tt
  below_along x y (z ∷ zs) h b = (upto o x y z h b.0, below_along x y zs h b.1)

  below_placed : (w x : A) (ys : List A) → is_gt (R w x) ≡ false → Below w ys → Below w (placed R x ys)
  below_placed w x [] h b = (h, tt)
  below_placed w x (y ∷ ys) h b = by (is_gt (R x y)) (below_placed w x ys h b.1)
    where
      by : (t : Bool) → Below w (placed R x ys) → Below w (cond t (y ∷ placed R x ys) (x ∷ y ∷ ys))
      by true r = (b.0, r)
      by false r = (h, b)

  up_placed : (x : A) (ys : List A) → Up ys → Up (placed R x ys)
  up_placed x [] u = (tt, tt)
  up_placed x (y ∷ ys) u = by (is_gt (R x y)) refl (up_placed x ys u.1)
    where
      by : (t : Bool) → is_gt (R x y) ≡ t → Up (placed R x ys) → Up (cond t (y ∷ placed R x ys) (x ∷ y ∷ ys))
      by true e r = (below_placed y x ys (not_above x y e) u.0, r)
      by false e r = ((e, below_along x y ys e u.0), u)

  up_ascending : (xs : List A) → Up (ascending R xs)
  up_ascending [] = tt
  up_ascending (x ∷ xs) = up_placed x (ascending R xs) (up_ascending xs)

  hits_placed : (z x : A) (ys : List A) → hits z (placed R x ys) ≡ one z x + hits z ys
  hits_placed z x [] = omega arith
  hits_placed z x (y ∷ ys) = by (is_gt (R x y)) (hits_placed z x ys)
    where
      by : (t : Bool) → hits z (placed R x ys) ≡ one z x + hits z ys → hits z (cond t (y ∷ placed R x ys) (x ∷ y ∷ ys)) ≡ one z x + hits z (y ∷ ys)
      by true r = omega (arith, r, sum_by-cons (one z) y (placed R x ys), sum_by-cons (one z) y ys)
      by false r = omega (arith, sum_by-cons (one z) x (y ∷ ys), sum_by-cons (one z) y ys)

  hits_ascending : (z : A) (xs : List A) → hits z (ascending R xs) ≡ hits z xs
  hits_ascending z [] = refl
  hits_ascending z (x ∷ xs) = omega (arith, hits_placed z x (ascending R xs), hits_ascending z xs, sum_by-cons (one z) x xs)

  less_along : (x y z : A) → R x y ≡ Less → is_gt (R y z) ≡ false → R x z ≡ Less
  less_along x y z l b = by (R y z) refl b
    where
      by : (r : Ordering) → R y z ≡ r → is_gt r ≡ false → R x z ≡ Less
      by Less e g = o.trans x y z l e
      by Equal e g = subst (λ (w : A). R x w ≡ Less) (same y z e) l
      by Greater e g = cc

  one_less : (x z : A) → R x z ≡ Less → one x z ≡ 0
  unfolding one
  one_less x z e = rw e refl

  -- what is less than each is not there
  no_hits : (x y : A) (zs : List A) → R x y ≡ Less → Below y zs → hits x zs ≡ 0
  no_hits x y [] l b = refl
  no_hits x y (z ∷ zs) l b = let r = no_hits x y zs l b.1 in let e = one_less x z (less_along x y z l b.0) in omega (arith, sum_by-cons (one x) z zs)

  one_self : (x : A) → one x x ≡ 1
  unfolding one
  one_self x = rw (tied_itself o x) refl

  no_self : (x y : A) (ys : List A) → R x y ≡ Less → Below y ys → hits x (y ∷ ys) ≡ 0
  no_self x y ys l b = no_hits x y (y ∷ ys) l (rw (tied_itself o y) refl, b)

  -- ascending lists with the same items are equal
  unique : (xs ys : List A) → Up xs → Up ys → ((z : A) → hits z xs ≡ hits z ys) → xs ≡ ys
  unique [] [] u v h = refl
  unique [] (y ∷ ys) u v h = absurd (omega (arith, h y, one_self y, sum_by-cons (one y) y ys))
  unique (x ∷ xs) [] u v h = absurd (omega (arith, h x, one_self x, sum_by-cons (one x) x xs))
  unique (x ∷ xs) (y ∷ ys) u v h = by (R x y) refl (unique xs ys u.1 v.1)
    where
      by : (r : Ordering) → R x y ≡ r → (((z : A) → hits z xs ≡ hits z ys) → xs ≡ ys) → (x ∷ xs) ≡ (y ∷ ys)
      by Less e f = absurd (omega (arith, h x, one_self x, no_self x y ys e v.0, sum_by-cons (one x) x xs))
      by Equal e f = let p = same x y e in let q : xs ≡ ys = f (λ z. let a : one z x ≡ one z y = ap (one z) p in omega (arith, h z, sum_by-cons (one z) x xs, sum_by-cons (one z) y ys)) in cc
      by Greater e f = let l : R y x ≡ Less = rw (o.antisymm y x, e) refl in absurd (omega (arith, h y, one_self y, no_self y x xs l u.0, sum_by-cons (one y) y ys))

  not_gt : (x y : A) → is_lt (R y x) ≡ false → is_gt (R x y) ≡ false
  not_gt x y g = by (R x y) refl
    where
      by : (r : Ordering) → R x y ≡ r → is_gt r ≡ false
      by Less e = refl
      by Equal e = refl
      by Greater e = let l : R y x ≡ Less = rw (o.antisymm y x, e) refl in let t : is_lt (R y x) ≡ true = rw l refl in cc

  up_from_sorted : (xs : List A) → IsSorted R xs → Up xs
  up_from_sorted [] s = tt
  up_from_sorted (x ∷ []) s = (tt, tt)
  up_from_sorted (x ∷ y ∷ ys) s =
      let u = up_from_sorted (y ∷ ys) (λ k d l h. simp add-one (simp add-one at (s (suc k) d (omega arith) (omega arith)))) in
      let g = not_gt x y (s 0 x (omega arith) (omega arith)) in
      ((g, below_along x y ys g u.0), u)

  -- what a sort leaves
  pub ascending_from_sort : (xs ys : List A) → IsPermutation xs ys → IsSorted R ys → ys ≡ ascending R xs
  ascending_from_sort xs ys p s = unique ys (ascending R xs) (up_from_sorted ys s) (up_ascending xs) (λ z. sum_by-IsPermutation (one z) xs ys p ∙ sym (hits_ascending z xs))

  -- lists on which every weight sums up to the same have one ascending order
  pub ascending_alike : (xs ys : List A) → ((weight : A → ℕ) → sum_by weight xs ≡ sum_by weight ys) → ascending R xs ≡ ascending R ys
  ascending_alike xs ys h = unique (ascending R xs) (ascending R ys) (up_ascending xs) (up_ascending ys) (λ z. hits_ascending z xs ∙ h (one z) ∙ sym (hits_ascending z ys))
