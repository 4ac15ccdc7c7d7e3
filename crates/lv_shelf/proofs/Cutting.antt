-- Where a test stops to pass, as a search finds it.
use Rattle.std.proofs.Common.{◌≡◌, ◌∙◌, ap, ℕ, zero, suc, ◌+◌, ◌-◌, ◌<◌, ◌≤◌, Bool, true, false, not, cond, List, [], ◌∷◌, length, take, drop, filter, get_or, Some, refl, arith}
use Rattle.std.specs.Prelude.{slice_get}
use Rattle.std.specs.List.{AllByRecursion}
use Rattle.std.proofs.lemmas.List.{get_or-drop, get_or-take, length-drop, length-take-le}
use Rattle.lv_shelf.specs.Cuts.{Falls, IsCut}

pub all_at : {X : Type 0} (P : X → Type 0) (xs : List X) (i : ℕ) (d : X) → i < length xs → AllByRecursion P xs → P (get_or xs i d)
all_at P [] i d lt a = absurd (omega arith)
all_at P (x ∷ xs) zero d lt a = a.0
all_at P (x ∷ xs) (suc i) d lt a = all_at P xs i d (omega arith) a.1

pub falls_at : {X : Type 0} (p : X → Bool) (xs : List X) (i j : ℕ) (d : X) → Falls p xs → i ≤ j → j < length xs → p (get_or xs j d) ≡ true → p (get_or xs i d) ≡ true
falls_at p [] i j d h le lt t = absurd (omega arith)
falls_at p (x ∷ xs) zero zero d h le lt t = t
falls_at p (x ∷ xs) zero (suc j) d h le lt t = all_at (λ later. p later ≡ true → p x ≡ true) xs j d (omega arith) h.0 t
falls_at p (x ∷ xs) (suc i) zero d h le lt t = absurd (omega arith)
falls_at p (x ∷ xs) (suc i) (suc j) d h le lt t = falls_at p xs i j d h.1 (omega arith) (omega arith) t

pub fails_at : {X : Type 0} (p : X → Bool) (xs : List X) (i j : ℕ) (d : X) → Falls p xs → i ≤ j → j < length xs → p (get_or xs i d) ≡ false → p (get_or xs j d) ≡ false
fails_at p xs i j d h le lt t = by (p (get_or xs j d)) refl
  where
    by : (b : Bool) → p (get_or xs j d) ≡ b → b ≡ false
    by true e = let f = falls_at p xs i j d h le lt e in cc
    by false e = refl

all_from : {X : Type 0} (P : X → Type 0) (xs : List X) → ((k : ℕ) (d : X) → k < length xs → P (get_or xs k d)) → AllByRecursion P xs
all_from P [] f = tt
all_from P (x ∷ xs) f = (f 0 x (omega arith), all_from P xs (λ k d lt. f (suc k) d (omega arith)))

pub cut_from : {X : Type 0} (p : X → Bool) (xs : List X) (i : ℕ) → i ≤ length xs → ((k : ℕ) (d : X) → k < i → p (get_or xs k d) ≡ true) → ((k : ℕ) (d : X) → i ≤ k → k < length xs → p (get_or xs k d) ≡ false) → IsCut p i xs
cut_from p xs zero le h g = all_from (λ x. p x ≡ false) xs (λ k d lt. g k d (omega arith) lt)
cut_from p [] (suc i) le h g = absurd (omega arith)
cut_from p (x ∷ xs) (suc i) le h g =
    (h 0 x (omega arith), cut_from p xs i (omega arith) (λ k d lt. h (suc k) d (omega arith)) (λ k d a b. g (suc k) d (omega arith) (omega arith)))

-- the same among the elements from one place up to another
pub cut_within : {X : Type 0} (p : X → Bool) (xs : List X) (first i end : ℕ) → first ≤ i → i ≤ end → end ≤ length xs → ((k : ℕ) (d : X) → first ≤ k → k < i → p (get_or xs k d) ≡ true)
    → ((k : ℕ) (d : X) → i ≤ k → k < end → p (get_or xs k d) ≡ false) → IsCut p (i - first) (take (end - first) (drop first xs))
cut_within {X} p xs first i end le le' within h g =
    let some = take (end - first) (drop first xs) in
    let long : length some ≡ end - first = length-take-le (end - first) (drop first xs) (omega (arith, length-drop first xs, within)) in
    let at : (k : ℕ) (d : X) → k < end - first → get_or some k d ≡ get_or xs (first + k) d = λ k d lt. get_or-take (end - first) (drop first xs) k d lt ∙ get_or-drop first xs k d in
    cut_from p some (i - first) (omega (arith, long, le, le')) (λ k d lt. ap p (at k d (omega (arith, lt, le, le'))) ∙ h (first + k) d (omega arith) (omega (arith, lt, le)))
    (λ k d a b. ap p (at k d (omega (arith, b, long))) ∙ g (first + k) d (omega (arith, a, le)) (omega (arith, b, long)))

-- what a read of a place gives
pub got : {X : Type 0} (xs : List X) (i : ℕ) (x d : X) → slice_get xs i ≡ Some x → get_or xs i d ≡ x
got [] i x d e = cc
got (y ∷ xs) zero x d e = cc
got (y ∷ xs) (suc i) x d e = got xs i x d e

pub got_within : {X : Type 0} (xs : List X) (i : ℕ) (x : X) → slice_get xs i ≡ Some x → i < length xs
got_within [] i x e = cc
got_within (y ∷ xs) zero x e = omega arith
got_within (y ∷ xs) (suc i) x e = let lt = got_within xs i x e in omega arith

pub cut_long : {X : Type 0} (p : X → Bool) (i : ℕ) (xs : List X) → IsCut p i xs → i ≤ length xs
cut_long p zero xs h = omega arith
cut_long p (suc i) [] h = absurd h
cut_long p (suc i) (x ∷ xs) h = let le = cut_long p i xs h.1 in omega arith

pub cut_at : {X : Type 0} (p : X → Bool) (i k : ℕ) (xs : List X) (d : X) → IsCut p i xs → k < i → p (get_or xs k d) ≡ true
cut_at p zero k xs d h lt = absurd (omega arith)
cut_at p (suc i) k [] d h lt = absurd h
cut_at p (suc i) zero (x ∷ xs) d h lt = h.0
cut_at p (suc i) (suc k) (x ∷ xs) d h lt = cut_at p i k xs d h.1 (omega arith)

pub cut_fails : {X : Type 0} (p : X → Bool) (i k : ℕ) (xs : List X) (d : X) → IsCut p i xs → i ≤ k → k < length xs → p (get_or xs k d) ≡ false
cut_fails p zero k xs d h le lt = all_at (λ x. p x ≡ false) xs k d lt h
cut_fails p (suc i) k [] d h le lt = absurd h
cut_fails p (suc i) zero (x ∷ xs) d h le lt = absurd (omega (arith, le))
cut_fails p (suc i) (suc k) (x ∷ xs) d h le lt = cut_fails p i k xs d h.1 (omega (arith, le)) (omega (arith, lt))

pub not_not : (b c : Bool) → not b ≡ c → b ≡ not c
not_not true c e = ap not e
not_not false c e = ap not e

-- what a look at the element before a place, and at the one there, says of the others
pub passed_up_to : {X : Type 0} (p : X → Bool) (xs : List X) (i : ℕ) (x : X) → Falls p xs → 0 < i → slice_get xs (i - 1) ≡ Some x → p x ≡ true → (k : ℕ) (d : X) → k < i → p (get_or xs k d) ≡ true
passed_up_to p xs i x h more e t k d lt = falls_at p xs k (i - 1) d h (omega (arith, more, lt)) (got_within xs (i - 1) x e) (ap p (got xs (i - 1) x d e) ∙ t)

pub failed_from : {X : Type 0} (p : X → Bool) (xs : List X) (i : ℕ) (x : X) → Falls p xs → slice_get xs i ≡ Some x → p x ≡ false → (k : ℕ) (d : X) → i ≤ k → k < length xs → p (get_or xs k d) ≡ false
failed_from p xs i x h e t k d le lt = fails_at p xs i k d h le lt (ap p (got xs i x d e) ∙ t)

-- ---- a filter
pub all_kept : {X : Type 0} (p : X → Bool) (xs : List X) → AllByRecursion (λ x. p x ≡ true) (filter p xs)
all_kept p [] = tt
all_kept p (x ∷ xs) = by (p x) refl (all_kept p xs)
  where
    by : (t : Bool) → p x ≡ t → AllByRecursion (λ y. p y ≡ true) (filter p xs) → AllByRecursion (λ y. p y ≡ true) (cond t (x ∷ filter p xs) (filter p xs))
    by true f e = (f, e)
    by false f e = e
