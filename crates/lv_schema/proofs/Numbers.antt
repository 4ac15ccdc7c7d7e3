-- Numbers in ascending order, filters of them, and what is among them.
use Rattle.std.proofs.Common.{◌≡◌, ℕ, zero, suc, ◌<◌, ◌≤◌, Bool, true, false, cond, List, [], ◌∷◌, ◌++◌, refl, sym, ap, subst, arith, length, get_or}
use Rattle.std.specs.Prelude.{◌⊎◌, filter}
use mathlib.Core.Logic.{inl, inr}
use Rattle.lv_schema.specs.Greatest.{Among}
use Rattle.lv_schema.specs.World.{numbers}

abbrev pub Each : {X : Type 0} → (X → Type 0) → List X → Type 0
Each P [] = Unit {0}
Each P (x ∷ xs) = P x × Each P xs

-- each is less than those after it
abbrev pub Rises : List ℕ → Type 0
Rises [] = Unit {0}
Rises (x ∷ xs) = Each (λ y. x < y) xs × Rises xs

pub each_append : {X : Type 0} (P : X → Type 0) (xs ys : List X) → Each P xs → Each P ys → Each P (xs ++ ys)
each_append P [] ys a b = b
each_append P (x ∷ xs) ys a b = (a.0, each_append P xs ys a.1 b)

pub each_weaker : {X : Type 0} (P Q : X → Type 0) (xs : List X) → ((x : X) → P x → Q x) → Each P xs → Each Q xs
each_weaker P Q [] f a = tt
each_weaker P Q (x ∷ xs) f a = (f x a.0, each_weaker P Q xs f a.1)

pub each_both : {X : Type 0} (P Q R : X → Type 0) (xs : List X) → ((x : X) → P x → Q x → R x) → Each P xs → Each Q xs → Each R xs
each_both P Q R [] f a b = tt
each_both P Q R (x ∷ xs) f a b = (f x a.0 b.0, each_both P Q R xs f a.1 b.1)

pub each_filter : {X : Type 0} (P : X → Type 0) (p : X → Bool) (xs : List X) → Each P xs → Each P (filter p xs)
each_filter P p [] a = tt
each_filter P p (x ∷ xs) a = by (p x) (each_filter P p xs a.1)
  where
    by : (t : Bool) → Each P (filter p xs) → Each P (cond t (x ∷ filter p xs) (filter p xs))
    by true e = (a.0, e)
    by false e = e

pub filter_each : {X : Type 0} (p : X → Bool) (xs : List X) → Each (λ x. p x ≡ true) (filter p xs)
filter_each p [] = tt
filter_each p (x ∷ xs) = by (p x) refl (filter_each p xs)
  where
    by : (t : Bool) → p x ≡ t → Each (λ y. p y ≡ true) (filter p xs) → Each (λ y. p y ≡ true) (cond t (x ∷ filter p xs) (filter p xs))
    by true f e = (f, e)
    by false f e = e

pub each_get : (P : ℕ → Type 0) (xs : List ℕ) (i : ℕ) → i < length xs → Each P xs → P (get_or xs i 0)
each_get P [] i lt a = absurd (omega arith)
each_get P (x ∷ xs) zero lt a = a.0
each_get P (x ∷ xs) (suc i) lt a = each_get P xs i (omega arith) a.1

pub rises_filter : (p : ℕ → Bool) (xs : List ℕ) → Rises xs → Rises (filter p xs)
rises_filter p [] a = tt
rises_filter p (x ∷ xs) a = by (p x) (rises_filter p xs a.1)
  where
    by : (t : Bool) → Rises (filter p xs) → Rises (cond t (x ∷ filter p xs) (filter p xs))
    by true e = (each_filter (λ y. x < y) p xs a.0, e)
    by false e = e

rises_push : (xs : List ℕ) (z : ℕ) → Rises xs → Each (λ y. y < z) xs → Rises (xs ++ z ∷ [])
rises_push [] z a b = (tt, tt)
rises_push (x ∷ xs) z a b = (each_append (λ y. x < y) xs (z ∷ []) a.0 (b.0, tt), rises_push xs z a.1 b.1)

pub numbers_each : (n : ℕ) → Each (λ k. (0 < k) × (k ≤ n)) (numbers n)
numbers_each zero = tt
numbers_each (suc n) = each_append (λ k. (0 < k) × (k ≤ suc n)) (numbers n) (suc n ∷ []) (each_weaker (λ k. (0 < k) × (k ≤ n)) (λ k. (0 < k) × (k ≤ suc n)) (numbers n) (λ x h. (h.0, omega arith)) (numbers_each n)) ((omega arith, omega arith), tt)

pub numbers_rise : (n : ℕ) → Rises (numbers n)
numbers_rise zero = tt
numbers_rise (suc n) = rises_push (numbers n) (suc n) (numbers_rise n) (each_weaker (λ k. (0 < k) × (k ≤ n)) (λ k. k < suc n) (numbers n) (λ x h. omega arith) (numbers_each n))

pub among_left : (xs ys : List ℕ) (k : ℕ) → Among xs k → Among (xs ++ ys) k
among_left [] ys k a = absurd a
among_left (x ∷ xs) ys k (inl e) = inl e
among_left (x ∷ xs) ys k (inr e) = inr (among_left xs ys k e)

pub among_right : (xs ys : List ℕ) (k : ℕ) → Among ys k → Among (xs ++ ys) k
among_right [] ys k a = a
among_right (x ∷ xs) ys k a = inr (among_right xs ys k a)

pub among_numbers : (n k : ℕ) → 0 < k → k ≤ n → Among (numbers n) k
among_numbers zero k a b = absurd (omega arith)
among_numbers (suc n) k a b = by (le_cases k n b) (λ h. among_numbers n k a h)
  where
    le_cases : (k n : ℕ) → k ≤ suc n → (k ≤ n) ⊎ (k ≡ suc n)
    le_cases k n h = grind arith

    by : (k ≤ n) ⊎ (k ≡ suc n) → (k ≤ n → Among (numbers n) k) → Among (numbers (suc n)) k
    by (inl h) g = among_left (numbers n) (suc n ∷ []) k (g h)
    by (inr h) g = among_right (numbers n) (suc n ∷ []) k (inl h)

pub among_filter : (p : ℕ → Bool) (xs : List ℕ) (k : ℕ) → Among xs k → p k ≡ true → Among (filter p xs) k
among_filter p [] k a e = absurd a
among_filter p (x ∷ xs) k a e = by (p x) refl a (λ m. among_filter p xs k m e)
  where
    by : (t : Bool) → p x ≡ t → (k ≡ x) ⊎ Among xs k → (Among xs k → Among (filter p xs) k) → Among (cond t (x ∷ filter p xs) (filter p xs)) k
    by true f (inl h) g = inl h
    by true f (inr h) g = inr (g h)
    by false f (inl h) g = let q : p k ≡ p x = ap p h in absurd (cc)
    by false f (inr h) g = g h

pub among_each : (P : ℕ → Type 0) (xs : List ℕ) (k : ℕ) → Each P xs → Among xs k → P k
among_each P [] k a m = absurd m
among_each P (x ∷ xs) k a (inl e) = subst P (sym e) a.0
among_each P (x ∷ xs) k a (inr m) = among_each P xs k a.1 m
