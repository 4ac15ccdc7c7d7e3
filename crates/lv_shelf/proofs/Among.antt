-- Numbers among others, and lists of numbers without a double.
use Rattle.std.proofs.Common.{◌≡◌, ℕ, zero, suc, ◌+◌, ◌<◌, ◌≤◌, Bool, true, false, cond, List, [], ◌∷◌, length, get_or, filter, refl, sym, ap, ◌∙◌, subst, arith}
use Rattle.std.specs.Prelude.{◌||◌, ◌==◌, not}
use Rattle.std.specs.List.{AllByRecursion, insert, remove}
use Rattle.std.proofs.lemmas.Bool.{eq-eqb}
use Rattle.std.proofs.lemmas.Bool.Decides.{nat_tests}
use Rattle.std.proofs.lemmas.Map.Views.{any-filter_same}
use Rattle.lv_schema.proofs.Apart.{all_weaker, all_both, all_filter, apart_filter}
use Rattle.lv_shelf.specs.Cuts.{Apart}
use Rattle.lv_shelf.specs.Shelves.{Differ, is_among}
use Rattle.lv_shelf.proofs.Cutting.{all_at, all_kept}

pub eq_of : (q p : ℕ) → (q == p) ≡ true → q ≡ p
eq_of q p e = grind (arith, nat_tests)

pub ne_of : (q p : ℕ) → (q == p) ≡ false → Differ q p
ne_of q p e same = let f = eq-eqb q p same in cc

or_left : (a b : Bool) → a ≡ true → (a || b) ≡ true
or_left a b e = ap (λ t. t || b) e

or_right : (a b : Bool) → b ≡ true → (a || b) ≡ true
or_right true b e = refl
or_right false b e = e

-- what holds of each number holds of one among them
pub among_all : (P : ℕ → Type 0) (q : ℕ) (ps : List ℕ) → is_among q ps ≡ true → AllByRecursion P ps → P q
among_all P q [] h a = cc
among_all P q (p ∷ ps) h a = by (q == p) refl (λ h'. among_all P q ps h' a.1)
  where
    by : (b : Bool) → (q == p) ≡ b → (is_among q ps ≡ true → P q) → P q
    by true e f = subst P (sym (eq_of q p e)) a.0
    by false e f = f (sym (ap (λ b. b || is_among q ps) e) ∙ h)

pub among_insert_here : (q : ℕ) (ps : List ℕ) (i : ℕ) → is_among q (insert ps i q) ≡ true
among_insert_here q ps zero = or_left (q == q) (is_among q ps) (eq-eqb q q refl)
among_insert_here q [] (suc i) = or_left (q == q) false (eq-eqb q q refl)
among_insert_here q (p ∷ ps) (suc i) = or_right (q == p) (is_among q (insert ps i q)) (among_insert_here q ps i)

pub among_insert : (q p : ℕ) (ps : List ℕ) (i : ℕ) → is_among q ps ≡ true → is_among q (insert ps i p) ≡ true
among_insert q p ps zero h = or_right (q == p) (is_among q ps) h
among_insert q p [] (suc i) h = cc
among_insert q p (r ∷ ps) (suc i) h = by (q == r) refl (λ h'. among_insert q p ps i h')
  where
    by : (b : Bool) → (q == r) ≡ b → (is_among q ps ≡ true → is_among q (insert ps i p) ≡ true) → is_among q (r ∷ insert ps i p) ≡ true
    by true e f = or_left (q == r) (is_among q (insert ps i p)) e
    by false e f = or_right (q == r) (is_among q (insert ps i p)) (f (sym (ap (λ b. b || is_among q ps) e) ∙ h))

pub among_filter : (t : ℕ → Bool) (q : ℕ) (ps : List ℕ) → is_among q ps ≡ true → t q ≡ true → is_among q (filter t ps) ≡ true
among_filter t q ps h e = any-filter_same (λ p. q == p) t true (λ k f. subst (λ r. t r ≡ true) (eq_of q k f) e) ps ∙ h

pub among_remove : (q : ℕ) (ps : List ℕ) (i : ℕ) → is_among q ps ≡ true → Differ q (get_or ps i 0) → is_among q (remove ps i) ≡ true
among_remove q [] i h ne = cc
among_remove q (p ∷ ps) zero h ne = by (q == p) refl
  where
    by : (b : Bool) → (q == p) ≡ b → is_among q ps ≡ true
    by true e = absurd (ne (eq_of q p e))
    by false e = sym (ap (λ b. b || is_among q ps) e) ∙ h
among_remove q (p ∷ ps) (suc i) h ne = by (q == p) refl (λ h'. among_remove q ps i h' ne)
  where
    by : (b : Bool) → (q == p) ≡ b → (is_among q ps ≡ true → is_among q (remove ps i) ≡ true) → is_among q (p ∷ remove ps i) ≡ true
    by true e f = or_left (q == p) (is_among q (remove ps i)) e
    by false e f = or_right (q == p) (is_among q (remove ps i)) (f (sym (ap (λ b. b || is_among q ps) e) ∙ h))

-- ---- an element that goes
pub all_remove : {X : Type 0} (P : X → Type 0) (xs : List X) (i : ℕ) → AllByRecursion P xs → AllByRecursion P (remove xs i)
all_remove P [] zero a = tt
all_remove P [] (suc i) a = tt
all_remove P (x ∷ xs) zero a = a.1
all_remove P (x ∷ xs) (suc i) a = (a.0, all_remove P xs i a.1)

pub apart_remove : {X : Type 0} (R : X → X → Type 0) (xs : List X) (i : ℕ) → Apart R xs → Apart R (remove xs i)
apart_remove R [] zero a = tt
apart_remove R [] (suc i) a = tt
apart_remove R (x ∷ xs) zero a = a.1
apart_remove R (x ∷ xs) (suc i) a = (all_remove (R x) xs i a.0, apart_remove R xs i a.1)

pub removed_differ : (ps : List ℕ) (i : ℕ) → i < length ps → Apart Differ ps → AllByRecursion (λ q. Differ q (get_or ps i 0)) (remove ps i)
removed_differ [] i lt a = absurd (omega arith)
removed_differ (p ∷ ps) zero lt a = all_weaker (Differ p) (λ q. Differ q p) (λ q ne e. ne (sym e)) ps a.0
removed_differ (p ∷ ps) (suc i) lt a = (all_at (Differ p) ps i 0 (omega arith) a.0, removed_differ ps i (omega arith) a.1)

-- ---- so many different numbers lie below a bound
all_pass : (t : ℕ → Bool) (ps : List ℕ) → AllByRecursion (λ p. t p ≡ true) ps → filter t ps ≡ ps
all_pass t [] a = refl
all_pass t (p ∷ ps) a = ap (λ b. cond b (p ∷ filter t ps) (filter t ps)) a.0 ∙ ap (λ l. p ∷ l) (all_pass t ps a.1)

abbrev others_than : ℕ → ℕ → Bool
others_than n q = not (q == n)

one_gone : (n : ℕ) (ps : List ℕ) → Apart Differ ps → length ps ≤ length (filter (others_than n) ps) + 1
one_gone n [] a = omega arith
one_gone n (p ∷ ps) a = by (p == n) refl (one_gone n ps a.1)
  where
    differs : (q : ℕ) → p ≡ n → Differ p q → others_than n q ≡ true
    differs q same ne = at (q == n) refl
      where
        at : (b : Bool) → (q == n) ≡ b → not b ≡ true
        at true e = absurd (ne (same ∙ sym (eq_of q n e)))
        at false e = refl

    by : (b : Bool) → (p == n) ≡ b → length ps ≤ length (filter (others_than n) ps) + 1
        → length (p ∷ ps) ≤ length (cond (not b) (p ∷ filter (others_than n) ps) (filter (others_than n) ps)) + 1
    by true e ih =
        let same = all_pass (others_than n) ps (all_weaker (Differ p) (λ q. others_than n q ≡ true) (λ q ne. differs q (eq_of p n e) ne) ps a.0) in
        omega (arith, ap length same)
    by false e ih = omega (arith, ih)

pub most : (n : ℕ) (ps : List ℕ) → AllByRecursion (λ q. q < n) ps → Apart Differ ps → length ps ≤ n
most zero [] a b = omega arith
most zero (p ∷ ps) a b = let h = a.0 in absurd (omega arith)
most (suc n) ps a b =
    let rest = filter (others_than n) ps in
    let below = all_both (λ q. q < suc n) (λ q. others_than n q ≡ true) (λ q. q < n) (λ q lt t. less q lt t) rest (all_filter (λ q. q < suc n) (others_than n) ps a) (all_kept (others_than n) ps) in
    omega (arith, most n rest below (apart_filter Differ (others_than n) ps b), one_gone n ps b)
  where
    less : (q : ℕ) → q < suc n → others_than n q ≡ true → q < n
    less q lt t = grind (arith, nat_tests)
