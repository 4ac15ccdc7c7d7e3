-- The first number that passes a test.
use Rattle.std.proofs.Common.{◌≡◌, ℕ, zero, suc, ◌+◌, ◌<◌, Bool, true, false, cond, [], ◌∷◌, Some, refl, ap, subst, arith}
use Rattle.std.specs.Prelude.{filter, slice_get}
use Rattle.std.specs.List.{range_with_len}

pub first_at : (p : ℕ → Bool) (a n k t : ℕ) → k < n → t ≡ a + k → filter p (range_with_len a k) ≡ [] → p t ≡ true → slice_get (filter p (range_with_len a n)) 0 ≡ Some t
first_at p a zero k t lt e none passed = absurd (omega (arith, lt))
first_at p a (suc n) zero t lt e none passed = by (p a) refl (subst (λ i. p i ≡ true) (omega (arith, e)) passed)
  where
    by : (b : Bool) → p a ≡ b → p a ≡ true → slice_get (cond b (a ∷ filter p (range_with_len (a + 1) n)) (filter p (range_with_len (a + 1) n))) 0 ≡ Some t
    by true f g = ap Some (omega (arith, e))
    by false f g = cc
first_at p a (suc n) (suc k) t lt e none passed = by (p a) none (λ g. first_at p (a + 1) n k t (omega (arith, lt)) (omega (arith, e)) g passed)
  where
    by : (b : Bool) → cond b (a ∷ filter p (range_with_len (a + 1) k)) (filter p (range_with_len (a + 1) k)) ≡ []
        → (filter p (range_with_len (a + 1) k) ≡ [] → slice_get (filter p (range_with_len (a + 1) n)) 0 ≡ Some t) → slice_get (cond b (a ∷ filter p (range_with_len (a + 1) n)) (filter p (range_with_len (a + 1) n))) 0 ≡ Some t
    by true f g = cc
    by false f g = g f

pub none_more : (p : ℕ → Bool) (a k t : ℕ) → t ≡ a + k → filter p (range_with_len a k) ≡ [] → p t ≡ false → filter p (range_with_len a (suc k)) ≡ []
none_more p a zero t e none refused = by (p a) (subst (λ i. p i ≡ false) (omega (arith, e)) refused)
  where
    by : (b : Bool) → b ≡ false → cond b (a ∷ []) [] ≡ []
    by true f = cc
    by false f = refl
none_more p a (suc k) t e none refused = by (p a) none (λ f. none_more p (a + 1) k t (omega (arith, e)) f refused)
  where
    by : (b : Bool) → cond b (a ∷ filter p (range_with_len (a + 1) k)) (filter p (range_with_len (a + 1) k)) ≡ []
        → (filter p (range_with_len (a + 1) k) ≡ [] → filter p (range_with_len (a + 1) (suc k)) ≡ []) → cond b (a ∷ filter p (range_with_len (a + 1) (suc k))) (filter p (range_with_len (a + 1) (suc k))) ≡ []
    by true f g = cc
    by false f g = g f
