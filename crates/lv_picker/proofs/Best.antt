-- What a pass over a list has found so far, and what it comes to.
use Rattle.std.proofs.Common.{◌≡◌, ℕ, zero, suc, ◌+◌, Bool, true, false, cond, List, [], ◌∷◌, refl, sym, ◌∙◌, arith}
use Rattle.std.specs.Prelude.{◌||◌}
use Rattle.std.specs.List.{list_any}
use Rattle.std.proofs.lemmas.Bool.Decides.{nat_tests}
use Rattle.lv_schema.specs.declared.pending.Pending.{Pending}
use Rattle.lv_schema.specs.Policies.{first_best, chosen}
use Rattle.lv_picker.specs.Choices.{is_better}

pub chosen_is : (kind : ℕ) (list : List Pending) → chosen kind list ≡ first_best (is_better kind) list
chosen_is zero list = refl
chosen_is (suc zero) list = refl
chosen_is (suc (suc kind)) list = refl

-- the best so far stands at a place; the rest begins at another one
abbrev pub so_far : ℕ → ℕ → Pending → ℕ → List Pending → ℕ
so_far kind best b at rest = cond (list_any (λ q. is_better kind q b) rest) (at + first_best (is_better kind) rest) best

-- none is better than itself, and what is better than one is better than each that is no better
never : (kind : ℕ) (b : Pending) → is_better kind b b ≡ false
never zero b = grind (arith, nat_tests)
never (suc zero) b = grind (arith, nat_tests)
never (suc (suc kind)) b = grind (arith, nat_tests)

carries : (kind : ℕ) (r q b : Pending) → is_better kind r b ≡ true → is_better kind q b ≡ false → is_better kind r q ≡ true
carries zero r q b e f = grind (arith, nat_tests)
carries (suc zero) r q b e f = grind (arith, nat_tests)
carries (suc (suc kind)) r q b e f = grind (arith, nat_tests)

any_carries : (kind : ℕ) (q b : Pending) (rest : List Pending) → is_better kind q b ≡ false
    → list_any (λ r. is_better kind r b) rest ≡ true → list_any (λ r. is_better kind r q) rest ≡ true
any_carries kind q b [] f e = e
any_carries kind q b (r ∷ rest) f e = by (is_better kind r b) refl e (any_carries kind q b rest f)
  where
    or_true : (t : Bool) → (t || true) ≡ true
    or_true true = refl
    or_true false = refl

    by : (t : Bool) → is_better kind r b ≡ t → (t || list_any (λ p. is_better kind p b) rest) ≡ true
        → (list_any (λ p. is_better kind p b) rest ≡ true → list_any (λ p. is_better kind p q) rest ≡ true)
        → (is_better kind r q || list_any (λ p. is_better kind p q) rest) ≡ true
    by true g h ih = rw (carries kind r q b g f) refl
    by false g h ih = rw (ih h) (or_true (is_better kind r q))

-- at the beginning the first is the best
pub first_so_far : (kind : ℕ) (b : Pending) (rest : List Pending) → so_far kind 0 b 0 (b ∷ rest) ≡ chosen kind (b ∷ rest)
first_so_far kind b rest = by (list_any (λ q. is_better kind q b) rest) refl ∙ sym (chosen_is kind (b ∷ rest))
  where
    by : (t : Bool) → list_any (λ q. is_better kind q b) rest ≡ t → so_far kind 0 b 0 (b ∷ rest) ≡ first_best (is_better kind) (b ∷ rest)
    by true e = rw (never kind b, e) (omega arith)
    by false e = rw (never kind b, e) refl

-- the next one is better, or not
pub better_so_far : (kind best : ℕ) (b : Pending) (at : ℕ) (q : Pending) (rest : List Pending) → is_better kind q b ≡ true
    → so_far kind at q (at + 1) rest ≡ so_far kind best b at (q ∷ rest)
better_so_far kind best b at q rest e = by (list_any (λ r. is_better kind r q) rest) refl
  where
    by : (t : Bool) → list_any (λ r. is_better kind r q) rest ≡ t → so_far kind at q (at + 1) rest ≡ so_far kind best b at (q ∷ rest)
    by true f = rw (e, f) (omega arith)
    by false f = rw (e, f) (omega arith)

pub worse_so_far : (kind best : ℕ) (b : Pending) (at : ℕ) (q : Pending) (rest : List Pending) → is_better kind q b ≡ false
    → so_far kind best b (at + 1) rest ≡ so_far kind best b at (q ∷ rest)
worse_so_far kind best b at q rest e = by (list_any (λ r. is_better kind r b) rest) refl
  where
    by : (t : Bool) → list_any (λ r. is_better kind r b) rest ≡ t → so_far kind best b (at + 1) rest ≡ so_far kind best b at (q ∷ rest)
    by true f = rw (e, f, any_carries kind q b rest e f) (omega arith)
    by false f = rw (e, f) refl
