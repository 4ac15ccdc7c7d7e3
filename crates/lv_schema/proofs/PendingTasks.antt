-- What is pending, and what a live snapshot is inside of.
use Rattle.std.proofs.Common.{◌≡◌, ℕ, ◌<◌, ◌≤◌, Bool, true, false, List, [], ◌∷◌, refl, subst, arith}
use Rattle.std.specs.Prelude.{◌⊎◌, ◌&&◌, ◌||◌, nat_lt, nat_le}
use Rattle.std.proofs.lemmas.Bool.Decides.{nat_tests}
use mathlib.Core.Logic.{inl, inr}
use Rattle.lv_schema.specs.declared.view.ViewDef.{ViewDef}
use Rattle.lv_schema.specs.Greatest.{Among}
use Rattle.lv_schema.specs.Tasks.{is_task, is_pending, pending}
use Rattle.lv_schema.specs.StepPlans.{is_inside}
use Rattle.lv_schema.specs.World.{Visible, last, numbers}
use Rattle.lv_schema.proofs.Numbers.{Each, Rises, each_weaker, each_both, each_filter, filter_each, rises_filter, numbers_each, numbers_rise, among_numbers, among_filter, among_each}

pub record Pends (s : Visible) (view : ViewDef) (lo m k : ℕ) : Type 0 where
  pub above : lo < k
  pub upto : k ≤ m
  pub within : k ≤ last s
  pub task : is_task s view k ≡ true

and_left : (a b : Bool) → (a && b) ≡ true → a ≡ true
and_left true b e = refl
and_left false b e = e

and_right : (a b : Bool) → (a && b) ≡ true → b ≡ true
and_right true b e = e
and_right false b e = cc

pends : (s : Visible) (view : ViewDef) (lo m k : ℕ) → k ≤ last s → is_pending s view lo m k ≡ true → Pends s view lo m k
pends s view lo m k le e =
    let a = and_left (nat_lt lo k && nat_le k m) (is_task s view k) e in
    let b = and_left (nat_lt lo k) (nat_le k m) a in
    let c = and_right (nat_lt lo k) (nat_le k m) a in
    record { above = grind (arith, nat_tests, b); upto = grind (arith, nat_tests, c); within = le; task = and_right (nat_lt lo k && nat_le k m) (is_task s view k) e }

-- each of the pending tasks is one, they rise, and there are no others
pub pending_each : (s : Visible) (view : ViewDef) (lo m : ℕ) → Each (Pends s view lo m) (pending s view lo m)
pending_each s view lo m =
    each_both (λ k. (0 < k) × (k ≤ last s)) (λ k. is_pending s view lo m k ≡ true) (Pends s view lo m) (pending s view lo m) (λ k h e. pends s view lo m k h.1 e)
    (each_filter (λ k. (0 < k) × (k ≤ last s)) (is_pending s view lo m) (numbers (last s)) (numbers_each (last s))) (filter_each (is_pending s view lo m) (numbers (last s)))

pub pending_rises : (s : Visible) (view : ViewDef) (lo m : ℕ) → Rises (pending s view lo m)
pending_rises s view lo m = rises_filter (is_pending s view lo m) (numbers (last s)) (numbers_rise (last s))

pub pending_all : (s : Visible) (view : ViewDef) (lo m k : ℕ) → lo < k → k ≤ m → k ≤ last s → is_task s view k ≡ true → Among (pending s view lo m) k
pending_all s view lo m k a b c e =
    among_filter (is_pending s view lo m) (numbers (last s)) k (among_numbers (last s) k (omega arith) c)
    (let p : nat_lt lo k ≡ true = grind (arith, nat_tests) in let q : nat_le k m ≡ true = grind (arith, nat_tests) in rw (p, q) e)

not_true : (b : Bool) → (b ≡ true → ⊥) → b ≡ false
not_true true f = absurd (f refl)
not_true false f = refl

-- no task lies below the first pending one
pub none_before : (s : Visible) (view : ViewDef) (lo m t : ℕ) (ts : List ℕ) → pending s view lo m ≡ t ∷ ts → (k : ℕ) → lo < k → k < t → is_task s view k ≡ false
none_before s view lo m t ts e k a b =
    not_true (is_task s view k) (λ task.
    let up : Rises (t ∷ ts) = subst Rises e (pending_rises s view lo m) in
    let each : Each (Pends s view lo m) (t ∷ ts) = subst (Each (Pends s view lo m)) e (pending_each s view lo m) in
    let first = each.0 in
    let here : Among (t ∷ ts) k = subst (λ xs. Among xs k) e (pending_all s view lo m k a (omega (arith, first.upto)) (omega (arith, first.within)) task) in
    let le : t ≤ k = among_each (λ y. t ≤ y) (t ∷ ts) k (omega arith, each_weaker (λ y. t < y) (λ y. t ≤ y) ts (λ x h. omega arith) up.0) here in
    omega arith)

pub none_pending : (s : Visible) (view : ViewDef) (lo m : ℕ) → pending s view lo m ≡ [] → (k : ℕ) → lo < k → k ≤ m → k ≤ last s → is_task s view k ≡ false
none_pending s view lo m e k a b c = not_true (is_task s view k) (λ task. subst (λ xs. Among xs k) e (pending_all s view lo m k a b c task))

-- live snapshots inside
pub inside_none : (lives : List ℕ) (t : ℕ) → is_inside lives t t ≡ false
inside_none [] t = refl
inside_none (x ∷ xs) t = by (nat_le t x) refl (nat_lt x t) refl (inside_none xs t)
  where
    by : (a : Bool) → nat_le t x ≡ a → (b : Bool) → nat_lt x t ≡ b → is_inside xs t t ≡ false → ((a && b) || is_inside xs t t) ≡ false
    by true e true f ih = grind (arith, nat_tests)
    by true e false f ih = ih
    by false e b f ih = ih

pub not_inside : (lives : List ℕ) (a b k : ℕ) → is_inside lives a b ≡ false → Among lives k → a ≤ k → k < b → ⊥
not_inside [] a b k e m le lt = m
not_inside (x ∷ xs) a b k e m le lt = by (nat_le a x && nat_lt x b) refl e m (λ f n. not_inside xs a b k f n le lt)
  where
    here : k ≡ x → (nat_le a x && nat_lt x b) ≡ true
    here f = let p : nat_le a x ≡ true = grind (arith, nat_tests) in let q : nat_lt x b ≡ true = grind (arith, nat_tests) in rw (p, q) refl

    by : (t : Bool) → (nat_le a x && nat_lt x b) ≡ t → (t || is_inside xs a b) ≡ false → (k ≡ x) ⊎ Among xs k → (is_inside xs a b ≡ false → Among xs k → ⊥) → ⊥
    by true f g m' ih = cc
    by false f g (inl h) ih = let q = here h in cc
    by false f g (inr h) ih = ih g h

pub inside_more : (lives : List ℕ) (a b c : ℕ) → is_inside lives a b ≡ true → b ≤ c → is_inside lives a c ≡ true
inside_more [] a b c e le = cc
inside_more (x ∷ xs) a b c e le = by (nat_le a x) refl (nat_lt x b) refl e (λ f. inside_more xs a b c f le)
  where
    or_true : (t : Bool) → (t || true) ≡ true
    or_true true = refl
    or_true false = refl

    by : (p : Bool) → nat_le a x ≡ p → (q : Bool) → nat_lt x b ≡ q → ((p && q) || is_inside xs a b) ≡ true → (is_inside xs a b ≡ true → is_inside xs a c ≡ true) → ((nat_le a x && nat_lt x c) || is_inside xs a c) ≡ true
    by true f true g h ih = let r : nat_lt x c ≡ true = grind (arith, nat_tests) in rw (f, r) refl
    by true f false g h ih = rw (ih h) (or_true (nat_le a x && nat_lt x c))
    by false f q g h ih = rw (ih h) (or_true (nat_le a x && nat_lt x c))

pub inside_less : (lives : List ℕ) (a b c : ℕ) → c ≤ b → is_inside lives a b ≡ false → is_inside lives a c ≡ false
inside_less lives a b c le e = not_true (is_inside lives a c) (λ f. let g = inside_more lives a c b f le in cc)

pub inside_some : (lives : List ℕ) (a b : ℕ) → is_inside lives a b ≡ true → (k : ℕ) × Among lives k × (a ≤ k) × (k < b)
inside_some [] a b e = cc
inside_some (x ∷ xs) a b e = by (nat_le a x) refl (nat_lt x b) refl e (λ f. inside_some xs a b f)
  where
    further : ((k : ℕ) × Among xs k × (a ≤ k) × (k < b)) → (k : ℕ) × Among (x ∷ xs) k × (a ≤ k) × (k < b)
    further h = (h.0, inr h.1, h.2, h.3)

    by : (p : Bool) → nat_le a x ≡ p → (q : Bool) → nat_lt x b ≡ q → ((p && q) || is_inside xs a b) ≡ true → (is_inside xs a b ≡ true → (k : ℕ) × Among xs k × (a ≤ k) × (k < b)) → (k : ℕ) × Among (x ∷ xs) k × (a ≤ k) × (k < b)
    by true f true g h ih = (x, inl refl, grind (arith, nat_tests), grind (arith, nat_tests))
    by true f false g h ih = further (ih h)
    by false f q g h ih = further (ih h)
