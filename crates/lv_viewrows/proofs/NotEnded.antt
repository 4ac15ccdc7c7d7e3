-- The versions that have not ended, among all: what is done to the list is done to them at the place that counts them.
use Rattle.std.proofs.Common.{◌≡◌, ℕ, zero, suc, ◌+◌, ◌<◌, ◌≤◌, Bool, true, false, cond, List, [], ◌∷◌, ◌++◌, length, map, filter, take, drop, set, Some, refl, sym, ap, ap₂, ◌∙◌, arith}
use Rattle.std.specs.Prelude.{slice_get}
use Rattle.std.specs.List.{AllByRecursion, insert, remove}
use Rattle.std.proofs.lemmas.List.{take-append-drop}
use Rattle.std.proofs.lemmas.List.Elements.{filter-append}
use Rattle.lv_schema.proofs.Apart.{all_filter}
use Rattle.lv_shelf.specs.Cuts.{IsCut}
use Rattle.lv_shelf.specs.Shelves.{ChangesOnly}

-- ---- lists
pub insert_between : {X : Type 0} (ys zs : List X) (x : X) → insert (ys ++ zs) (length ys) x ≡ ys ++ x ∷ zs
insert_between [] zs x = refl
insert_between (y ∷ ys) zs x = ap (λ l. y ∷ l) (insert_between ys zs x)

-- an element that is there
pub with_item : {X : Type 0} {G : Type 0} (xs : List X) (i : ℕ) → i < length xs → ((x : X) → slice_get xs i ≡ Some x → G) → G
with_item [] i lt f = absurd (omega arith)
with_item (x ∷ xs) zero lt f = f x refl
with_item (x ∷ xs) (suc i) lt f = with_item xs i (omega arith) f

all_same : {X : Type 0} (f : X → X) (xs : List X) → AllByRecursion (λ y. f y ≡ y) xs → map f xs ≡ xs
all_same f [] a = refl
all_same f (x ∷ xs) a = ap₂ (λ y l. y ∷ l) a.0 (all_same f xs a.1)

-- a change of one element alone that is not changed again
same_after : {X : Type 0} (f : X → X) (at : ℕ) (xs : List X) (x : X) → slice_get xs at ≡ Some x → f (f x) ≡ f x → ChangesOnly f at xs → AllByRecursion (λ y. f y ≡ y) (set xs at (f x))
same_after f at [] x e twice only = cc
same_after f zero (y ∷ xs) x e twice only = (twice, only)
same_after f (suc at) (y ∷ xs) x e twice only = (only.0, same_after f at xs x e twice only.1)

-- an element put in front of the one that stands in its place
pub insert_behind : {X : Type 0} (xs : List X) (i : ℕ) (x y : X) → i < length xs → insert (set xs i y) i x ≡ insert (set xs i x) (i + 1) y
insert_behind [] i x y lt = absurd (omega arith)
insert_behind (z ∷ xs) zero x y lt = refl
insert_behind (z ∷ xs) (suc i) x y lt =
    let e : suc (i + 1) ≡ suc i + 1 = omega arith in
    ap (λ l. z ∷ l) (insert_behind xs i x y (omega arith)) ∙ ap (λ n. insert (z ∷ set xs i x) n y) e

pub got_inserted : {X : Type 0} (xs : List X) (i : ℕ) (x : X) → i ≤ length xs → slice_get (insert xs i x) i ≡ Some x
got_inserted [] zero x le = refl
got_inserted [] (suc i) x le = absurd (omega arith)
got_inserted (y ∷ xs) zero x le = refl
got_inserted (y ∷ xs) (suc i) x le = got_inserted xs i x (omega arith)

-- a place where a test stops to pass is the only one
pub cut_unique : {X : Type 0} (p : X → Bool) (i j : ℕ) (xs : List X) → IsCut p i xs → IsCut p j xs → i ≡ j
cut_unique p zero zero xs h k = refl
cut_unique p zero (suc j) [] h k = absurd k
cut_unique p zero (suc j) (x ∷ xs) h k = let a = h.0 in let b = k.0 in cc
cut_unique p (suc i) zero [] h k = absurd h
cut_unique p (suc i) zero (x ∷ xs) h k = let a = h.0 in let b = k.0 in cc
cut_unique p (suc i) (suc j) [] h k = absurd h
cut_unique p (suc i) (suc j) (x ∷ xs) h k = ap suc (cut_unique p i j xs h.1 k.1)

-- ---- those that pass a test
module _ {X : Type 0} (q : X → Bool) where
  abbrev pub before : ℕ → List X → ℕ
  before at xs = length (filter q (take at xs))

  split : (at : ℕ) (xs : List X) → filter q (take at xs) ++ filter q (drop at xs) ≡ filter q xs
  split at xs = sym (filter-append q (take at xs) (drop at xs)) ∙ ap (filter q) (take-append-drop at xs)

  few : (xs : List X) → length (filter q xs) ≤ length xs
  few [] = omega arith
  few (x ∷ xs) = by (q x) (few xs)
    where
      by : (b : Bool) → length (filter q xs) ≤ length xs → length (cond b (x ∷ filter q xs) (filter q xs)) ≤ length (x ∷ xs)
      by true ih = omega arith
      by false ih = omega arith

  -- where all pass
  pub all_pass_here : (xs : List X) → length (filter q xs) ≡ length xs → filter q xs ≡ xs
  all_pass_here [] e = refl
  all_pass_here (x ∷ xs) e = by (q x) e (all_pass_here xs) (few xs)
    where
      by : (b : Bool) → length (cond b (x ∷ filter q xs) (filter q xs)) ≡ length (x ∷ xs) → (length (filter q xs) ≡ length xs → filter q xs ≡ xs) → length (filter q xs) ≤ length xs → cond b (x ∷ filter q xs) (filter q xs) ≡ x ∷ xs
      by true h ih le = ap (λ l. x ∷ l) (ih (omega (arith, h)))
      by false h ih le = absurd (omega (arith, h, le))

  -- where a test stops to pass among them
  pub cut_filtered : (p : X → Bool) (n : ℕ) (xs : List X) → IsCut p n xs → IsCut p (before n xs) (filter q xs)
  cut_filtered p zero xs h = all_filter (λ x. p x ≡ false) q xs h
  cut_filtered p (suc n) [] h = absurd h
  cut_filtered p (suc n) (x ∷ xs) h = by (q x) (cut_filtered p n xs h.1)
    where
      by : (b : Bool) → IsCut p (before n xs) (filter q xs) → IsCut p (length (cond b (x ∷ filter q (take n xs)) (filter q (take n xs)))) (cond b (x ∷ filter q xs) (filter q xs))
      by true ih = (h.0, ih)
      by false ih = ih

  -- one that comes in
  pub filter_inserted : (at : ℕ) (xs : List X) (x : X) → q x ≡ true → filter q (insert xs at x) ≡ insert (filter q xs) (before at xs) x
  filter_inserted at xs x e =
      filter-append q (take at xs) (x ∷ drop at xs)
      ∙ (λ i. filter q (take at xs) ++ cond (e i) (x ∷ filter q (drop at xs)) (filter q (drop at xs)))
      ∙ sym (insert_between (filter q (take at xs)) (filter q (drop at xs)) x)
      ∙ ap (λ l. insert l (before at xs) x) (split at xs)

  pub filter_passed_over : (at : ℕ) (xs : List X) (x : X) → q x ≡ false → filter q (insert xs at x) ≡ filter q xs
  filter_passed_over at xs x e =
      filter-append q (take at xs) (x ∷ drop at xs)
      ∙ (λ i. filter q (take at xs) ++ cond (e i) (x ∷ filter q (drop at xs)) (filter q (drop at xs)))
      ∙ split at xs

  pub before_long : (at : ℕ) (xs : List X) → before at xs ≤ length (filter q xs)
  before_long zero xs = omega arith
  before_long (suc at) [] = omega arith
  before_long (suc at) (x ∷ xs) = by (q x) (before_long at xs)
    where
      by : (b : Bool) → before at xs ≤ length (filter q xs) → length (cond b (x ∷ filter q (take at xs)) (filter q (take at xs))) ≤ length (cond b (x ∷ filter q xs) (filter q xs))
      by true ih = omega (arith, ih)
      by false ih = ih

  pub before_all : (xs : List X) → before (length xs) xs ≡ length (filter q xs)
  before_all [] = refl
  before_all (x ∷ xs) = by (q x) (before_all xs)
    where
      by : (b : Bool) → before (length xs) xs ≡ length (filter q xs) → length (cond b (x ∷ filter q (take (length xs) xs)) (filter q (take (length xs) xs))) ≡ length (cond b (x ∷ filter q xs) (filter q xs))
      by true ih = ap suc ih
      by false ih = ih

  pub before_inserted : (at : ℕ) (xs : List X) (x : X) → at ≤ length xs → before at (insert xs at x) ≡ before at xs
  before_inserted zero xs x le = refl
  before_inserted (suc at) [] x le = absurd (omega arith)
  before_inserted (suc at) (y ∷ xs) x le = by (q y) (before_inserted at xs x (omega arith))
    where
      by : (b : Bool) → before at (insert xs at x) ≡ before at xs → length (cond b (y ∷ filter q (take at (insert xs at x))) (filter q (take at (insert xs at x)))) ≡ length (cond b (y ∷ filter q (take at xs)) (filter q (take at xs)))
      by true ih = ap suc ih
      by false ih = ih

  -- one that goes: x was there, and y does not pass
  pub before_within : (at : ℕ) (xs : List X) (x : X) → slice_get xs at ≡ Some x → q x ≡ true → before at xs < length (filter q xs)
  before_within at [] x e h = cc
  before_within zero (y ∷ xs) x e h = by (q y) refl
    where
      by : (b : Bool) → q y ≡ b → 0 < length (cond b (y ∷ filter q xs) (filter q xs))
      by true f = omega arith
      by false f = cc
  before_within (suc at) (y ∷ xs) x e h = by (q y) (before_within at xs x e h)
    where
      by : (b : Bool) → before at xs < length (filter q xs) → length (cond b (y ∷ filter q (take at xs)) (filter q (take at xs))) < length (cond b (y ∷ filter q xs) (filter q xs))
      by true ih = omega (arith, ih)
      by false ih = ih

  pub filter_ended : (at : ℕ) (xs : List X) (x y : X) → slice_get xs at ≡ Some x → q x ≡ true → q y ≡ false → filter q (set xs at y) ≡ remove (filter q xs) (before at xs)
  filter_ended at [] x y e h f = cc
  filter_ended zero (z ∷ xs) x y e h f = by (q z) refl
    where
      by : (b : Bool) → q z ≡ b → cond (q y) (y ∷ filter q xs) (filter q xs) ≡ remove (cond b (z ∷ filter q xs) (filter q xs)) 0
      by true g = λ i. cond (f i) (y ∷ filter q xs) (filter q xs)
      by false g = cc
  filter_ended (suc at) (z ∷ xs) x y e h f = by (q z) (filter_ended at xs x y e h f)
    where
      by : (b : Bool) → filter q (set xs at y) ≡ remove (filter q xs) (before at xs)
          → cond b (z ∷ filter q (set xs at y)) (filter q (set xs at y)) ≡ remove (cond b (z ∷ filter q xs) (filter q xs)) (length (cond b (z ∷ filter q (take at xs)) (filter q (take at xs))))
      by true ih = ap (λ l. z ∷ l) ih
      by false ih = ih

  pub before_after : (at : ℕ) (xs : List X) (x y : X) → slice_get xs at ≡ Some x → q y ≡ false → before (suc at) (set xs at y) ≡ before at xs
  before_after at [] x y e f = cc
  before_after zero (z ∷ xs) x y e f = λ i. length (cond (f i) (y ∷ []) [])
  before_after (suc at) (z ∷ xs) x y e f = by (q z) (before_after at xs x y e f)
    where
      by : (b : Bool) → before (suc at) (set xs at y) ≡ before at xs → length (cond b (z ∷ filter q (take (suc at) (set xs at y))) (filter q (take (suc at) (set xs at y)))) ≡ length (cond b (z ∷ filter q (take at xs)) (filter q (take at xs)))
      by true ih = ap suc ih
      by false ih = ih

  pub before_next : (at : ℕ) (xs : List X) (x : X) → slice_get xs at ≡ Some x → q x ≡ true → before (suc at) xs ≡ suc (before at xs)
  before_next at [] x e h = cc
  before_next zero (z ∷ xs) x e h = by (q z) refl
    where
      by : (b : Bool) → q z ≡ b → length (cond b (z ∷ []) []) ≡ 1
      by true g = refl
      by false g = cc
  before_next (suc at) (z ∷ xs) x e h = by (q z) (before_next at xs x e h)
    where
      by : (b : Bool) → before (suc at) xs ≡ suc (before at xs) → length (cond b (z ∷ filter q (take (suc at) xs)) (filter q (take (suc at) xs))) ≡ suc (length (cond b (z ∷ filter q (take at xs)) (filter q (take at xs))))
      by true ih = ap suc ih
      by false ih = ih

  -- the list of those that pass, where one alone of the list is changed and passes no longer
  pub filter_changed : (f : X → X) (at : ℕ) (xs : List X) (x : X) → slice_get xs at ≡ Some x → q x ≡ true → q (f x) ≡ false → f (f x) ≡ f x → ChangesOnly f at xs
      → map f (remove (filter q xs) (before at xs)) ≡ filter q (set xs at (f x))
  filter_changed f at xs x e h g twice only =
      ap (map f) (sym (filter_ended at xs x (f x) e h g))
      ∙ all_same f (filter q (set xs at (f x))) (all_filter (λ y. f y ≡ y) q (set xs at (f x)) (same_after f at xs x e twice only))

  -- one that takes the place of another one, where both pass
  pub filter_replaced : (f : X → X) (at : ℕ) (xs : List X) (x : X) → slice_get xs at ≡ Some x → q x ≡ true → q (f x) ≡ true → ChangesOnly f at xs → map f (filter q xs) ≡ filter q (set xs at (f x))
  filter_replaced f at [] x e h g only = cc
  filter_replaced f zero (z ∷ xs) x e h g only = by (q z) refl
    where
      there : z ≡ x
      there = let is : Some z ≡ Some x = e in cc

      by : (b : Bool) → q z ≡ b → map f (cond b (z ∷ filter q xs) (filter q xs)) ≡ cond (q (f x)) (f x ∷ filter q xs) (filter q xs)
      by true k = ap₂ (λ y l. y ∷ l) (ap f there) (all_same f (filter q xs) (all_filter (λ y. f y ≡ y) q xs only)) ∙ (λ i. cond (sym g i) (f x ∷ filter q xs) (filter q xs))
      by false k = let is = ap q there in cc
  filter_replaced f (suc at) (z ∷ xs) x e h g only = by (q z) (filter_replaced f at xs x e h g only.1)
    where
      by : (b : Bool) → map f (filter q xs) ≡ filter q (set xs at (f x)) → map f (cond b (z ∷ filter q xs) (filter q xs)) ≡ cond b (z ∷ filter q (set xs at (f x))) (filter q (set xs at (f x)))
      by true ih = ap₂ (λ y l. y ∷ l) only.0 ih
      by false ih = ih
