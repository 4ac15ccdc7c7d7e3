-- A touch that ends with a later action on its key comes to what it and the touch by that action come to.
use Rattle.std.proofs.Common.{◌≡◌, ℕ, zero, suc, Bool, true, false, cond, ◌||◌, ◌-◌, ◌<◌, ◌≤◌, List, [], ◌∷◌, ◌++◌, map, take, drop, length, get_or, Option, refl, sym, ap, ◌∙◌, subst, arith}
use Rattle.std.specs.Prelude.{◌==◌, slice_set}
use Rattle.std.specs.List.{AllByRecursion, insert, list_any}
use Rattle.std.specs.Ordering.{is_lt}
use Rattle.std.specs.declared.cmp.Ordering.{Ordering}
use Rattle.std.specs.declared.cmp.Ordering.TheVariants.{Less, Equal, Greater}
use Rattle.lv_values.specs.declared.value.Value.{Value}
use Rattle.lv_values.specs.Order.{row_eq}
use Rattle.lv_values.specs.OrderLaws.{row_exact, row_total}
use Rattle.lv_schema.specs.declared.action.Action.{Action}
use Rattle.lv_schema.specs.Keys.{left_by}
use Rattle.lv_schema.specs.Once.{Ascends}
use Rattle.lv_condense.specs.Touches.{Alike, ATouch, key_of, touch_cmp, found_in, left_in, of_key, then_by}
use Rattle.lv_condense.proofs.Runs.{equal_from, less_from, none_above, not_gt}

abbrev Key : Type 0
Key = List Value

alike_behind : (x : ATouch) (xs ys : List ATouch) → Alike xs ys → Alike (x ∷ xs) (x ∷ ys)
alike_behind x xs ys a = record {
  keys = λ k. ap (λ b. row_eq k (key_of x) || b) (a.keys k);
  found = λ k. found (row_eq k (key_of x)) k;
  left = λ k row. left (row_eq k (key_of x)) k row;
}
  where
    found : (b : Bool) (k : Key) → found_in (cond b (x ∷ of_key k xs) (of_key k xs)) ≡ found_in (cond b (x ∷ of_key k ys) (of_key k ys))
    found true k = refl
    found false k = a.found k

    left : (b : Bool) (k : Key) (row : Option Key) → left_in row (cond b (x ∷ of_key k xs) (of_key k xs)) ≡ left_in row (cond b (x ∷ of_key k ys) (of_key k ys))
    left true k row = a.left k (left_by x.last.kind x.last.row)
    left false k row = a.left k row

alike_then_by : (t x : ATouch) (rest : List ATouch) → key_of x ≡ key_of t → Alike (then_by t x.last ∷ rest) (t ∷ x ∷ rest)
alike_then_by t x rest same = record {
  keys = λ k. twice (row_eq k (key_of t)) _ ∙ ap (λ q. row_eq k (key_of t) || (row_eq k q || list_any (row_eq k) (map key_of rest))) (sym same);
  found = λ k. found (row_eq k (key_of t)) (row_eq k (key_of x)) (ap (row_eq k) same) k;
  left = λ k row. left (row_eq k (key_of t)) (row_eq k (key_of x)) (ap (row_eq k) same) k row;
}
  where
    twice : (b c : Bool) → (b || c) ≡ (b || (b || c))
    twice true c = refl
    twice false c = refl

    found : (b c : Bool) → c ≡ b → (k : Key) → found_in (cond b (then_by t x.last ∷ of_key k rest) (of_key k rest)) ≡ found_in (cond b (t ∷ cond c (x ∷ of_key k rest) (of_key k rest)) (cond c (x ∷ of_key k rest) (of_key k rest)))
    found true c e k = refl
    found false true e k = cc
    found false false e k = refl

    left : (b c : Bool) → c ≡ b → (k : Key) (row : Option Key) → left_in row (cond b (then_by t x.last ∷ of_key k rest) (of_key k rest)) ≡ left_in row (cond b (t ∷ cond c (x ∷ of_key k rest) (of_key k rest)) (cond c (x ∷ of_key k rest) (of_key k rest)))
    left true true e k row = refl
    left true false e k row = cc
    left false true e k row = cc
    left false false e k row = refl

pub is_less : (r : Ordering) → is_lt r ≡ true → r ≡ Less
is_less Less h = refl
is_less Equal h = cc
is_less Greater h = cc

pub last_at : (n : ℕ) → (n == 0) ≡ false → suc (n - 1) ≡ n
last_at zero f = cc
last_at (suc n) f = omega arith

alike_along : (xs ys zs : List ATouch) → Alike xs ys → Alike ys zs → Alike xs zs
alike_along xs ys zs a b = record {
  keys = λ k. a.keys k ∙ b.keys k;
  found = λ k. a.found k ∙ b.found k;
  left = λ k row. a.left k row ∙ b.left k row;
}

-- a list without a key starts with no touch of it, and goes on without it
pub record Lacks (k : Key) (y : ATouch) (ys : List ATouch) : Type 0 where
  pub first : row_eq k (key_of y) ≡ false
  pub rest : of_key k ys ≡ []

lacks : (k : Key) (y : ATouch) (ys : List ATouch) → of_key k (y ∷ ys) ≡ [] → Lacks k y ys
lacks k y ys none = by (row_eq k (key_of y)) refl none
  where
    by : (b : Bool) → row_eq k (key_of y) ≡ b → cond b (y ∷ of_key k ys) (of_key k ys) ≡ [] → Lacks k y ys
    by true e n = cc
    by false e n = record { first = e; rest = n }

-- touches of two keys come to the same in either order
alike_swapped : (x y : ATouch) (rest : List ATouch) → row_eq (key_of x) (key_of y) ≡ false → Alike (x ∷ y ∷ rest) (y ∷ x ∷ rest)
alike_swapped x y rest apart = record {
  keys = λ k. turned (row_eq k (key_of x)) (row_eq k (key_of y)) (list_any (row_eq k) (map key_of rest));
  found = λ k. found (row_eq k (key_of x)) (row_eq k (key_of y)) k (never k);
  left = λ k row. left (row_eq k (key_of x)) (row_eq k (key_of y)) k row (never k);
}
  where
    turned : (b c d : Bool) → (b || (c || d)) ≡ (c || (b || d))
    turned true true d = refl
    turned true false d = refl
    turned false c d = refl

    never : (k : Key) → row_eq k (key_of x) ≡ true → row_eq k (key_of y) ≡ true → ⊥
    never k p q =
        let at_x : k ≡ key_of x = row_exact k (key_of x) (equal_from _ p) in
        let e : row_eq (key_of x) (key_of y) ≡ true = ap (λ (l : Key). row_eq l (key_of y)) (sym at_x) ∙ q in
        cc

    found : (b c : Bool) (k : Key) → (b ≡ true → c ≡ true → ⊥) → found_in (cond b (x ∷ cond c (y ∷ of_key k rest) (of_key k rest)) (cond c (y ∷ of_key k rest) (of_key k rest))) ≡ found_in (cond c (y ∷ cond b (x ∷ of_key k rest) (of_key k rest)) (cond b (x ∷ of_key k rest) (of_key k rest)))
    found true true k n = absurd (n refl refl)
    found true false k n = refl
    found false c k n = refl

    left : (b c : Bool) (k : Key) (row : Option Key) → (b ≡ true → c ≡ true → ⊥) → left_in row (cond b (x ∷ cond c (y ∷ of_key k rest) (of_key k rest)) (cond c (y ∷ of_key k rest) (of_key k rest))) ≡ left_in row (cond c (y ∷ cond b (x ∷ of_key k rest) (of_key k rest)) (cond b (x ∷ of_key k rest) (of_key k rest)))
    left true true k row n = absurd (n refl refl)
    left true false k row n = refl
    left false c k row n = refl

-- a touch may stand behind touches of other keys
alike_past : (x : ATouch) (ys rest : List ATouch) → of_key (key_of x) ys ≡ [] → Alike (x ∷ (ys ++ rest)) (ys ++ x ∷ rest)
alike_past x [] rest none = record { keys = λ k. refl; found = λ k. refl; left = λ k row. refl }
alike_past x (y ∷ ys) rest none =
    let l = lacks (key_of x) y ys none in
    alike_along (x ∷ y ∷ (ys ++ rest)) (y ∷ x ∷ (ys ++ rest)) (y ∷ (ys ++ x ∷ rest))
    (alike_swapped x y (ys ++ rest) l.first) (alike_behind y (x ∷ (ys ++ rest)) (ys ++ x ∷ rest) (alike_past x ys rest l.rest))

-- a touch behind which there is none of its key ends with a later action on it
alike_at : (xs : List ATouch) (i : ℕ) (t x : ATouch) (rest : List ATouch) → i < length xs → t ≡ get_or xs i t → key_of x ≡ key_of t → of_key (key_of x) (drop (suc i) xs) ≡ [] → Alike (slice_set xs i (then_by t x.last) ++ rest) (xs ++ x ∷ rest)
alike_at [] i t x rest n at same none = absurd (omega arith)
alike_at (y ∷ ys) zero t x rest n at same none =
    alike_along (then_by t x.last ∷ (ys ++ rest)) (y ∷ x ∷ (ys ++ rest)) (y ∷ (ys ++ x ∷ rest))
    (subst (λ (u : ATouch). Alike (then_by t x.last ∷ (ys ++ rest)) (u ∷ x ∷ (ys ++ rest))) at (alike_then_by t x (ys ++ rest) same))
    (alike_behind y (x ∷ (ys ++ rest)) (ys ++ x ∷ rest) (alike_past x ys rest none))
alike_at (y ∷ ys) (suc i) t x rest n at same none = alike_behind y (slice_set ys i (then_by t x.last) ++ rest) (ys ++ x ∷ rest) (alike_at ys i t x rest (omega arith) at same none)

-- one touch stands at a place
pub one_there : (xs : List ATouch) (i : ℕ) (t u : ATouch) → i < length xs → t ≡ get_or xs i t → u ≡ get_or xs i u → u ≡ t
one_there [] i t u n at there = absurd (omega arith)
one_there (y ∷ ys) zero t u n at there = there ∙ sym at
one_there (y ∷ ys) (suc i) t u n at there = one_there ys i t u (omega arith) at there

-- a touch behind which there are greater ones ends with a later action on its key, and so does the last one of all
pub alike_ended : (xs : List ATouch) (i : ℕ) (t x : ATouch) (rest : List ATouch) → i < length xs → t ≡ get_or xs i t → row_eq (key_of t) (key_of x) ≡ true → AllByRecursion (λ y. touch_cmp x y ≡ Less) (drop (suc i) xs)
    → Alike (slice_set xs i (then_by t x.last) ++ rest) (xs ++ x ∷ rest)
alike_ended xs i t x rest n at same above =
    alike_at xs i t x rest n at (sym (row_exact (key_of t) (key_of x) (equal_from _ same))) (none_above (key_of x) (drop (suc i) xs) above)

pub alike_latest : (xs : List ATouch) (t x : ATouch) (rest : List ATouch) → row_eq (key_of t) (key_of x) ≡ true → Alike ((xs ++ then_by t x.last ∷ []) ++ rest) ((xs ++ t ∷ []) ++ x ∷ rest)
alike_latest [] t x rest same = alike_then_by t x rest (sym (row_exact (key_of t) (key_of x) (equal_from _ same)))
alike_latest (y ∷ ys) t x rest same = alike_behind y ((ys ++ then_by t x.last ∷ []) ++ rest) ((ys ++ t ∷ []) ++ x ∷ rest) (alike_latest ys t x rest same)

-- a touch may be put in front of some that are not of its key
alike_in : (xs : List ATouch) (at : ℕ) (x : ATouch) (rest : List ATouch) → of_key (key_of x) (drop at xs) ≡ [] → Alike (insert xs at x ++ rest) (xs ++ x ∷ rest)
alike_in xs zero x rest none = alike_past x xs rest none
alike_in [] (suc at) x rest none = alike_past x [] rest refl
alike_in (y ∷ ys) (suc at) x rest none = alike_behind y (insert ys at x ++ rest) (ys ++ x ∷ rest) (alike_in ys at x rest none)

pub alike_inserted : (xs : List ATouch) (at : ℕ) (x : ATouch) (rest : List ATouch) → AllByRecursion (λ y. touch_cmp x y ≡ Less) (drop at xs) → Alike (insert xs at x ++ rest) (xs ++ x ∷ rest)
alike_inserted xs at x rest above = alike_in xs at x rest (none_above (key_of x) (drop at xs) above)

-- ---- touches each of a lower key than the next one
abbrev pub Below : ATouch → List ATouch → Type 0
Below y xs = AllByRecursion (λ x. touch_cmp y x ≡ Less) xs

below_at : (y : ATouch) (xs : List ATouch) (i : ℕ) (t : ATouch) → i < length xs → t ≡ get_or xs i t → Below y xs → touch_cmp y t ≡ Less
below_at y [] i t n at b = absurd (omega arith)
below_at y (x ∷ xs) zero t n at b = ap (touch_cmp y) at ∙ b.0
below_at y (x ∷ xs) (suc i) t n at b = below_at y xs i t (omega arith) at b.1

below_one_more : (y : ATouch) (xs : List ATouch) (x : ATouch) → Below y xs → touch_cmp y x ≡ Less → Below y (xs ++ x ∷ [])
below_one_more y [] x b l = (l, tt)
below_one_more y (z ∷ xs) x b l = (b.0, below_one_more y xs x b.1 l)

pub ascends_one_more : (xs : List ATouch) (i : ℕ) (t x : ATouch) → suc i ≡ length xs → t ≡ get_or xs i t → touch_cmp t x ≡ Less → Ascends touch_cmp xs → Ascends touch_cmp (xs ++ x ∷ [])
ascends_one_more [] i t x n at l a = absurd (omega arith)
ascends_one_more (y ∷ []) zero t x n at l a = ((ap (λ (u : ATouch). touch_cmp u x) (sym at) ∙ l, tt), (tt, tt))
ascends_one_more (y ∷ []) (suc i) t x n at l a = absurd (omega arith)
ascends_one_more (y ∷ z ∷ xs) zero t x n at l a = absurd (omega arith)
ascends_one_more (y ∷ z ∷ xs) (suc i) t x n at l a =
    let below : touch_cmp y t ≡ Less = below_at y (z ∷ xs) i t (omega arith) at a.0 in
    (below_one_more y (z ∷ xs) x a.0 (row_total.trans (key_of y) (key_of t) (key_of x) below l), ascends_one_more (z ∷ xs) i t x (omega arith) at l a.1)

below_set : (y : ATouch) (xs : List ATouch) (i : ℕ) (t : ATouch) (a : Action) → i < length xs → t ≡ get_or xs i t → Below y xs → Below y (slice_set xs i (then_by t a))
below_set y [] i t a n at b = absurd (omega arith)
below_set y (z ∷ xs) zero t a n at b = (ap (touch_cmp y) at ∙ b.0, b.1)
below_set y (z ∷ xs) (suc i) t a n at b = (b.0, below_set y xs i t a (omega arith) at b.1)

-- a touch that ends with a later action keeps its key
pub ascends_at : (xs : List ATouch) (i : ℕ) (t : ATouch) (a : Action) → i < length xs → t ≡ get_or xs i t → Ascends touch_cmp xs → Ascends touch_cmp (slice_set xs i (then_by t a))
ascends_at [] i t a n at up = absurd (omega arith)
ascends_at (y ∷ xs) zero t a n at up = (subst (λ (u : ATouch). Below u xs) (sym at) up.0, up.1)
ascends_at (y ∷ xs) (suc i) t a n at up = (below_set y xs i t a (omega arith) at up.0, ascends_at xs i t a (omega arith) at up.1)

-- so does a touch that is put in its place
abbrev pub Under : ATouch → List ATouch → Type 0
Under x xs = AllByRecursion (λ y. touch_cmp y x ≡ Less) xs

lower : (x t : ATouch) → is_lt (touch_cmp x t) ≡ false → row_eq (key_of t) (key_of x) ≡ false → touch_cmp t x ≡ Less
lower x t least apart = less_from (touch_cmp t x) (not_gt t x least) apart

below_up_to : (xs : List ATouch) (i : ℕ) (t x : ATouch) → i < length xs → t ≡ get_or xs i t → touch_cmp t x ≡ Less → Ascends touch_cmp xs → Under x (take (suc i) xs)
below_up_to [] i t x n at l up = absurd (omega arith)
below_up_to (y ∷ ys) zero t x n at l up = (ap (λ (u : ATouch). touch_cmp u x) (sym at) ∙ l, tt)
below_up_to (y ∷ ys) (suc i) t x n at l up =
    let below : touch_cmp y t ≡ Less = below_at y ys i t (omega arith) at up.0 in
    (row_total.trans (key_of y) (key_of t) (key_of x) below l, below_up_to ys i t x (omega arith) at l up.1)

below_in : (y : ATouch) (xs : List ATouch) (at : ℕ) (x : ATouch) → Below y xs → touch_cmp y x ≡ Less → Below y (insert xs at x)
below_in y xs zero x b l = (l, b)
below_in y [] (suc at) x b l = (l, tt)
below_in y (z ∷ xs) (suc at) x b l = (b.0, below_in y xs at x b.1 l)

pub ascends_in : (xs : List ATouch) (at : ℕ) (x : ATouch) → at ≤ length xs → Under x (take at xs) → Below x (drop at xs) → Ascends touch_cmp xs → Ascends touch_cmp (insert xs at x)
ascends_in xs zero x n under above up = (above, up)
ascends_in [] (suc at) x n under above up = absurd (omega arith)
ascends_in (y ∷ ys) (suc at) x n under above up = (below_in y ys at x up.0 under.0, ascends_in ys at x (omega arith) under.1 above up.1)

-- what stands before a place up to which no touch is greater, where the last one is of another key
pub under_place : (xs : List ATouch) (i : ℕ) (t x : ATouch) → i < length xs → t ≡ get_or xs i t → is_lt (touch_cmp x t) ≡ false → row_eq (key_of t) (key_of x) ≡ false → Ascends touch_cmp xs → Under x (take (suc i) xs)
under_place xs i t x n at least apart up = below_up_to xs i t x n at (lower x t least apart) up
