-- Touches that ascend by their keys fall into runs, one for each key.
use Rattle.std.proofs.Common.{◌≡◌, ℕ, zero, suc, add-one, ◌+◌, ◌<◌, ◌≤◌, Bool, true, false, cond, List, [], ◌∷◌, ◌++◌, map, take, drop, length, get_or, Some, None, Option, refl, sym, ap, ap₂, ◌∙◌, subst, arith}
use Rattle.std.specs.List.{AllByRecursion, prefix_len, filter_map, cons_option}
use Rattle.std.specs.List.Sorted.{IsSorted}
use Rattle.std.specs.Ordering.{is_eq, is_gt, is_lt, ordering_reverse}
use Rattle.std.specs.declared.cmp.Ordering.{Ordering}
use Rattle.std.specs.declared.cmp.Ordering.TheVariants.{Less, Equal, Greater}
use Rattle.std.specs.FinMap.Entries.{by_order}
use Rattle.std.proofs.lemmas.Cmp.{tied_itself, upto}
use Rattle.std.proofs.lemmas.List.{take-append-drop, append-nil, append_assoc, drop-drop}
use Rattle.std.proofs.lemmas.List.Elements.{filter-append}
use Rattle.lv_values.specs.declared.value.Value.{Value}
use Rattle.lv_values.specs.Order.{row_cmp, row_eq}
use Rattle.lv_values.specs.OrderLaws.{row_total, row_exact}
use Rattle.lv_schema.specs.Keys.{left_by}
use Rattle.lv_schema.specs.Once.{Ascends, put_once, once}
use Rattle.lv_condense.specs.Touches.{AtLeast, ATouch, key_of, touch_cmp, found_in, left_in, of_key, by_key, Rises, run_of}

abbrev Key : Type 0
Key = List Value

-- ---- orders
less_along : (x y z : Key) → row_cmp x y ≡ Less → is_gt (row_cmp y z) ≡ false → row_cmp x z ≡ Less
less_along x y z l b = by (row_cmp y z) refl b
  where
    by : (r : Ordering) → row_cmp y z ≡ r → is_gt r ≡ false → row_cmp x z ≡ Less
    by Less e g = row_total.trans x y z l e
    by Equal e g = subst (λ (w : Key). row_cmp x w ≡ Less) (row_exact y z e) l
    by Greater e g = cc

pub less_from : (r : Ordering) → is_gt r ≡ false → is_eq r ≡ false → r ≡ Less
less_from Less g e = refl
less_from Equal g e = cc
less_from Greater g e = cc

pub equal_from : (r : Ordering) → is_eq r ≡ true → r ≡ Equal
equal_from Less h = cc
equal_from Equal h = refl
equal_from Greater h = cc

-- ---- what stands behind a touch
abbrev Above : Key → List ATouch → Type 0
Above k xs = AllByRecursion (λ x. row_cmp k (key_of x) ≡ Less) xs

abbrev Same : Key → List ATouch → Type 0
Same k xs = AllByRecursion (λ x. key_of x ≡ k) xs

rises_drop : (n : ℕ) (xs : List ATouch) → Rises xs → Rises (drop n xs)
rises_drop zero xs r = r
rises_drop (suc n) [] r = tt
rises_drop (suc n) (x ∷ xs) r = rises_drop n xs r.1

above_all : (k g : Key) (xs : List ATouch) → row_cmp k g ≡ Less → AtLeast g xs → Above k xs
above_all k g [] l a = tt
above_all k g (x ∷ xs) l a = (less_along k g (key_of x) l a.0, above_all k g xs l a.1)

abbrev run : Key → List ATouch → ℕ
run k xs = prefix_len (λ x. row_eq k (key_of x)) xs

one_more : (n : ℕ) → 1 + n ≡ suc n
one_more n = omega arith

-- behind the touches of a key come those of greater ones
above_run : (k : Key) (xs : List ATouch) → AtLeast k xs → Rises xs → Above k (drop (run k xs) xs)
above_run k [] a r = tt
above_run k (x ∷ xs) a r = by (row_eq k (key_of x)) refl (above_run k xs a.1 r.1)
  where
    by : (b : Bool) → row_eq k (key_of x) ≡ b → Above k (drop (run k xs) xs) → Above k (drop (cond b (1 + run k xs) 0) (x ∷ xs))
    by true h rest = subst (λ n. Above k (drop n (x ∷ xs))) (sym (one_more (run k xs))) rest
    by false h rest = let l = less_from (row_cmp k (key_of x)) a.0 h in (l, above_all k (key_of x) xs l r.0)

same_run : (k : Key) (xs : List ATouch) → Same k (take (run k xs) xs)
same_run k [] = tt
same_run k (x ∷ xs) = by (row_eq k (key_of x)) refl (same_run k xs)
  where
    by : (b : Bool) → row_eq k (key_of x) ≡ b → Same k (take (run k xs) xs) → Same k (take (cond b (1 + run k xs) 0) (x ∷ xs))
    by true h rest = subst (λ n. Same k (take n (x ∷ xs))) (sym (one_more (run k xs))) (sym (row_exact k (key_of x) (equal_from _ h)), rest)
    by false h rest = tt

-- ---- a run in front of touches of greater keys
abbrev Higher : Key → List Key → Type 0
Higher k ks = AllByRecursion (λ q. row_cmp k q ≡ Less) ks

higher_put : (k x : Key) (ks : List Key) → row_cmp k x ≡ Less → Higher k ks → Higher k (put_once row_cmp x ks)
higher_put k x [] l h = (l, tt)
higher_put k x (y ∷ ks) l h =
    elim (row_cmp x y) as (λ r. Higher k (by_order r (x ∷ y ∷ ks) (y ∷ ks) (y ∷ put_once row_cmp x ks))) [
      | Less ↦ (l, h)
      | Equal ↦ h
      | Greater ↦ (h.0, higher_put k x ks l h.1)
    ]

higher_once : (k : Key) (xs : List ATouch) → Above k xs → Higher k (once row_cmp (map key_of xs))
higher_once k [] a = tt
higher_once k (x ∷ xs) a = higher_put k (key_of x) (once row_cmp (map key_of xs)) a.0 (higher_once k xs a.1)

put_front : (k : Key) (ks : List Key) → Higher k ks → put_once row_cmp k ks ≡ k ∷ ks
put_front k [] h = refl
put_front k (q ∷ ks) h = λ i. by_order (h.0 i) (k ∷ q ∷ ks) (q ∷ ks) (q ∷ put_once row_cmp k ks)

put_again : (k : Key) (ks : List Key) → put_once row_cmp k (k ∷ ks) ≡ k ∷ ks
put_again k ks = λ i. by_order (tied_itself row_total k i) (k ∷ k ∷ ks) (k ∷ ks) (k ∷ put_once row_cmp k ks)

once_run : (k : Key) (x : ATouch) (xs : List ATouch) (ks : List Key) → Same k (x ∷ xs) → Higher k (once row_cmp ks) → once row_cmp (map key_of (x ∷ xs) ++ ks) ≡ k ∷ once row_cmp ks
once_run k x [] ks s h = ap (λ g. put_once row_cmp g (once row_cmp ks)) s.0 ∙ put_front k (once row_cmp ks) h
once_run k x (y ∷ xs) ks s h = (λ i. put_once row_cmp (s.0 i) (once_run k y xs ks s.1 h i)) ∙ put_again k (once row_cmp ks)

all_own : (k : Key) (xs : List ATouch) → Same k xs → of_key k xs ≡ xs
all_own k [] s = refl
all_own k (x ∷ xs) s =
    (λ i. cond (row_eq k (s.0 i)) (x ∷ of_key k xs) (of_key k xs))
    ∙ (λ i. cond (is_eq (tied_itself row_total k i)) (x ∷ of_key k xs) (of_key k xs))
    ∙ ap (λ l. x ∷ l) (all_own k xs s.1)

pub none_above : (k : Key) (xs : List ATouch) → Above k xs → of_key k xs ≡ []
none_above k [] a = refl
none_above k (x ∷ xs) a = (λ i. cond (is_eq (a.0 i)) (x ∷ of_key k xs) (of_key k xs)) ∙ none_above k xs a.1

none_below : (k q : Key) (xs : List ATouch) → row_cmp k q ≡ Less → Same k xs → of_key q xs ≡ []
none_below k q [] l s = refl
none_below k q (x ∷ xs) l s =
    (λ i. cond (row_eq q (s.0 i)) (x ∷ of_key q xs) (of_key q xs))
    ∙ (λ i. cond (is_eq ((row_total.antisymm q k ∙ ap ordering_reverse l) i)) (x ∷ of_key q xs) (of_key q xs))
    ∙ none_below k q xs l s.1

pub same_picks : (f g : Key → Option Key) (xs : List Key) → AllByRecursion (λ x. f x ≡ g x) xs → filter_map f xs ≡ filter_map g xs
same_picks f g [] a = refl
same_picks f g (x ∷ xs) a = ap₂ cons_option a.0 (same_picks f g xs a.1)

all_within : (P Q : Key → Type 0) → ((x : Key) → P x → Q x) → (xs : List Key) → AllByRecursion P xs → AllByRecursion Q xs
all_within P Q f [] a = tt
all_within P Q f (x ∷ xs) a = (f x a.0, all_within P Q f xs a.1)

map-append : (xs ys : List ATouch) → map key_of (xs ++ ys) ≡ map key_of xs ++ map key_of ys
map-append [] ys = refl
map-append (x ∷ xs) ys = ap (λ l. key_of x ∷ l) (map-append xs ys)

-- what comes of a run and of touches of greater keys is what comes of each
by_key_run : (f : List ATouch → Option Key) (k : Key) (x : ATouch) (xs rest : List ATouch) → Same k (x ∷ xs) → Above k rest → by_key f ((x ∷ xs) ++ rest) ≡ cons_option (f (x ∷ xs)) (by_key f rest)
by_key_run f k x xs rest s a =
    let whole = (x ∷ xs) ++ rest in
    let higher = higher_once k rest a in
    let own : of_key k whole ≡ x ∷ xs =
    filter-append (λ y. row_eq k (key_of y)) (x ∷ xs) rest ∙ (λ i. all_own k (x ∷ xs) s i ++ none_above k rest a i) ∙ append-nil (x ∷ xs) in
    let theirs : (q : Key) → row_cmp k q ≡ Less → f (of_key q whole) ≡ f (of_key q rest) = λ q l.
    ap f (filter-append (λ y. row_eq q (key_of y)) (x ∷ xs) rest ∙ ap (λ l. l ++ of_key q rest) (none_below k q (x ∷ xs) l s)) in
    ap (filter_map (λ q. f (of_key q whole))) (ap (once row_cmp) (map-append (x ∷ xs) rest) ∙ once_run k x xs (map key_of rest) s higher)
    ∙ ap₂ cons_option (ap f own)
    (same_picks (λ q. f (of_key q whole)) (λ q. f (of_key q rest)) (once row_cmp (map key_of rest))
    (all_within (λ q. row_cmp k q ≡ Less) (λ q. f (of_key q whole) ≡ f (of_key q rest)) theirs (once row_cmp (map key_of rest)) higher))

-- a loop's step: the run at the front, and the rest
pub record Falls (n : ℕ) (xs : List ATouch) : Type 0 where
  pub comes : (f : List ATouch → Option Key) → by_key f xs ≡ cons_option (f (take n xs)) (by_key f (drop n xs))
  pub rest : Rises (drop n xs)
  pub some : 0 < n
  pub within : n ≤ length xs

run_within : (k : Key) (xs : List ATouch) → run k xs ≤ length xs
run_within k [] = omega arith
run_within k (x ∷ xs) = by (row_eq k (key_of x)) (run_within k xs)
  where
    by : (b : Bool) → run k xs ≤ length xs → cond b (1 + run k xs) 0 ≤ length (x ∷ xs)
    by true h = omega arith
    by false h = omega arith

falls_at : (x : ATouch) (xs : List ATouch) → Rises (x ∷ xs) → Falls (suc (run (key_of x) xs)) (x ∷ xs)
falls_at x xs r =
    let k = key_of x in
    let n = run k xs in record {
      comes = λ f.
          ap (by_key f) (ap (λ l. x ∷ l) (sym (take-append-drop n xs)))
          ∙ by_key_run f k x (take n xs) (drop n xs) (refl, same_run k xs) (above_run k xs r.0 r.1);
      rest = rises_drop n xs r.1;
      some = omega arith;
      within = let le = run_within k xs in omega arith;
    }

falls : (xs : List ATouch) → 0 < length xs → Rises xs → Falls (run_of xs) xs
falls [] some r = absurd (omega arith)
falls (x ∷ xs) some r = subst (λ (m : ℕ). Falls m (x ∷ xs)) (sym (one_more (run (key_of x) xs))) (falls_at x xs r)

-- what a sort leaves rises
pub not_gt : (x y : ATouch) → is_lt (touch_cmp y x) ≡ false → is_gt (touch_cmp x y) ≡ false
not_gt x y g = by (row_cmp (key_of x) (key_of y)) refl
  where
    by : (r : Ordering) → row_cmp (key_of x) (key_of y) ≡ r → is_gt r ≡ false
    by Less e = refl
    by Equal e = refl
    by Greater e = let t : is_lt (row_cmp (key_of y) (key_of x)) ≡ true = ap is_lt (row_total.antisymm (key_of y) (key_of x) ∙ ap ordering_reverse e) in cc

least_along : (k : Key) (y : ATouch) (xs : List ATouch) → is_gt (row_cmp k (key_of y)) ≡ false → AtLeast (key_of y) xs → AtLeast k xs
least_along k y [] h a = tt
least_along k y (x ∷ xs) h a = (upto row_total k (key_of y) (key_of x) h a.0, least_along k y xs h a.1)

pub rises_from_sorted : (xs : List ATouch) → IsSorted touch_cmp xs → Rises xs
rises_from_sorted [] s = tt
rises_from_sorted (x ∷ []) s = (tt, tt)
rises_from_sorted (x ∷ y ∷ xs) s =
    let rest = rises_from_sorted (y ∷ xs) (λ k d l h. simp add-one (simp add-one at (s (suc k) d (omega arith) (omega arith)))) in
    let here = not_gt x y (s 0 x (omega arith) (omega arith)) in
    ((here, least_along (key_of x) y xs here rest.0), rest)

-- so do touches each of a lower key than the next one
pub rises_from_ascends : (xs : List ATouch) → Ascends touch_cmp xs → Rises xs
rises_from_ascends [] a = tt
rises_from_ascends (x ∷ xs) a = (least (key_of x) xs a.0, rises_from_ascends xs a.1)
  where
    least : (k : Key) (ys : List ATouch) → Above k ys → AtLeast k ys
    least k [] l = tt
    least k (y ∷ ys) l = (ap is_gt l.0, least k ys l.1)

ascends_drop : (n : ℕ) (xs : List ATouch) → Ascends touch_cmp xs → Ascends touch_cmp (drop n xs)
ascends_drop zero xs a = a
ascends_drop (suc n) [] a = tt
ascends_drop (suc n) (x ∷ xs) a = ascends_drop n xs a.1

pub ascends_from : (touches xs : List ATouch) (at : ℕ) → xs ≡ drop at touches → Ascends touch_cmp touches → Ascends touch_cmp xs
ascends_from touches xs at is a = subst (Ascends touch_cmp) (sym is) (ascends_drop at touches a)

-- the first of touches each of a lower key than the next one is a run
pub run_of_one : (xs : List ATouch) → 0 < length xs → Ascends touch_cmp xs → 1 ≡ run_of xs
run_of_one [] some a = absurd (omega arith)
run_of_one (x ∷ []) some a = refl
run_of_one (x ∷ y ∷ xs) some a = λ i. 1 + cond (is_eq (sym a.0.0 i)) (1 + prefix_len (λ z. is_eq (touch_cmp x z)) xs) 0

pub run_of_first : (xs others : List ATouch) (first : ATouch) (n : ℕ) → 0 < length xs → others ≡ drop 1 xs → first ≡ get_or xs 0 first → n ≡ prefix_len (λ y. is_eq (touch_cmp first y)) others → 1 + n ≡ run_of xs
run_of_first [] others first n some rest here e = absurd (omega arith)
run_of_first (x ∷ xs) others first n some rest here e = ap (λ (m : ℕ). 1 + m) (e ∙ (λ i. prefix_len (λ y. is_eq (touch_cmp (here i) y)) (rest i)))

behind : (x : Option Key) (rows : List Key) → cons_option x [] ++ rows ≡ cons_option x rows
behind None rows = refl
behind (Some row) rows = refl

pub gather_step : (f : List ATouch → Option Key) (touches xs : List ATouch) (at n : ℕ) (rows after : List Key) → xs ≡ drop at touches → Falls n xs
    → rows ++ by_key f (drop at touches) ≡ by_key f touches → after ≡ rows ++ cons_option (f (take n xs)) []
    → after ++ by_key f (drop (at + n) touches) ≡ by_key f touches
gather_step f touches xs at n rows after is falls so_far push =
    let rest : drop (at + n) touches ≡ drop n xs = sym (drop-drop n at touches) ∙ ap (drop n) (sym is) in
    (λ i. push i ++ by_key f (rest i))
    ∙ append_assoc rows (cons_option (f (take n xs)) []) (by_key f (drop n xs))
    ∙ ap (λ l. rows ++ l) (behind (f (take n xs)) (by_key f (drop n xs)) ∙ sym (falls.comes f) ∙ ap (by_key f) is)
    ∙ so_far

pub rises_on : (touches xs : List ATouch) (at n : ℕ) → xs ≡ drop at touches → Rises (drop n xs) → Rises (drop (at + n) touches)
rises_on touches xs at n is r = subst Rises (ap (drop n) is ∙ drop-drop n at touches) r

-- ---- the first touch of a run, and the last one
pub found_first : (xs : List ATouch) (x : ATouch) → 0 < length xs → x ≡ get_or xs 0 x → found_in xs ≡ found_in (x ∷ [])
found_first [] x lt e = absurd (omega arith)
found_first (y ∷ xs) x lt e = ap (λ z. found_in (z ∷ [])) (sym e)

pub left_last : (row : Option Key) (xs : List ATouch) (i : ℕ) (x : ATouch) → suc i ≡ length xs → x ≡ get_or xs i x → left_in row xs ≡ left_by x.last.kind x.last.row
left_last row [] i x lt e = absurd (omega arith)
left_last row (y ∷ []) zero x lt e = ap (λ (z : ATouch). left_by z.last.kind z.last.row) (sym e)
left_last row (y ∷ []) (suc i) x lt e = absurd (omega arith)
left_last row (y ∷ z ∷ xs) zero x lt e = absurd (omega arith)
left_last row (y ∷ z ∷ xs) (suc i) x lt e = left_last (left_by y.last.kind y.last.row) (z ∷ xs) i x (omega arith) e

pub run_falls : (touches xs : List ATouch) (n at : ℕ) → xs ≡ drop at touches → 0 < length xs → Rises (drop at touches) → n ≡ run_of xs → Falls n xs
run_falls touches xs n at is some rises e = subst (λ (m : ℕ). Falls m xs) (sym e) (falls xs some (subst Rises (sym is) rises))
