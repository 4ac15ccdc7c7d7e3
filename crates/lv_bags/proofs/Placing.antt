-- An entry that goes to its place is put into the list; and where the last place is.
use Rattle.std.proofs.Common.{◌≡◌, ℕ, zero, suc, ◌-◌, ◌<◌, ◌≤◌, true, false, List, [], ◌∷◌, ◌++◌, ◌+◌, drop, length, length-drop, get_or, refl, sym, ap, ◌∙◌, subst, arith, add-one}
use Rattle.std.proofs.Math.ListN.{set}
use Rattle.std.specs.Prelude.{slice_get}
use Rattle.std.specs.List.{insert, AllByRecursion}
use Rattle.std.specs.List.Sorted.{IsPartitionPoint, IsPartitionedBy, IsSortedByKey}
use Rattle.std.specs.Ordering.{is_eq, is_gt, is_lt, ordering_reverse}
use Rattle.std.specs.declared.cmp.Ordering.{Ordering}
use Rattle.std.specs.declared.cmp.Ordering.TheVariants.{Less, Equal, Greater}
use Rattle.std.specs.FinMap.Entries.{by_order}
use Rattle.std.proofs.lemmas.Cmp.{upto}
use Rattle.std.proofs.lemmas.List.{drop_more}
use Rattle.lv_values.specs.Order.{row_cmp, row_eq}
use Rattle.lv_values.specs.OrderLaws.{row_total, row_exact}
use Rattle.lv_schema.specs.declared.signed.SignedRow.{SignedRow}
use Rattle.lv_schema.proofs.ChangeLists.{ARow}
use Rattle.lv_bags.specs.Tallies.{both_of, put, Rising, AtMost, IsPlace, is_of}

pub place_within : (row : ARow) (n : ℕ) (list : List SignedRow) → IsPlace row n list → n ≤ length list
place_within row zero list p = omega arith
place_within row (suc n) [] p = absurd p
place_within row (suc n) (r ∷ list) p = omega (arith, place_within row n list p.1)

of_within : (row : ARow) (n : ℕ) (list : List SignedRow) → is_of row (slice_get list n) ≡ true → n < length list
of_within row n [] h = cc
of_within row zero (r ∷ list) h = omega arith
of_within row (suc n) (r ∷ list) h = omega (arith, of_within row n list h)

greater : (o : Ordering) → is_gt o ≡ true → o ≡ Greater
greater Less h = cc
greater Equal h = cc
greater Greater h = refl

-- ---- an entry that goes to its place
pub put_new : (s : SignedRow) (list : List SignedRow) (n : ℕ) → IsPlace s.row n list → is_of s.row (slice_get list n) ≡ false → insert list n s ≡ put s list
put_new s [] zero p h = refl
put_new s [] (suc n) p h = absurd p
put_new s (r ∷ list) zero p h = by (row_cmp s.row r.row) p.0 h
  where
    by : (o : Ordering) → is_gt o ≡ false → is_eq o ≡ false → (s ∷ r ∷ list) ≡ by_order o (s ∷ r ∷ list) (both_of s r ∷ list) (r ∷ put s list)
    by Less g e = refl
    by Equal g e = cc
    by Greater g e = cc
put_new s (r ∷ list) (suc n) p h =
    ap (λ l. r ∷ l) (put_new s list n p.1 h)
    ∙ sym (λ i. by_order (greater _ p.0 i) (s ∷ r ∷ list) (both_of s r ∷ list) (r ∷ put s list))

pub put_on : (s d : SignedRow) (list : List SignedRow) (n : ℕ) → IsPlace s.row n list → is_of s.row (slice_get list n) ≡ true → d ≡ get_or list n d → set list n (both_of s d) ≡ put s list
put_on s d [] n p h is = cc
put_on s d (r ∷ list) zero p h is = by (row_cmp s.row r.row) h
  where
    by : (o : Ordering) → is_eq o ≡ true → (both_of s d ∷ list) ≡ by_order o (s ∷ r ∷ list) (both_of s r ∷ list) (r ∷ put s list)
    by Less e = cc
    by Equal e = ap (λ x. both_of s x ∷ list) is
    by Greater e = cc
put_on s d (r ∷ list) (suc n) p h is =
    ap (λ l. r ∷ l) (put_on s d list n p.1 h is)
    ∙ sym (λ i. by_order (greater _ p.0 i) (s ∷ r ∷ list) (both_of s r ∷ list) (r ∷ put s list))

pub of_length : (s : SignedRow) (list : List SignedRow) (n : ℕ) → is_of s.row (slice_get list n) ≡ true → n < length list
of_length s list n h = of_within s.row n list h

-- ---- the place behind entries of which none is above
less_along : (x y z : ARow) → row_cmp x y ≡ Less → is_gt (row_cmp y z) ≡ false → row_cmp x z ≡ Less
less_along x y z l b = by (row_cmp y z) refl b
  where
    by : (r : Ordering) → row_cmp y z ≡ r → is_gt r ≡ false → row_cmp x z ≡ Less
    by Less e g = row_total.trans x y z l e
    by Equal e g = subst (λ (w : ARow). row_cmp x w ≡ Less) (row_exact y z e) l
    by Greater e g = cc

above : (x y : ARow) → row_cmp x y ≡ Less → is_gt (row_cmp y x) ≡ true
above x y l = ap is_gt (row_total.antisymm y x ∙ ap ordering_reverse l)

-- an order that is not greater, turned, and not equal
turned : (x y : ARow) → is_gt (row_cmp x y) ≡ false → row_eq y x ≡ false → is_gt (row_cmp y x) ≡ true
turned x y g e = by (row_cmp x y) refl g
  where
    by : (r : Ordering) → row_cmp x y ≡ r → is_gt r ≡ false → is_gt (row_cmp y x) ≡ true
    by Less h g = above x y h
    by Equal h g = let same : row_eq y x ≡ true = ap is_eq (row_total.antisymm y x ∙ ap ordering_reverse h) in cc
    by Greater h g = cc

not_above : (o : Ordering) → is_eq o ≡ true → is_gt o ≡ false
not_above Less h = cc
not_above Equal h = refl
not_above Greater h = cc

last_equal : (row : ARow) (list : List SignedRow) (n : ℕ) → Rising list → AtMost row list → suc n ≡ length list → is_of row (slice_get list n) ≡ true → IsPlace row n list
last_equal row [] n up most e h = absurd (omega arith)
last_equal row (r ∷ []) zero up most e h = (not_above _ h, tt)
last_equal row (r ∷ []) (suc n) up most e h = absurd (omega arith)
last_equal row (r ∷ t ∷ list) zero up most e h = absurd (omega arith)
last_equal row (r ∷ t ∷ list) (suc n) up most e h =
    (above r.row row (less_along r.row t.row row up.0.0 most.1.0), last_equal row (t ∷ list) n up.1 most.1 (omega arith) h)

last_other : (row : ARow) (list : List SignedRow) (n : ℕ) → Rising list → AtMost row list → suc n ≡ length list → is_of row (slice_get list n) ≡ false → IsPlace row (suc n) list
last_other row [] n up most e h = absurd (omega arith)
last_other row (r ∷ []) zero up most e h = (turned r.row row most.0 h, tt)
last_other row (r ∷ []) (suc n) up most e h = absurd (omega arith)
last_other row (r ∷ t ∷ list) zero up most e h = absurd (omega arith)
last_other row (r ∷ t ∷ list) (suc n) up most e h =
    (above r.row row (less_along r.row t.row row up.0.0 most.1.0), last_other row (t ∷ list) n up.1 most.1 (omega arith) h)

end_is_none : (row : ARow) (list : List SignedRow) → is_of row (slice_get list (length list)) ≡ false
end_is_none row [] = refl
end_is_none row (r ∷ list) = end_is_none row list

insert_end : (list : List SignedRow) (s : SignedRow) → insert list (length list) s ≡ list ++ s ∷ []
insert_end [] s = refl
insert_end (r ∷ list) s = ap (λ l. r ∷ l) (insert_end list s)

pub last_on : (s d : SignedRow) (list : List SignedRow) (n : ℕ) → Rising list → AtMost s.row list → n ≡ length list → is_of s.row (slice_get list (length list - 1)) ≡ true → d ≡ get_or list (n - 1) d → set list (n - 1) (both_of s d) ≡ put s list
last_on s d list n up most long h is =
    let here : is_of s.row (slice_get list (n - 1)) ≡ true = subst (λ m. is_of s.row (slice_get list (m - 1)) ≡ true) (sym long) h in
    put_on s d list (n - 1) (last_equal s.row list (n - 1) up most (omega (arith, long, of_within s.row (n - 1) list here)) here) here is

pub last_new : (s : SignedRow) (list : List SignedRow) → Rising list → AtMost s.row list → is_of s.row (slice_get list (length list - 1)) ≡ false → list ++ s ∷ [] ≡ put s list
last_new s [] up most h = refl
last_new s (r ∷ list) up most h =
    let other : is_of s.row (slice_get (r ∷ list) (length list)) ≡ false = subst (λ n. is_of s.row (slice_get (r ∷ list) n) ≡ false) (omega arith) h in
    sym (insert_end (r ∷ list) s) ∙ put_new s (r ∷ list) (suc (length list)) (last_other s.row (r ∷ list) (length list) up most refl other) (end_is_none s.row list)

-- ---- what a sort leaves
abbrev pub Climbs : List SignedRow → Type 0
Climbs [] = Unit {0}
Climbs (s ∷ list) = AllByRecursion (λ (r : SignedRow). is_gt (row_cmp s.row r.row) ≡ false) list × Climbs list

not_gt : (x y : ARow) → is_lt (row_cmp y x) ≡ false → is_gt (row_cmp x y) ≡ false
not_gt x y g = by (row_cmp x y) refl
  where
    by : (r : Ordering) → row_cmp x y ≡ r → is_gt r ≡ false
    by Less e = refl
    by Equal e = refl
    by Greater e = let t : is_lt (row_cmp y x) ≡ true = ap is_lt (row_total.antisymm y x ∙ ap ordering_reverse e) in cc

least_along : (x y : ARow) (list : List SignedRow) → is_gt (row_cmp x y) ≡ false → AllByRecursion (λ (r : SignedRow). is_gt (row_cmp y r.row) ≡ false) list → AllByRecursion (λ (r : SignedRow). is_gt (row_cmp x r.row) ≡ false) list
least_along x y [] h a = tt
least_along x y (r ∷ list) h a = (upto row_total x y r.row h a.0, least_along x y list h a.1)

pub climbs_from_sorted : (list : List SignedRow) → IsSortedByKey (λ (s : SignedRow). s.row) row_cmp list → Climbs list
climbs_from_sorted [] s = tt
climbs_from_sorted (x ∷ []) s = (tt, tt)
climbs_from_sorted (x ∷ y ∷ list) s =
    let rest = climbs_from_sorted (y ∷ list) (λ k d l h. simp add-one (simp add-one at (s (suc k) d (omega arith) (omega arith)))) in
    let here = not_gt x.row y.row (s 0 x (omega arith) (omega arith)) in
    ((here, least_along x.row y.row list here rest.0), rest)

in_middle : (P : SignedRow → Type 0) (xs : List SignedRow) (s : SignedRow) (ys : List SignedRow) → AllByRecursion P (xs ++ s ∷ ys) → P s
in_middle P [] s ys a = a.0
in_middle P (x ∷ xs) s ys a = in_middle P xs s ys a.1

climbs_before : (xs : List SignedRow) (s : SignedRow) (ys : List SignedRow) → Climbs (xs ++ s ∷ ys) → AtMost s.row xs
climbs_before [] s ys c = tt
climbs_before (x ∷ xs) s ys c = (in_middle (λ (r : SignedRow). is_gt (row_cmp x.row r.row) ≡ false) xs s ys c.0, climbs_before xs s ys c.1)

pub most_before : (list xs : List SignedRow) (s : SignedRow) (ys : List SignedRow) → xs ++ s ∷ ys ≡ list → Climbs list → AtMost s.row xs
most_before list xs s ys e c = climbs_before xs s ys (subst Climbs (sym e) c)

pub one_of : (P : SignedRow → Type 0) (list xs : List SignedRow) (s : SignedRow) (ys : List SignedRow) → xs ++ s ∷ ys ≡ list → AllByRecursion P list → P s
one_of P list xs s ys e a = in_middle P xs s ys (subst (AllByRecursion P) (sym e) a)

-- ---- what a binary search finds
all_get : (P : SignedRow → Type 0) (list : List SignedRow) (i : ℕ) (d : SignedRow) → i < length list → AllByRecursion P list → P (get_or list i d)
all_get P [] i d h a = absurd (omega arith)
all_get P (r ∷ list) zero d h a = a.0
all_get P (r ∷ list) (suc i) d h a = all_get P list i d (omega arith) a.1

falls : (row x y : ARow) → row_cmp x y ≡ Less → is_gt (row_cmp row y) ≡ true → is_gt (row_cmp row x) ≡ true
falls row x y l g = let low : row_cmp y row ≡ Less = row_total.antisymm y row ∙ ap ordering_reverse (greater _ g) in above x row (row_total.trans x y row l low)

pub rising_partitioned : (row : ARow) (list : List SignedRow) → Rising list → IsPartitionedBy (λ (r : SignedRow). is_gt (row_cmp row r.row)) list
rising_partitioned row [] up i j d le lt t = absurd (omega arith)
rising_partitioned row (r ∷ list) up zero zero d le lt t = t
rising_partitioned row (r ∷ list) up zero (suc j) d le lt t = falls row r.row (get_or list j d).row (all_get (λ (x : SignedRow). row_cmp r.row x.row ≡ Less) list j d (omega arith) up.0) t
rising_partitioned row (r ∷ list) up (suc i) zero d le lt t = absurd (omega arith)
rising_partitioned row (r ∷ list) up (suc i) (suc j) d le lt t = rising_partitioned row list up.1 i j d (omega arith) (omega arith) t

all_from : (P : SignedRow → Type 0) (list : List SignedRow) → ((k : ℕ) (d : SignedRow) → 0 ≤ k → k < length list → P (get_or list k d)) → AllByRecursion P list
all_from P [] f = tt
all_from P (x ∷ list) f = (f 0 x (omega arith) (omega arith), all_from P list (λ k d le lt. f (suc k) d (omega arith) (omega arith)))

pub place_from : (row : ARow) (list : List SignedRow) (i : ℕ) → i ≤ length list → IsPartitionPoint (λ (r : SignedRow). is_gt (row_cmp row r.row) ≡ true) (λ (r : SignedRow). is_gt (row_cmp row r.row) ≡ false) list i → IsPlace row i list
place_from row list zero le h = all_from (λ (r : SignedRow). is_gt (row_cmp row r.row) ≡ false) list h.1
place_from row [] (suc i) le h = absurd (omega arith)
place_from row (r ∷ list) (suc i) le h =
    (h.0 0 r (omega arith) (omega arith), place_from row list i (omega arith) ((λ k d a b. h.0 (suc k) d (omega arith) (omega arith)), (λ k d a b. h.1 (suc k) d (omega arith) (omega arith))))

-- ---- entries that rise
all_above : (s r : SignedRow) (list : List SignedRow) → row_cmp s.row r.row ≡ Less → AllByRecursion (λ (q : SignedRow). row_cmp r.row q.row ≡ Less) list → AllByRecursion (λ (q : SignedRow). row_cmp s.row q.row ≡ Less) list
all_above s r [] less a = tt
all_above s r (q ∷ list) less a = (row_total.trans s.row r.row q.row less a.0, all_above s r list less a.1)

pub rises_alone : (list : List SignedRow) (i : ℕ) → i + 1 ≡ length list → Rising (drop i list)
rises_alone list i e = by (drop i list) (omega (arith, length-drop i list))
  where
    by : (rest : List SignedRow) → length rest ≡ 1 → Rising rest
    by [] h = tt
    by (s ∷ []) h = (tt, tt)
    by (s ∷ r ∷ rest) h = absurd (let n = h in omega (arith, n))

pub rises_on : (list : List SignedRow) (i : ℕ) (s r : SignedRow) → i + 1 < length list → s ≡ get_or list i s → r ≡ get_or list (i + 1) r → is_lt (row_cmp s.row r.row) ≡ true → Rising (drop (i + 1) list) → Rising (drop i list)
rises_on list i s r lt here next less up =
    let first : drop i list ≡ s ∷ drop (i + 1) list = drop_more list i s (omega (arith, lt)) ∙ ap (λ q. q ∷ drop (i + 1) list) (sym here) in
    let second : drop (i + 1) list ≡ r ∷ drop (i + 1 + 1) list = drop_more list (i + 1) r lt ∙ ap (λ q. q ∷ drop (i + 1 + 1) list) (sym next) in
    let above = subst Rising second up in
    let is : row_cmp s.row r.row ≡ Less = lower (row_cmp s.row r.row) less in
    subst Rising (sym (first ∙ ap (λ l. s ∷ l) second)) ((is, all_above s r (drop (i + 1 + 1) list) is above.0), above)
  where
    lower : (o : Ordering) → is_lt o ≡ true → o ≡ Less
    lower Less h = refl
    lower Equal h = cc
    lower Greater h = cc

pub entry_on : (list : List SignedRow) (i : ℕ) (s : SignedRow) → i < length list → s ≡ get_or list i s → (P : SignedRow → Type 0) → P s → AllByRecursion P (drop (i + 1) list) → AllByRecursion P (drop i list)
entry_on list i s lt here P p rest = subst (AllByRecursion P) (sym (drop_more list i s lt ∙ ap (λ q. q ∷ drop (i + 1) list) (sym here))) (p, rest)
