-- What searches find among entries whose numbers do not fall.
use Rattle.std.proofs.Common.{◌≡◌, ℕ, zero, suc, ◌<◌, ◌≤◌, Bool, true, false, cond, ◌&&◌, List, [], ◌∷◌, ◌++◌, map, take, drop, length, get_or, Option, Some, None, refl, sym, ap, ap₂, ◌∙◌, arith}
use Rattle.std.specs.Prelude.{◌==◌, nat_lt, nat_le}
use Rattle.std.specs.List.{filter, last_or, AllByRecursion}
use Rattle.std.specs.List.Sorted.{IsPartitionPoint, IsPartitionedBy}
use Rattle.std.specs.Ordering.{is_eq, ordering_reverse}
use Rattle.std.specs.declared.cmp.Ordering.{Ordering}
use Rattle.std.specs.declared.cmp.Ordering.TheVariants.{Less, Equal, Greater}
use Rattle.std.proofs.lemmas.Bool.Decides.{nat_tests}
use Rattle.lv_values.specs.declared.value.Value.{Value}
use Rattle.lv_values.specs.Order.{row_cmp}
use Rattle.lv_values.specs.OrderLaws.{row_total}
use Rattle.lv_schema.specs.declared.action.Action.{Action}
use Rattle.lv_schema.specs.declared.action.DeltaEntry.{DeltaEntry}
use Rattle.lv_schema.specs.declared.table.TableDef.{TableDef}
use Rattle.lv_schema.specs.Versions.{delta_entry}
use Rattle.lv_schema.proofs.Apart.{all_append, all_weaker}
use Rattle.lv_delta.specs.Kept.{is_above, is_up_to, is_between, in_range, writes_key, writer_after, AreRising, AreInOrder}

eq_reverse : (o : Ordering) → is_eq (ordering_reverse o) ≡ is_eq o
eq_reverse Less = refl
eq_reverse Equal = refl
eq_reverse Greater = refl

pub row_eq_turned : (a b : List Value) → is_eq (row_cmp a b) ≡ is_eq (row_cmp b a)
row_eq_turned a b = ap is_eq (row_total.antisymm a b) ∙ eq_reverse (row_cmp b a)

-- ---- where a search ends
all_get : (P : DeltaEntry → Type 0) (xs : List DeltaEntry) (i : ℕ) (d : DeltaEntry) → i < length xs → AllByRecursion P xs → P (get_or xs i d)
all_get P [] i d lt a = absurd (omega arith)
all_get P (x ∷ xs) zero d lt a = a.0
all_get P (x ∷ xs) (suc i) d lt a = all_get P xs i d (omega arith) a.1

up_to_less : (a b n : ℕ) → a ≤ b → nat_le b n ≡ true → nat_le a n ≡ true
up_to_less a b n le t = grind (arith, nat_tests)

pub partitioned : (n : ℕ) (xs : List DeltaEntry) → AreRising xs → IsPartitionedBy (λ (e : DeltaEntry). nat_le e.number n) xs
partitioned n [] up i j d le lt t = absurd (omega arith)
partitioned n (x ∷ xs) up zero zero d le lt t = t
partitioned n (x ∷ xs) up zero (suc j) d le lt t = up_to_less x.number (get_or xs j d).number n (all_get (λ (e : DeltaEntry). x.number ≤ e.number) xs j d (omega arith) up.0) t
partitioned n (x ∷ xs) up (suc i) zero d le lt t = absurd (omega arith)
partitioned n (x ∷ xs) up (suc i) (suc j) d le lt t = partitioned n xs up.1 i j d (omega arith) (omega arith) t

above_if : (a n : ℕ) → nat_le a n ≡ false → nat_lt n a ≡ true
above_if a n e = grind (arith, nat_tests)

not_above_if : (a n : ℕ) → nat_le a n ≡ true → nat_lt n a ≡ false
not_above_if a n e = grind (arith, nat_tests)

all_kept : (n : ℕ) (xs : List DeltaEntry) → ((k : ℕ) (d : DeltaEntry) → 0 ≤ k → k < length xs → nat_le (get_or xs k d).number n ≡ false) → xs ≡ filter (is_above n) xs
all_kept n [] h = refl
all_kept n (x ∷ xs) h =
    ap (λ l. x ∷ l) (all_kept n xs (λ k d le lt. h (suc k) d (omega arith) (omega arith)))
    ∙ ap (λ b. cond b (x ∷ filter (is_above n) xs) (filter (is_above n) xs)) (sym (above_if x.number n (h 0 x (omega arith) (omega arith))))

pub rest_above : (n i : ℕ) (xs : List DeltaEntry) → i ≤ length xs → IsPartitionPoint (λ (e : DeltaEntry). nat_le e.number n ≡ true) (λ (e : DeltaEntry). nat_le e.number n ≡ false) xs i → drop i xs ≡ filter (is_above n) xs
rest_above n zero xs le h = all_kept n xs h.1
rest_above n (suc i) [] le h = absurd (omega arith)
rest_above n (suc i) (x ∷ xs) le h =
    rest_above n i xs (omega arith) ((λ k d a b. h.0 (suc k) d (omega arith) (omega arith)), (λ k d a b. h.1 (suc k) d (omega arith) (omega arith)))
    ∙ ap (λ b. cond b (x ∷ filter (is_above n) xs) (filter (is_above n) xs)) (sym (not_above_if x.number n (h.0 0 x (omega arith) (omega arith))))

-- ---- what rises still does
pub rising_drop : (i : ℕ) (xs : List DeltaEntry) → AreRising xs → AreRising (drop i xs)
rising_drop zero xs up = up
rising_drop (suc i) [] up = tt
rising_drop (suc i) (x ∷ xs) up = rising_drop i xs up.1

all_drop : (P : DeltaEntry → Type 0) (i : ℕ) (xs : List DeltaEntry) → AllByRecursion P xs → AllByRecursion P (drop i xs)
all_drop P zero xs a = a
all_drop P (suc i) [] a = tt
all_drop P (suc i) (x ∷ xs) a = all_drop P i xs a.1

pub ordered_drop : (last i : ℕ) (xs : List DeltaEntry) → AreInOrder last xs → AreInOrder last (drop i xs)
ordered_drop last i xs o = record { rising = rising_drop i xs o.rising; up_to = all_drop (λ (e : DeltaEntry). e.number ≤ last) i xs o.up_to }

all_number : (P : DeltaEntry → Type 0) (number : ℕ) (actions : List Action) → ((a : Action) → P (delta_entry number a)) → AllByRecursion P (map (delta_entry number) actions)
all_number P number [] f = tt
all_number P number (a ∷ actions) f = (f a, all_number P number actions f)

rising_number : (number : ℕ) (actions : List Action) → AreRising (map (delta_entry number) actions)
rising_number number [] = tt
rising_number number (a ∷ actions) = (all_number (λ (e : DeltaEntry). number ≤ e.number) number actions (λ b. omega arith), rising_number number actions)

rising_append : (number last : ℕ) (xs : List DeltaEntry) (actions : List Action) → last < number → AllByRecursion (λ (e : DeltaEntry). e.number ≤ last) xs → AreRising xs → AreRising (xs ++ map (delta_entry number) actions)
rising_append number last [] actions lt below up = rising_number number actions
rising_append number last (x ∷ xs) actions lt below up = (
  all_append (λ (e : DeltaEntry). x.number ≤ e.number) xs (map (delta_entry number) actions) up.0 (all_number (λ (e : DeltaEntry). x.number ≤ e.number) number actions (λ a. omega (arith, below.0))),
  rising_append number last xs actions lt below.1 up.1,
)

pub ordered_append : (number last : ℕ) (xs : List DeltaEntry) (actions : List Action) → last < number → AreInOrder last xs → AreInOrder number (xs ++ map (delta_entry number) actions)
ordered_append number last xs actions lt o = record {
  rising = rising_append number last xs actions lt o.up_to o.rising;
  up_to = all_append (λ (e : DeltaEntry). e.number ≤ number) xs (map (delta_entry number) actions)
      (all_weaker (λ (e : DeltaEntry). e.number ≤ last) (λ (e : DeltaEntry). e.number ≤ number) (λ e le. omega arith) xs o.up_to)
      (all_number (λ (e : DeltaEntry). e.number ≤ number) number actions (λ a. omega arith));
}

-- ---- two tests
pub filter_both : (p q : DeltaEntry → Bool) (xs : List DeltaEntry) → filter q (filter p xs) ≡ filter (λ e. p e && q e) xs
filter_both p q [] = refl
filter_both p q (x ∷ xs) = by (p x) (q x) refl (filter_both p q xs)
  where
    by : (s t : Bool) → q x ≡ t → filter q (filter p xs) ≡ filter (λ e. p e && q e) xs
        → filter q (cond s (x ∷ filter p xs) (filter p xs)) ≡ cond (s && t) (x ∷ filter (λ e. p e && q e) xs) (filter (λ e. p e && q e) xs)
    by true true e r = ap₂ (λ b l. cond b (x ∷ l) l) e r
    by true false e r = ap₂ (λ b l. cond b (x ∷ l) l) e r
    by false t e r = r

none_kept : (n : ℕ) (xs : List DeltaEntry) → ((k : ℕ) (d : DeltaEntry) → 0 ≤ k → k < length xs → nat_le (get_or xs k d).number n ≡ false) → [] ≡ filter (is_up_to n) xs
none_kept n [] h = refl
none_kept n (x ∷ xs) h =
    none_kept n xs (λ k d le lt. h (suc k) d (omega arith) (omega arith))
    ∙ ap (λ b. cond b (x ∷ filter (is_up_to n) xs) (filter (is_up_to n) xs)) (sym (h 0 x (omega arith) (omega arith)))

pub front_up_to : (n i : ℕ) (xs : List DeltaEntry) → i ≤ length xs → IsPartitionPoint (λ (e : DeltaEntry). nat_le e.number n ≡ true) (λ (e : DeltaEntry). nat_le e.number n ≡ false) xs i → take i xs ≡ filter (is_up_to n) xs
front_up_to n zero xs le h = none_kept n xs h.1
front_up_to n (suc i) [] le h = absurd (omega arith)
front_up_to n (suc i) (x ∷ xs) le h =
    ap (λ l. x ∷ l) (front_up_to n i xs (omega arith) ((λ k d a b. h.0 (suc k) d (omega arith) (omega arith)), (λ k d a b. h.1 (suc k) d (omega arith) (omega arith))))
    ∙ ap (λ b. cond b (x ∷ filter (is_up_to n) xs) (filter (is_up_to n) xs)) (sym (h.0 0 x (omega arith) (omega arith)))

-- ---- the last one that passes
pub last_found : (p : DeltaEntry → Bool) (o : Option ℕ) (xs : List DeltaEntry) (i : ℕ) (x : DeltaEntry) → i < length xs → x ≡ get_or xs i x → p x ≡ true → filter p (drop (suc i) xs) ≡ []
    → last_or o (map (λ (e : DeltaEntry). e.number) (filter p xs)) ≡ Some x.number
last_found p o [] i x lt e t none = absurd (omega arith)
last_found p o (y ∷ xs) zero x lt e t none =
    ap (λ z. last_or o (map (λ (e : DeltaEntry). e.number) (cond (p z) (z ∷ filter p xs) (filter p xs)))) (sym e)
    ∙ ap₂ (λ b l. last_or o (map (λ (e : DeltaEntry). e.number) (cond b (x ∷ l) l))) t none
last_found p o (y ∷ xs) (suc i) x lt e t none = by (p y) (last_found p (Some y.number) xs i x (omega arith) e t none) (last_found p o xs i x (omega arith) e t none)
  where
    by : (b : Bool) → last_or (Some y.number) (map (λ (e : DeltaEntry). e.number) (filter p xs)) ≡ Some x.number → last_or o (map (λ (e : DeltaEntry). e.number) (filter p xs)) ≡ Some x.number
        → last_or o (map (λ (e : DeltaEntry). e.number) (cond b (y ∷ filter p xs) (filter p xs))) ≡ Some x.number
    by true r s = r
    by false r s = s

pub one_before : (p : DeltaEntry → Bool) (xs : List DeltaEntry) (i : ℕ) (x : DeltaEntry) → i < length xs → x ≡ get_or xs i x → p x ≡ false → filter p (drop (suc i) xs) ≡ [] → filter p (drop i xs) ≡ []
one_before p [] i x lt e f none = absurd (omega arith)
one_before p (y ∷ xs) zero x lt e f none = ap (λ b. cond b (y ∷ filter p xs) (filter p xs)) (ap p (sym e) ∙ f) ∙ none
one_before p (y ∷ xs) (suc i) x lt e f none = one_before p xs i x (omega arith) e f none

-- a filter of those between
pub between_is : (lo hi : ℕ) (xs : List DeltaEntry) → filter (is_up_to hi) (filter (is_above lo) xs) ≡ filter (is_between lo hi) xs
between_is lo hi xs = filter_both (is_above lo) (is_up_to hi) xs

pub range_is : (table lo hi : ℕ) (xs : List DeltaEntry) → filter (λ (e : DeltaEntry). table == e.action.table) (filter (is_between lo hi) xs) ≡ filter (in_range table lo hi) xs
range_is table lo hi xs = filter_both (is_between lo hi) (λ (e : DeltaEntry). table == e.action.table) xs

pub above_drop : (n i : ℕ) (xs ys : List DeltaEntry) → ys ≡ xs → drop i ys ≡ filter (is_above n) ys → drop i xs ≡ filter (is_above n) xs
above_drop n i xs ys e h = sym (ap (drop i) e) ∙ h ∙ ap (filter (is_above n)) e

pub later_writer : (def : TableDef) (s : ℕ) (key : List Value) (xs ys : List DeltaEntry) → ys ≡ filter (is_above s) xs
    → last_or None (map (λ (e : DeltaEntry). e.number) (filter (writes_key def key) ys)) ≡ writer_after def s key xs
later_writer def s key xs ys e = ap (λ l. last_or None (map (λ (e : DeltaEntry). e.number) l)) (ap (filter (writes_key def key)) e ∙ filter_both (is_above s) (writes_key def key) xs)
