-- A search among places in ascending order.
use Rattle.std.proofs.Common.{◌≡◌, ℕ, zero, suc, ◌<◌, ◌≤◌, Bool, true, false, cond, List, [], ◌∷◌, length, get_or, refl, sym, ap, ◌∙◌, subst, arith}
use Rattle.std.specs.List.{AllByRecursion}
use Rattle.std.specs.List.Sorted.{IsPartitionedBy}
use Rattle.std.specs.Ordering.{is_gt, is_lt, ordering_reverse}
use Rattle.std.specs.declared.cmp.Ordering.{Ordering}
use Rattle.std.specs.declared.cmp.Ordering.TheVariants.{Less, Equal, Greater}
use Rattle.std.proofs.lemmas.Cmp.{tied_itself, upto}
use Rattle.lv_values.specs.declared.value.Value.{Value}
use Rattle.lv_values.specs.Ascending.{ascending, placed}
use Rattle.lv_values.specs.Order.{row_cmp}
use Rattle.lv_values.specs.OrderLaws.{row_total}
use Rattle.lv_schema.specs.Commits.{Place, place_cmp}
use Rattle.lv_schema.proofs.Apart.{all_weaker}
use Rattle.lv_overlay.specs.PlaceOrder.{place_total, place_exact}
use Rattle.lv_txn.specs.Written.{is_before, AreInOrder}

pub row_cmp_turned : (a b : List Value) → ordering_reverse (row_cmp a b) ≡ row_cmp b a
row_cmp_turned a b = sym (row_total.antisymm b a)

pub all_at : (P : Place → Type 0) (ps : List Place) (i : ℕ) (d : Place) → i < length ps → AllByRecursion P ps → P (get_or ps i d)
all_at P [] i d lt a = absurd (omega arith)
all_at P (p ∷ ps) zero d lt a = a.0
all_at P (p ∷ ps) (suc i) d lt a = all_at P ps i d (omega arith) a.1

pub all_from : (P : Place → Type 0) (ps : List Place) → ((k : ℕ) (d : Place) → k < length ps → P (get_or ps k d)) → AllByRecursion P ps
all_from P [] f = tt
all_from P (p ∷ ps) f = (f 0 p (omega arith), all_from P ps (λ k d lt. f (suc k) d (omega arith)))

-- ---- places in ascending order
abbrev UpTo : Place → Place → Type 0
UpTo p q = is_gt (place_cmp p q) ≡ false

above_turned : (o : Ordering) → is_gt o ≡ true → is_gt (ordering_reverse o) ≡ false
above_turned Less h = cc
above_turned Equal h = refl
above_turned Greater h = refl

not_above : (a b : Place) → is_gt (place_cmp a b) ≡ true → UpTo b a
not_above a b h = ap is_gt (place_total.antisymm b a) ∙ above_turned (place_cmp a b) h

all_placed : (P : Place → Type 0) (p : Place) (qs : List Place) → P p → AllByRecursion P qs → AllByRecursion P (placed place_cmp p qs)
all_placed P p [] h a = (h, tt)
all_placed P p (q ∷ qs) h a = by (is_gt (place_cmp p q)) (all_placed P p qs h a.1)
  where
    by : (b : Bool) → AllByRecursion P (placed place_cmp p qs) → AllByRecursion P (cond b (q ∷ placed place_cmp p qs) (p ∷ q ∷ qs))
    by true r = (a.0, r)
    by false r = (h, a)

placed_in_order : (p : Place) (qs : List Place) → AreInOrder qs → AreInOrder (placed place_cmp p qs)
placed_in_order p [] h = (tt, tt)
placed_in_order p (q ∷ qs) h = by (is_gt (place_cmp p q)) refl (placed_in_order p qs h.1)
  where
    by : (b : Bool) → is_gt (place_cmp p q) ≡ b → AreInOrder (placed place_cmp p qs) → AreInOrder (cond b (q ∷ placed place_cmp p qs) (p ∷ q ∷ qs))
    by true e more = (all_placed (UpTo q) p qs (not_above p q e) h.0, more)
    by false e more = ((e, all_weaker (UpTo q) (UpTo p) (λ r g. upto place_total p q r e g) qs h.0), h)

pub ascending_in_order : (ps : List Place) → AreInOrder (ascending place_cmp ps)
ascending_in_order [] = tt
ascending_in_order (p ∷ ps) = placed_in_order p (ascending place_cmp ps) (ascending_in_order ps)

pub in_order_at : (places : List Place) (i j : ℕ) (d : Place) → AreInOrder places → i ≤ j → j < length places → is_gt (place_cmp (get_or places i d) (get_or places j d)) ≡ false
in_order_at [] i j d h le lt = absurd (omega arith)
in_order_at (p ∷ places) zero zero d h le lt = ap is_gt (tied_itself place_total p)
in_order_at (p ∷ places) zero (suc j) d h le lt = all_at (UpTo p) places j d (omega arith) h.0
in_order_at (p ∷ places) (suc i) zero d h le lt = absurd (omega arith)
in_order_at (p ∷ places) (suc i) (suc j) d h le lt = in_order_at places i j d h.1 (omega arith) (omega arith)

-- ---- a place before another one
before_through : (p x y : Place) → is_gt (place_cmp x y) ≡ false → is_before p y ≡ true → is_before p x ≡ true
before_through p x y g t = by (place_cmp x y) refl g
  where
    less_of : (o : Ordering) → is_lt o ≡ true → o ≡ Less
    less_of Less h = refl
    less_of Equal h = cc
    less_of Greater h = cc

    by : (o : Ordering) → place_cmp x y ≡ o → is_gt o ≡ false → is_lt (place_cmp x p) ≡ true
    by Less e h = ap is_lt (place_total.trans x y p e (less_of (place_cmp y p) t))
    by Equal e h = subst (λ (z : Place). is_lt (place_cmp z p) ≡ true) (sym (place_exact x y e)) t
    by Greater e h = cc

pub partitioned : (p : Place) (places : List Place) → AreInOrder places → IsPartitionedBy (is_before p) places
partitioned p places h i j d le lt t = before_through p (get_or places i d) (get_or places j d) (in_order_at places i j d h le lt) t
