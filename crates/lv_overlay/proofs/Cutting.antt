-- Where a search among the writes ends, and what stands there.
use Rattle.std.proofs.Common.{◌≡◌, ℕ, zero, suc, ◌≤◌, Bool, true, false, cond, List, [], ◌∷◌, Option, Some, None, refl, ap, ◌∙◌, arith}
use Rattle.std.specs.Prelude.{◌==◌, nat_lt, slice_get}
use Rattle.std.specs.List.{AllByRecursion}
use Rattle.std.specs.Ordering.{is_lt}
use Rattle.std.specs.declared.cmp.Ordering.TheVariants.{Less}
use Rattle.std.proofs.lemmas.Bool.Decides.{nat_tests}
use Rattle.lv_values.specs.declared.value.Value.{Value}
use Rattle.lv_schema.specs.Commits.{Place, place_cmp, same_place}
use Rattle.lv_schema.specs.Once.{Ascends}
use Rattle.lv_schema.proofs.Apart.{all_weaker}
use Rattle.lv_shelf.specs.Cuts.{Falls, IsCut}
use Rattle.lv_overlay.specs.declared.put.Put.{Put}
use Rattle.lv_overlay.specs.Ordered.{put_place, put_cmp, is_before, is_below, is_there}
use Rattle.lv_overlay.specs.PlaceOrder.{place_total}
use Rattle.lv_overlay.specs.Puts.{put_at}
use Rattle.lv_overlay.proofs.Places.{before_differs, after_differs, less_of, comes_after, table_order}

-- a write before one that is before a place is before it
before_through : (p : Place) (a b : Put) → put_cmp a b ≡ Less → is_before p b ≡ true → is_before p a ≡ true
before_through p a b less h = ap is_lt (place_total.trans (put_place a) (put_place b) p less (less_of _ h))

pub falls : (p : Place) (puts : List Put) → Ascends put_cmp puts → Falls (is_before p) puts
falls p [] up = tt
falls p (q ∷ puts) up =
    (all_weaker (λ r. put_cmp q r ≡ Less) (λ r. is_before p r ≡ true → is_before p q ≡ true) (λ r less t. before_through p q r less t) puts up.0, falls p puts up.1)

-- the same for the writes of the tables below a number
below_through : (bound : ℕ) (a b : Put) → put_cmp a b ≡ Less → is_below bound b ≡ true → is_below bound a ≡ true
below_through bound a b less t = by a.table b.table (table_order a b less) t
  where
    by : (m n : ℕ) → m ≤ n → nat_lt n bound ≡ true → nat_lt m bound ≡ true
    by m n le h = grind (arith, nat_tests)

pub below_falls : (bound : ℕ) (puts : List Put) → Ascends put_cmp puts → Falls (is_below bound) puts
below_falls bound [] up = tt
below_falls bound (q ∷ puts) up =
    (all_weaker (λ r. put_cmp q r ≡ Less) (λ r. is_below bound r ≡ true → is_below bound q ≡ true) (λ r less t. below_through bound q r less t) puts up.0, below_falls bound puts up.1)

-- they are of other tables than that one
pub below_other : (t : ℕ) (q : Put) → is_below t q ≡ true → (t == q.table) ≡ false
below_other t q h = by q.table h
  where
    by : (n : ℕ) → nat_lt n t ≡ true → (t == n) ≡ false
    by n lt = grind (arith, nat_tests)

-- ---- what is found at a place
pub none_above : (p : Place) (puts : List Put) → AllByRecursion (λ q. place_cmp p (put_place q) ≡ Less) puts → put_at puts p ≡ None
none_above p [] a = refl
none_above p (q ∷ puts) a = ap (λ b. cond b (Some q.row) (put_at puts p)) (before_differs p (put_place q) a.0) ∙ none_above p puts a.1

pub above_through : (p : Place) (q : Put) (puts : List Put) → place_cmp p (put_place q) ≡ Less → AllByRecursion (λ r. put_cmp q r ≡ Less) puts → AllByRecursion (λ r. place_cmp p (put_place r) ≡ Less) puts
above_through p q puts less a = all_weaker (λ r. put_cmp q r ≡ Less) (λ r. place_cmp p (put_place r) ≡ Less) (λ r. place_total.trans p (put_place q) (put_place r) less) puts a

-- the row that a write left, where it is at the place
abbrev pub row_there : Place → Option Put → Option (Option (List Value))
row_there p None = None
row_there p (Some q) = cond (same_place p (put_place q)) (Some q.row) None

pub found_at : (p : Place) (at : ℕ) (puts : List Put) → Ascends put_cmp puts → IsCut (is_before p) at puts → put_at puts p ≡ row_there p (slice_get puts at)
found_at p zero [] up cut = refl
found_at p zero (q ∷ puts) up cut = by (same_place p (put_place q)) refl
  where
    by : (b : Bool) → same_place p (put_place q) ≡ b → cond b (Some q.row) (put_at puts p) ≡ cond b (Some q.row) None
    by true e = refl
    by false e = none_above p puts (above_through p q puts (comes_after p (put_place q) cut.0 e) up.0)
found_at p (suc at) [] up cut = absurd cut
found_at p (suc at) (q ∷ puts) up cut =
    ap (λ b. cond b (Some q.row) (put_at puts p)) (after_differs p (put_place q) (less_of _ cut.0)) ∙ found_at p at puts up.1 cut.1

pub read_some : (p : Place) (at : ℕ) (q : Put) (puts : List Put) → Ascends put_cmp puts → IsCut (is_before p) at puts → slice_get puts at ≡ Some q → same_place p (put_place q) ≡ true → put_at puts p ≡ Some q.row
read_some p at q puts up cut e s = found_at p at puts up cut ∙ ap (row_there p) e ∙ ap (λ b. cond b (Some q.row) None) s

pub read_none : (p : Place) (at : ℕ) (puts : List Put) → Ascends put_cmp puts → IsCut (is_before p) at puts → is_there p (slice_get puts at) ≡ false → put_at puts p ≡ None
read_none p at puts up cut f = found_at p at puts up cut ∙ by (slice_get puts at) f
  where
    by : (o : Option Put) → is_there p o ≡ false → row_there p o ≡ None
    by None g = refl
    by (Some q) g = ap (λ b. cond b (Some q.row) None) g
