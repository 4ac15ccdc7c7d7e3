-- Places that are the same, and places of which one comes before the other.
use Rattle.std.proofs.Common.{◌≡◌, ℕ, ◌<◌, ◌≤◌, Bool, true, false, ◌&&◌, List, refl, sym, ap, ◌∙◌, subst, inl, inr, arith}
use Rattle.std.specs.Prelude.{◌==◌, ◌⊎◌}
use Rattle.std.specs.Ordering.{is_lt, ordering_reverse, ordering_then}
use Rattle.std.specs.Cmp.{nat_cmp_is}
use Rattle.std.specs.declared.cmp.Ordering.{Ordering}
use Rattle.std.specs.declared.cmp.Ordering.TheVariants.{Less, Equal, Greater}
use Rattle.std.proofs.lemmas.Bool.{cases_lt}
use Rattle.std.proofs.lemmas.Cmp.{tied_itself}
use Rattle.std.proofs.lemmas.Bool.Decides.{nat_tests}
use Rattle.lv_values.specs.declared.value.Value.{Value}
use Rattle.lv_values.specs.Order.{row_cmp, row_eq}
use Rattle.lv_schema.specs.Commits.{Place, place_cmp, same_place}
use Rattle.lv_schema.proofs.FirstCommitter.{place_of}
use Rattle.lv_schema.proofs.NetsLead.{row_itself}
use Rattle.lv_overlay.specs.declared.put.Put.{Put}
use Rattle.lv_overlay.specs.Ordered.{put_place, put_cmp}
use Rattle.lv_overlay.specs.PlaceOrder.{place_total, place_exact}

-- ---- tests
pub and_left : (a b : Bool) → (a && b) ≡ true → a ≡ true
and_left true b e = refl
and_left false b e = e

pub and_right : (a b : Bool) → (a && b) ≡ true → b ≡ true
and_right true b e = e
and_right false b e = cc

pub both_true : (a b : Bool) → a ≡ true → b ≡ true → (a && b) ≡ true
both_true true b e f = f
both_true false b e f = cc

pub number_itself : (n : ℕ) → (n == n) ≡ true
number_itself n = grind (arith, nat_tests)

pub same_number : (x y : ℕ) → (x == y) ≡ true → x ≡ y
same_number x y e = grind (arith, nat_tests)

-- ---- tables
pub in_table : (t : ℕ) (a b : List Value) → place_cmp (t, a) (t, b) ≡ row_cmp a b
in_table t a b = ap (λ o. ordering_then o (row_cmp a b)) (sym (nat_cmp_is t t Equal refl))

pub later_table : (t u : ℕ) (a b : List Value) → t < u → place_cmp (t, a) (u, b) ≡ Less
later_table t u a b lt = ap (λ o. ordering_then o (row_cmp a b)) (sym (nat_cmp_is t u Less lt))

pub table_order : (a b : Put) → put_cmp a b ≡ Less → a.table ≤ b.table
table_order a b less = by (cases_lt b.table a.table)
  where
    by : (b.table < a.table) ⊎ (a.table ≤ b.table) → a.table ≤ b.table
    by (inl lt) =
        let more : put_cmp b a ≡ Less = later_table b.table a.table b.key a.key lt in
        let turned : put_cmp a b ≡ Greater = place_total.antisymm (put_place a) (put_place b) ∙ ap ordering_reverse more in
        cc
    by (inr le) = le

-- ---- places

pub place_itself : (p : Place) → same_place p p ≡ true
place_itself p = both_true (p.0 == p.0) (row_eq p.1 p.1) (number_itself p.0) (row_itself p.1)

pub before_not_after : (p q : Place) → place_cmp p q ≡ Less → p ≡ q → ⊥
before_not_after p q less e =
    let tie : place_cmp p q ≡ Equal = subst (λ r. place_cmp p r ≡ Equal) e (tied_itself place_total p) in
    less_equal (sym less ∙ tie)
  where
    less_equal : Less ≡ Equal → ⊥
    less_equal h = cc

pub before_differs : (p q : Place) → place_cmp p q ≡ Less → same_place p q ≡ false
before_differs p q less = by (same_place p q) refl
  where
    by : (b : Bool) → same_place p q ≡ b → b ≡ false
    by true e = absurd (before_not_after p q less (place_of p q e))
    by false e = refl

pub after_differs : (p q : Place) → place_cmp q p ≡ Less → same_place p q ≡ false
after_differs p q less = by (same_place p q) refl
  where
    by : (b : Bool) → same_place p q ≡ b → b ≡ false
    by true e = absurd (before_not_after q p less (sym (place_of p q e)))
    by false e = refl

pub less_of : (o : Ordering) → is_lt o ≡ true → o ≡ Less
less_of Less h = refl
less_of Equal h = cc
less_of Greater h = cc

-- a place that is not before another and not the same comes after it
pub comes_after : (p q : Place) → is_lt (place_cmp q p) ≡ false → same_place p q ≡ false → place_cmp p q ≡ Less
comes_after p q not_less differ = by (place_cmp q p) refl not_less
  where
    true_false : true ≡ false → ⊥
    true_false h = cc

    by : (o : Ordering) → place_cmp q p ≡ o → is_lt o ≡ false → place_cmp p q ≡ Less
    by Less e h = cc
    by Equal e h =
        let same = place_exact q p e in
        absurd (true_false (sym (place_itself p) ∙ ap (same_place p) (sym same) ∙ differ))
    by Greater e h = place_total.antisymm p q ∙ ap ordering_reverse e
