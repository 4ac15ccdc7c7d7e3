-- The indexes of links, as indexes are added.
use Rattle.std.proofs.Common.{◌≡◌, ℕ, zero, suc, ◌+◌, ◌<◌, Bool, true, false, List, [], ◌∷◌, take, length, get_or, Option, Some, None, refl, sym, subst, arith}
use Rattle.std.specs.Prelude.{◌&&◌, IfSome, nat_lt, slice_get}
use Rattle.std.specs.List.{AllByRecursion, list_all}
use Rattle.std.proofs.lemmas.Bool.Decides.{nat_tests}
use Rattle.std.proofs.lemmas.List.{take_more}
use Rattle.lv_schema.proofs.Apart.{all_append, all_weaker}
use Rattle.lv_reach.specs.declared.link.Link.{Link}
use Rattle.lv_reach.specs.Walk.{columns_to}
use Rattle.lv_base.specs.Bases.{BaseRoom, HasIndex, KeepsIndexes}
use Rattle.lv_near.specs.Orders.{HasBothIndexes, HasEndIndex}

-- a table of an alias is one of the base
pub table_within : (n i t : ℕ) (tables : List ℕ) → list_all (λ t. nat_lt t n) tables ≡ true → slice_get tables i ≡ Some t → t < n
table_within n i t tables all e =
    let below : nat_lt t n ≡ true = all_pass (λ t. nat_lt t n) tables i t all e in
    grind (arith, nat_tests)
  where
    and_both : (a b : Bool) → (a && b) ≡ true → (a ≡ true) × (b ≡ true)
    and_both true b h = (refl, h)
    and_both false b h = cc

    some_is : (x y : ℕ) → Some x ≡ Some y → x ≡ y
    some_is x y e = cc

    all_pass : (p : ℕ → Bool) (xs : List ℕ) (i x : ℕ) → list_all p xs ≡ true → slice_get xs i ≡ Some x → p x ≡ true
    all_pass p [] i x all e = cc
    all_pass p (y ∷ ys) zero x all e = let both = and_both (p y) (list_all p ys) all in subst (λ z. p z ≡ true) (some_is y x e) both.0
    all_pass p (y ∷ ys) (suc i) x all e = all_pass p ys i x (and_both (p y) (list_all p ys) all).1 e

-- the index of an end by what the look-up of its table gives
pub end_some : (b : BaseRoom) (tables : List ℕ) (links : List Link) (from to t : ℕ) → slice_get tables to ≡ Some t → HasIndex b t (columns_to links from to) → HasEndIndex b tables links from to
end_some b tables links from to t e h = subst (λ r. IfSome r (λ t. HasIndex b t (columns_to links from to))) (sym e) h

pub end_none : (b : BaseRoom) (tables : List ℕ) (links : List Link) (from to : ℕ) → slice_get tables to ≡ None → HasEndIndex b tables links from to
end_none b tables links from to e = subst (λ r. IfSome r (λ t. HasIndex b t (columns_to links from to))) (sym e) tt

module _ (old new : BaseRoom) (kept : KeepsIndexes old new) (tables : List ℕ) (links : List Link) where
  pub end_stays : (from to : ℕ) → HasEndIndex old tables links from to → HasEndIndex new tables links from to
  end_stays from to = by (slice_get tables to)
    where
      by : (r : Option ℕ) → IfSome r (λ t. HasIndex old t (columns_to links from to)) → IfSome r (λ t. HasIndex new t (columns_to links from to))
      by None h = h
      by (Some t) h = kept t (columns_to links from to) h

  pub both_stay : (link : Link) → HasBothIndexes old tables links link → HasBothIndexes new tables links link
  both_stay link h = (end_stays link.left.alias link.right.alias h.0, end_stays link.right.alias link.left.alias h.1)

  pub one_more : (i : ℕ) (d : Link) → i < length links → AllByRecursion (HasBothIndexes old tables links) (take i links) → HasBothIndexes new tables links (get_or links i d) → AllByRecursion (HasBothIndexes new tables links) (take (i + 1) links)
  one_more i d lt before here =
      subst (AllByRecursion (HasBothIndexes new tables links)) (sym (take_more links i d lt))
      (all_append (HasBothIndexes new tables links) (take i links) (get_or links i d ∷ []) (all_weaker (HasBothIndexes old tables links) (HasBothIndexes new tables links) both_stay (take i links) before) (here, tt))
