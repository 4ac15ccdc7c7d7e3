-- Lists with one entry a key, in ascending order of the keys: what is found at each key determines the list.
use Rattle.std.proofs.Common.{◌≡◌, Bool, true, false, cond, ◌||◌, T, List, [], ◌∷◌, map, Option, Some, None, refl, sym, ap, ◌∙◌, subst}
use Rattle.std.specs.declared.cmp.Ordering.{Ordering}
use Rattle.std.specs.declared.cmp.Ordering.TheVariants.{Less, Equal, Greater}
use Rattle.std.specs.List.{list_any, AllByRecursion}
use Rattle.std.specs.Ordering.{is_eq, eq_by_cmp, ordering_reverse}
use Rattle.std.specs.Cmp.{IsTotalOrder}
use Rattle.std.specs.FinMap.{IsAntisymmetric}
use Rattle.std.specs.FinMap.Entries.{by_order, put, find, is_sorted, is_sorted-put, find-put, same_entries}
use Rattle.lv_schema.specs.Once.{Ascends, put_once, once}

-- each key with the entry there
abbrev pub paired : {K E : Type 0} → (K → E) → List K → List (K × E)
paired {K} {E} at ks = map {B = K × E} (λ k. (k, at k)) ks

-- what a table with these keys has at q
abbrev pub entry_at : {K E : Type 0} → (K → K → Ordering) → (K → E) → List K → K → Option E
entry_at R at keys q = cond (list_any (eq_by_cmp R q) keys) (Some (at q)) None

pub is_equal : (r : Ordering) → is_eq r ≡ true → r ≡ Equal
is_equal Less h = cc
is_equal Equal h = refl
is_equal Greater h = cc

module _ {K E : Type 0} {R : K → K → Ordering} (o : IsTotalOrder R) (exact : IsAntisymmetric R) where
  paired-put_once : (at : K → E) (x : K) (ys : List K) → paired at (put_once R x ys) ≡ put R x (at x) (paired at ys)
  paired-put_once at x [] = refl
  paired-put_once at x (y ∷ ys) =
      elim (R x y) as (λ r. R x y ≡ r → paired at (by_order r (x ∷ y ∷ ys) (y ∷ ys) (y ∷ put_once R x ys)) ≡ by_order r ((x, at x) ∷ (y, at y) ∷ paired at ys) ((y, at x) ∷ paired at ys) ((y, at y) ∷ put R x (at x) (paired at ys))) [
        | Less ↦ λ p. refl
        | Equal ↦ λ p i. (y, at (sym (exact x y p) i)) ∷ paired at ys
        | Greater ↦ λ p. ap (λ (l : List (K × E)). (y, at y) ∷ l) (paired-put_once at x ys)
      ] refl

  pub paired_sorted : (at : K → E) (xs : List K) → T (is_sorted R (paired at (once R xs)))
  paired_sorted at [] = tt
  paired_sorted at (x ∷ xs) = subst (λ (l : List (K × E)). T (is_sorted R l)) (sym (paired-put_once at x (once R xs))) (is_sorted-put R o x (at x) _ (paired_sorted at xs))

  at_alike : (at : K → E) (q x : K) (b : Bool) (t : Option E) → eq_by_cmp R q x ≡ b → cond b (Some (at x)) t ≡ cond b (Some (at q)) t
  at_alike at q x true t h = ap (λ k. Some (at k)) (sym (exact q x (is_equal _ h)))
  at_alike at q x false t h = refl

  either : (a b : Bool) (v : E) → cond a (Some v) (cond b (Some v) None) ≡ cond (a || b) (Some v) None
  either true b v = refl
  either false b v = refl

  pub find-paired : (at : K → E) (q : K) (xs : List K) → find R q (paired at (once R xs)) ≡ entry_at R at xs q
  find-paired at q [] = refl
  find-paired at q (x ∷ xs) =
      ap (find R q) (paired-put_once at x (once R xs))
      ∙ find-put R o q x (at x) (paired at (once R xs))
      ∙ ap (cond (eq_by_cmp R q x) (Some (at x))) (find-paired at q xs)
      ∙ at_alike at q x _ _ refl
      ∙ either (eq_by_cmp R q x) (list_any (eq_by_cmp R q) xs) (at q)

  -- a list in order is the one that its entries determine
  pub only_list : (at : K → E) (keys : List K) (es : List (K × E)) → T (is_sorted R es) → ((q : K) → find R q es ≡ entry_at R at keys q) → es ≡ paired at (once R keys)
  only_list at keys es up is = same_entries R o exact es (paired at (once R keys)) up (paired_sorted at keys) (λ q. is q ∙ sym (find-paired at q keys))

  pub second_of_paired : (at : K → E) (ks : List K) → map (λ (e : K × E). e.1) (paired at ks) ≡ map at ks
  second_of_paired at [] = refl
  second_of_paired at (k ∷ ks) = ap (λ (l : List E). at k ∷ l) (second_of_paired at ks)

  -- two tables with the same entries are one
  pub same_tables : (at bt : K → E) (keys others : List K) → ((q : K) → entry_at R at keys q ≡ entry_at R bt others q) → map at (once R keys) ≡ map bt (once R others)
  same_tables at bt keys others is =
      sym (second_of_paired at (once R keys))
      ∙ ap (map (λ (e : K × E). e.1)) (only_list bt others (paired at (once R keys)) (paired_sorted at keys) (λ q. find-paired at q keys ∙ is q))
      ∙ second_of_paired bt (once R others)

-- a list of keys, each once, ascends strictly
module _ {K : Type 0} {R : K → K → Ordering} (o : IsTotalOrder R) where
  abbrev AllAbove : K → List K → Type 0
  AllAbove x ys = AllByRecursion (λ y. R x y ≡ Less) ys

  above_through : (x y : K) (zs : List K) → R x y ≡ Less → AllAbove y zs → AllAbove x zs
  above_through x y [] h a = tt
  above_through x y (z ∷ zs) h a = (o.trans x y z h a.0, above_through x y zs h a.1)

  put_above : (x k : K) (ys : List K) → R x k ≡ Less → AllAbove x ys → AllAbove x (put_once R k ys)
  put_above x k [] h a = (h, tt)
  put_above x k (y ∷ ys) h a =
      elim (R k y) as (λ r. AllAbove x (by_order r (k ∷ y ∷ ys) (y ∷ ys) (y ∷ put_once R k ys))) [
        | Less ↦ (h, a)
        | Equal ↦ a
        | Greater ↦ (a.0, put_above x k ys h a.1)
      ]

  put_up : (k : K) (ys : List K) → Ascends R ys → Ascends R (put_once R k ys)
  put_up k [] a = (tt, tt)
  put_up k (y ∷ ys) a =
      elim (R k y) as (λ r. R k y ≡ r → Ascends R (by_order r (k ∷ y ∷ ys) (y ∷ ys) (y ∷ put_once R k ys))) [
        | Less ↦ λ e. ((e, above_through k y ys e a.0), a)
        | Equal ↦ λ e. a
        | Greater ↦ λ e. (put_above y k ys (o.antisymm y k ∙ ap ordering_reverse e) a.0, put_up k ys a.1)
      ] refl

  pub once_up : (xs : List K) → Ascends R (once R xs)
  once_up [] = tt
  once_up (x ∷ xs) = put_up x (once R xs) (once_up xs)
