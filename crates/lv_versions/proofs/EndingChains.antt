-- The end of the newest version of a chain.
use Rattle.std.proofs.Common.{◌≡◌, ℕ, ◌+◌, ◌-◌, ◌<◌, List, [], ◌∷◌, length, map, get_or, Option, Some, None, refl, sym, ap, ap₂, ◌∙◌, subst, arith}
use Rattle.std.specs.Prelude.{option_map, slice_get}
use Rattle.std.specs.List.{AllByRecursion}
use Rattle.std.proofs.lemmas.List.{length-map}
use Rattle.std.proofs.lemmas.Option.{slice_get-map}
use Rattle.lv_shelf.proofs.Cutting.{got}
use Rattle.lv_shelf.specs.Chains.{before, chain_at, joined, newest_of}
use Rattle.lv_versions.proofs.Chaining.{all_in, before_next, chain_at_map, newest_flat, newest_there}

-- the newest element of a chain stands last before the next chain
pub record NewestStands {X : Type 0} (cs : List (List X)) (i : ℕ) : Type 0 where
  pub item : X
  pub newest : newest_of (chain_at cs i) ≡ Some item
  pub there : slice_get (joined cs) (before cs (i + 1) - 1) ≡ Some item
  pub next : before cs (i + 1) - 1 + 1 ≡ before cs (i + 1)

pub newest_stands : {X : Type 0} (cs : List (List X)) (i : ℕ) → i < length cs → 0 < length (chain_at cs i) → NewestStands cs i
newest_stands cs i lt some =
    let newest = newest_there (chain_at cs i) some in
    record {
      item = newest.0;
      newest = newest.1;
      there = newest_flat cs i newest.0 lt newest.1;
      next = omega (arith, before_next cs i lt, some);
    }

-- it is the only one that stands there
pub only_there : {X : Type 0} (P : X → Type 0) (xs : List X) (at : ℕ) (x y : X) → slice_get xs at ≡ Some x → slice_get xs at ≡ Some y → P x → P y
only_there P xs at x y e f p = subst P (sym (got xs at x x e) ∙ got xs at y x f) p

pub newest_map : {X Y : Type 0} (f : X → Y) (c : List X) (x : X) → newest_of c ≡ Some x → newest_of (map f c) ≡ Some (f x)
newest_map f c x e = ap (λ n. slice_get (map f c) (n - 1)) (length-map c f) ∙ slice_get-map f c (length c - 1) ∙ ap (option_map f) e

pub newest_in_map : {X Y : Type 0} (f : X → Y) (cs : List (List X)) (i : ℕ) (x : X) → newest_of (chain_at cs i) ≡ Some x → newest_of (chain_at (map (map f) cs) i) ≡ Some (f x)
newest_in_map f cs i x e = ap newest_of (chain_at_map f cs i) ∙ newest_map f (chain_at cs i) x e

pub some_same : {X : Type 0} (o : Option X) (x y : X) → o ≡ Some x → o ≡ Some y → x ≡ y
some_same None x y e f = cc
some_same (Some z) x y e f = cc

-- where no element of any chain changes, no chain does
all_same : {X : Type 0} (f : X → X) (xs : List X) → map f xs ≡ xs → AllByRecursion (λ x. f x ≡ x) xs
all_same f [] e = tt
all_same f (x ∷ xs) e = (ap (λ l. get_or l 0 x) e, all_same f xs (ap (λ l. rest l) e))
  where
    rest : {Y : Type 0} → List Y → List Y
    rest [] = []
    rest (y ∷ ys) = ys

same_all : {X : Type 0} (f : X → X) (xs : List X) → AllByRecursion (λ x. f x ≡ x) xs → map f xs ≡ xs
same_all f [] a = refl
same_all f (x ∷ xs) a = ap₂ (λ y l. y ∷ l) a.0 (same_all f xs a.1)

same_chains : {X : Type 0} (f : X → X) (cs : List (List X)) → AllByRecursion (AllByRecursion (λ x. f x ≡ x)) cs → map (map f) cs ≡ cs
same_chains f [] a = refl
same_chains f (c ∷ cs) a = ap₂ (λ y l. y ∷ l) (same_all f c a.0) (same_chains f cs a.1)

pub none_changed : {X : Type 0} (f : X → X) (cs : List (List X)) → map f (joined cs) ≡ joined cs → map (map f) cs ≡ cs
none_changed f cs e = same_chains f cs (all_in (λ x. f x ≡ x) cs (all_same f (joined cs) e))
