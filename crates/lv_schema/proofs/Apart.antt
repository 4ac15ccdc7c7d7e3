-- Lists whose elements are apart, and that they ascend strictly once in order.
use Rattle.std.proofs.Common.{◌≡◌, Bool, true, false, cond, List, [], ◌∷◌, ◌++◌, map, refl, ap, ◌∙◌}
use Rattle.std.specs.declared.cmp.Ordering.{Ordering}
use Rattle.std.specs.declared.cmp.Ordering.TheVariants.{Less, Equal, Greater}
use Rattle.std.specs.List.{filter, flat_map, AllByRecursion}
use Rattle.std.specs.Ordering.{is_gt, ordering_reverse}
use Rattle.std.specs.Cmp.{IsTotalOrder}
use Rattle.lv_values.specs.Ascending.{placed, ascending}
use Rattle.lv_schema.specs.Once.{Ascends}

-- P holds of each element and each later one
abbrev pub Apart : {X : Type 0} → (X → X → Type 0) → List X → Type 0
Apart P [] = Unit {0}
Apart P (x ∷ xs) = AllByRecursion (P x) xs × Apart P xs

pub all_weaker : {X : Type 0} (P Q : X → Type 0) → ((x : X) → P x → Q x) → (xs : List X) → AllByRecursion P xs → AllByRecursion Q xs
all_weaker P Q f [] a = tt
all_weaker P Q f (x ∷ xs) a = (f x a.0, all_weaker P Q f xs a.1)

pub all_filter : {X : Type 0} (P : X → Type 0) (p : X → Bool) (xs : List X) → AllByRecursion P xs → AllByRecursion P (filter p xs)
all_filter P p [] a = tt
all_filter P p (x ∷ xs) a = by (p x) (all_filter P p xs a.1)
  where
    by : (t : Bool) → AllByRecursion P (filter p xs) → AllByRecursion P (cond t (x ∷ filter p xs) (filter p xs))
    by true e = (a.0, e)
    by false e = e

pub all_map : {X Y : Type 0} (f : X → Y) (P : Y → Type 0) (xs : List X) → AllByRecursion (λ x. P (f x)) xs → AllByRecursion P (map f xs)
all_map f P [] a = tt
all_map f P (x ∷ xs) a = (a.0, all_map f P xs a.1)

pub all_append : {X : Type 0} (P : X → Type 0) (xs ys : List X) → AllByRecursion P xs → AllByRecursion P ys → AllByRecursion P (xs ++ ys)
all_append P [] ys a b = b
all_append P (x ∷ xs) ys a b = (a.0, all_append P xs ys a.1 b)

pub all_flat_map : {X Y : Type 0} (f : X → List Y) (P : Y → Type 0) (xs : List X) → AllByRecursion (λ x. AllByRecursion P (f x)) xs → AllByRecursion P (flat_map f xs)
all_flat_map f P [] a = tt
all_flat_map f P (x ∷ xs) a = all_append P (f x) (flat_map f xs) a.0 (all_flat_map f P xs a.1)

pub all_true : {X : Type 0} (P : X → Type 0) → ((x : X) → P x) → (xs : List X) → AllByRecursion P xs
all_true P f [] = tt
all_true P f (x ∷ xs) = (f x, all_true P f xs)

pub all_both : {X : Type 0} (P Q R : X → Type 0) → ((x : X) → P x → Q x → R x) → (xs : List X) → AllByRecursion P xs → AllByRecursion Q xs → AllByRecursion R xs
all_both P Q R f [] a b = tt
all_both P Q R f (x ∷ xs) a b = (f x a.0 b.0, all_both P Q R f xs a.1 b.1)

pub apart_weaker : {X : Type 0} (P Q : X → X → Type 0) → ((x y : X) → P x y → Q x y) → (xs : List X) → Apart P xs → Apart Q xs
apart_weaker P Q f [] a = tt
apart_weaker P Q f (x ∷ xs) a = (all_weaker (P x) (Q x) (f x) xs a.0, apart_weaker P Q f xs a.1)

pub apart_filter : {X : Type 0} (P : X → X → Type 0) (p : X → Bool) (xs : List X) → Apart P xs → Apart P (filter p xs)
apart_filter P p [] a = tt
apart_filter P p (x ∷ xs) a = by (p x) (apart_filter P p xs a.1)
  where
    by : (t : Bool) → Apart P (filter p xs) → Apart P (cond t (x ∷ filter p xs) (filter p xs))
    by true e = (all_filter (P x) p xs a.0, e)
    by false e = e

pub apart_map : {X Y : Type 0} (f : X → Y) (P : Y → Y → Type 0) (xs : List X) → Apart (λ x y. P (f x) (f y)) xs → Apart P (map f xs)
apart_map f P [] a = tt
apart_map f P (x ∷ xs) a = (all_map f (P (f x)) xs a.0, apart_map f P xs a.1)

pub apart_append : {X : Type 0} (P : X → X → Type 0) (xs ys : List X) → Apart P xs → Apart P ys → AllByRecursion (λ x. AllByRecursion (P x) ys) xs → Apart P (xs ++ ys)
apart_append P [] ys a b c = b
apart_append P (x ∷ xs) ys a b c = (all_append (P x) xs ys a.0 c.0, apart_append P xs ys a.1 b c.1)

-- with what is known of each element
pub apart_both : {X : Type 0} (K : X → Type 0) (P Q : X → X → Type 0) → ((x y : X) → K x → K y → P x y → Q x y) → (xs : List X) → AllByRecursion K xs → Apart P xs → Apart Q xs
apart_both K P Q f [] k a = tt
apart_both K P Q f (x ∷ xs) k a = (all_both K (P x) (Q x) (λ y ky p. f x y k.0 ky p) xs k.1 a.0, apart_both K P Q f xs k.1 a.1)

module _ {A : Type 0} {R : A → A → Ordering} (o : IsTotalOrder R) where
  abbrev pub Untied : A → A → Type 0
  Untied x y = R x y ≡ Equal → ⊥

  all_placed : (P : A → Type 0) (x : A) (ys : List A) → P x → AllByRecursion P ys → AllByRecursion P (placed R x ys)
  all_placed P x [] a b = (a, tt)
  all_placed P x (y ∷ ys) a b = by (is_gt (R x y)) (all_placed P x ys a b.1)
    where
      by : (t : Bool) → AllByRecursion P (placed R x ys) → AllByRecursion P (cond t (y ∷ placed R x ys) (x ∷ y ∷ ys))
      by true r = (b.0, r)
      by false r = (a, b)

  pub all_ascending : (P : A → Type 0) (xs : List A) → AllByRecursion P xs → AllByRecursion P (ascending R xs)
  all_ascending P [] a = tt
  all_ascending P (x ∷ xs) a = all_placed P x (ascending R xs) a.0 (all_ascending P xs a.1)

  above_through : (x y : A) (zs : List A) → R x y ≡ Less → AllByRecursion (λ z. R y z ≡ Less) zs → AllByRecursion (λ z. R x z ≡ Less) zs
  above_through x y zs h a = all_weaker (λ z. R y z ≡ Less) (λ z. R x z ≡ Less) (λ z. o.trans x y z h) zs a

  pub ascends_placed : (x : A) (ys : List A) → AllByRecursion (Untied x) ys → Ascends R ys → Ascends R (placed R x ys)
  ascends_placed x [] u a = (tt, tt)
  ascends_placed x (y ∷ ys) u a = by (R x y) refl (ascends_placed x ys u.1 a.1)
    where
      by : (r : Ordering) → R x y ≡ r → Ascends R (placed R x ys) → Ascends R (cond (is_gt r) (y ∷ placed R x ys) (x ∷ y ∷ ys))
      by Less e ih = ((e, above_through x y ys e a.0), a)
      by Equal e ih = absurd (u.0 e)
      by Greater e ih = (all_placed (λ z. R y z ≡ Less) x ys (o.antisymm y x ∙ ap ordering_reverse e) a.0, ih)

  pub ascends_ascending : (xs : List A) → Apart Untied xs → Ascends R (ascending R xs)
  ascends_ascending [] a = tt
  ascends_ascending (x ∷ xs) a = ascends_placed x (ascending R xs) (all_ascending (Untied x) xs a.0) (ascends_ascending xs a.1)

  less_untied : (x y : A) → R x y ≡ Less → Untied x y
  less_untied x y e h = cc

  pub ascends_apart : (xs : List A) → Ascends R xs → Apart Untied xs
  ascends_apart [] a = tt
  ascends_apart (x ∷ xs) a = (all_weaker (λ y. R x y ≡ Less) (Untied x) (less_untied x) xs a.0, ascends_apart xs a.1)
