-- A write that comes in, or that takes the place of the one at its place.
use Rattle.std.proofs.Common.{◌≡◌, ℕ, zero, suc, Bool, true, false, cond, List, [], ◌∷◌, set, Option, Some, None, refl, sym, ap, ◌∙◌, subst}
use Rattle.std.specs.Prelude.{slice_get}
use Rattle.std.specs.List.{AllByRecursion, insert, list_all}
use Rattle.std.specs.declared.cmp.Ordering.TheVariants.{Less}
use Rattle.lv_values.specs.declared.value.Value.{Value}
use Rattle.lv_schema.specs.Commits.{Place, place_cmp, same_place}
use Rattle.lv_schema.specs.Once.{Ascends}
use Rattle.lv_schema.proofs.FirstCommitter.{place_of}
use Rattle.lv_shelf.specs.Cuts.{IsCut}
use Rattle.lv_overlay.specs.declared.put.Put.{Put}
use Rattle.lv_overlay.specs.Ordered.{put_place, put_cmp, is_before, is_there}
use Rattle.lv_overlay.specs.Puts.{put_at, PutIs}
use Rattle.lv_overlay.proofs.Cutting.{above_through}
use Rattle.lv_overlay.proofs.Places.{after_differs, and_left, and_right, both_true, comes_after, less_of, place_itself}

all_insert : {X : Type 0} (P : X → Type 0) (xs : List X) (i : ℕ) (x : X) → P x → AllByRecursion P xs → AllByRecursion P (insert xs i x)
all_insert P xs zero x h a = (h, a)
all_insert P [] (suc i) x h a = (h, tt)
all_insert P (y ∷ xs) (suc i) x h a = (a.0, all_insert P xs i x h a.1)

all_set : {X : Type 0} (P : X → Type 0) (xs : List X) (i : ℕ) (x : X) → P x → AllByRecursion P xs → AllByRecursion P (set xs i x)
all_set P [] i x h a = tt
all_set P (y ∷ xs) zero x h a = (h, a.1)
all_set P (y ∷ xs) (suc i) x h a = (a.0, all_set P xs i x h a.1)

all_of : {X : Type 0} (P : X → Type 0) (xs : List X) (i : ℕ) (x : X) → slice_get xs i ≡ Some x → AllByRecursion P xs → P x
all_of P [] i x e a = cc
all_of P (y ∷ xs) zero x e a = let same : y ≡ x = cc in subst P same a.0
all_of P (y ∷ xs) (suc i) x e a = all_of P xs i x e a.1

module _ (q : Put) where
  -- ---- a write that comes in
  pub insert_up : (at : ℕ) (puts : List Put) → Ascends put_cmp puts → IsCut (is_before (put_place q)) at puts → is_there (put_place q) (slice_get puts at) ≡ false → Ascends put_cmp (insert puts at q)
  insert_up zero [] up cut free = (tt, tt)
  insert_up zero (r ∷ puts) up cut free =
      let less = comes_after (put_place q) (put_place r) cut.0 free in
      ((less, above_through (put_place q) r puts less up.0), up)
  insert_up (suc at) [] up cut free = absurd cut
  insert_up (suc at) (r ∷ puts) up cut free =
      (all_insert (λ s. put_cmp r s ≡ Less) puts at q (less_of _ cut.0) up.0, insert_up at puts up.1 cut.1 free)

  either_way : (p : Place) (r : Put) (b c : Bool) (x : Option (Option (List Value))) → same_place p (put_place q) ≡ b → same_place p (put_place r) ≡ c → same_place (put_place q) (put_place r) ≡ false
      → cond c (Some r.row) (cond b (Some q.row) x) ≡ cond b (Some q.row) (cond c (Some r.row) x)
  either_way p r true true x e f g =
      let qr : put_place q ≡ put_place r = sym (place_of p (put_place q) e) ∙ place_of p (put_place r) f in
      let same : same_place (put_place q) (put_place r) ≡ true = subst (λ z. same_place (put_place q) z ≡ true) qr (place_itself (put_place q)) in
      cc
  either_way p r true false x e f g = refl
  either_way p r false true x e f g = refl
  either_way p r false false x e f g = refl

  pub insert_put : (at : ℕ) (puts : List Put) → IsCut (is_before (put_place q)) at puts → PutIs q puts (insert puts at q)
  insert_put zero puts cut p = refl
  insert_put (suc at) [] cut p = absurd cut
  insert_put (suc at) (r ∷ puts) cut p =
      ap (λ x. cond (same_place p (put_place r)) (Some r.row) x) (insert_put at puts cut.1 p)
      ∙ either_way p r (same_place p (put_place q)) (same_place p (put_place r)) (put_at puts p) refl refl (after_differs (put_place q) (put_place r) (less_of _ cut.0))

  -- ---- a write that takes the place of another one
  module _ (old : Put) (same : put_place q ≡ put_place old) where
    pub set_up : (at : ℕ) (puts : List Put) → Ascends put_cmp puts → slice_get puts at ≡ Some old → Ascends put_cmp (set puts at q)
    set_up at [] up e = tt
    set_up zero (r ∷ puts) up e =
        let one : r ≡ old = cc in
        let places : put_place r ≡ put_place q = ap put_place one ∙ sym same in
        (subst (λ p. AllByRecursion (λ s. place_cmp p (put_place s) ≡ Less) puts) places up.0, up.1)
    set_up (suc at) (r ∷ puts) up e =
        let less : put_cmp r old ≡ Less = all_of (λ s. put_cmp r s ≡ Less) puts at old e up.0 in
        (all_set (λ s. put_cmp r s ≡ Less) puts at q (ap (place_cmp (put_place r)) same ∙ less) up.0, set_up at puts up.1 e)

    pub set_put : (at : ℕ) (puts : List Put) → Ascends put_cmp puts → slice_get puts at ≡ Some old → PutIs q puts (set puts at q)
    set_put at [] up e p = cc
    set_put zero (r ∷ puts) up e p = by (same_place p (put_place q)) refl
      where
        one : r ≡ old
        one = cc

        places : put_place q ≡ put_place r
        places = same ∙ sym (ap put_place one)

        by : (b : Bool) → same_place p (put_place q) ≡ b → cond b (Some q.row) (put_at puts p) ≡ cond b (Some q.row) (cond (same_place p (put_place r)) (Some r.row) (put_at puts p))
        by true e' = refl
        by false e' = sym (ap (λ b. cond b (Some r.row) (put_at puts p)) (ap (same_place p) (sym places) ∙ e'))
    set_put (suc at) (r ∷ puts) up e p =
        let less : put_cmp r old ≡ Less = all_of (λ s. put_cmp r s ≡ Less) puts at old e up.0 in
        ap (λ x. cond (same_place p (put_place r)) (Some r.row) x) (set_put at puts up.1 e p)
        ∙ either_way p r (same_place p (put_place q)) (same_place p (put_place r)) (put_at puts p) refl refl
        (after_differs (put_place q) (put_place r) (ap (place_cmp (put_place r)) same ∙ less))

-- the write that stands at a place
there : (p : Place) (o : Option Put) → is_there p o ≡ true → (old : Put) × (o ≡ Some old) × (p ≡ put_place old)
there p None e = cc
there p (Some old) e = (old, refl, place_of p (put_place old) e)

pub replaced_up : (q : Put) (at : ℕ) (puts : List Put) → Ascends put_cmp puts → is_there (put_place q) (slice_get puts at) ≡ true → Ascends put_cmp (set puts at q)
replaced_up q at puts up e = let t = there (put_place q) (slice_get puts at) e in set_up q t.0 t.2 at puts up t.1

pub replaced_put : (q : Put) (at : ℕ) (puts : List Put) → Ascends put_cmp puts → is_there (put_place q) (slice_get puts at) ≡ true → PutIs q puts (set puts at q)
replaced_put q at puts up e = let t = there (put_place q) (slice_get puts at) e in set_put q t.0 t.2 at puts up t.1

-- ---- what each write passes
pub insert_passes : (test : Put → Bool) (puts : List Put) (i : ℕ) (q : Put) → test q ≡ true → list_all test puts ≡ true → list_all test (insert puts i q) ≡ true
insert_passes test puts zero q h a = both_true (test q) _ h a
insert_passes test [] (suc i) q h a = both_true (test q) _ h refl
insert_passes test (r ∷ puts) (suc i) q h a = both_true (test r) _ (and_left _ _ a) (insert_passes test puts i q h (and_right (test r) _ a))

pub set_passes : (test : Put → Bool) (puts : List Put) (i : ℕ) (q : Put) → test q ≡ true → list_all test puts ≡ true → list_all test (set puts i q) ≡ true
set_passes test [] i q h a = refl
set_passes test (r ∷ puts) zero q h a = both_true (test q) _ h (and_right (test r) _ a)
set_passes test (r ∷ puts) (suc i) q h a = both_true (test r) _ (and_left _ _ a) (set_passes test puts i q h (and_right (test r) _ a))
