-- A walk over a list by its places.
use Rattle.std.proofs.Common.{◌≡◌, ℕ, ◌+◌, Bool, true, false, cond, List, [], ◌∷◌, ◌++◌, map, filter, drop, Some, refl, sym, ap, ◌∙◌, append_assoc}
use Rattle.std.specs.Prelude.{slice_get}
use Rattle.std.proofs.lemmas.List.{drop_more}
use Rattle.lv_schema.specs.declared.signed.SignedRow.{SignedRow}
use Rattle.lv_shelf.proofs.Cutting.{got, got_within}
use Rattle.lv_viewrows.specs.declared.version.GroupVersion.{GroupVersion}
use Rattle.lv_viewrows.specs.Kept.{groups_at, is_there}

-- it appends what each element gives
pub walk_step : {X Y : Type 0} (f : List X → List Y) → ((x : X) (xs : List X) → f (x ∷ []) ++ f xs ≡ f (x ∷ xs)) → (i : ℕ) (so_far : List Y) (x : X) (xs : List X) → slice_get xs i ≡ Some x
    → (so_far ++ f (x ∷ [])) ++ f (drop (i + 1) xs) ≡ so_far ++ f (drop i xs)
walk_step f cons i so_far x xs e =
    append_assoc so_far (f (x ∷ [])) (f (drop (i + 1) xs))
    ∙ ap (λ l. so_far ++ l) (cons x (drop (i + 1) xs) ∙ ap (λ y. f (y ∷ drop (i + 1) xs)) (sym (got xs i x x e)) ∙ ap f (sym (drop_more xs i x (got_within xs i x e))))

-- the groups that are there at a commit, of a version and of those behind it
pub there_cons : (n : ℕ) (v : GroupVersion) (vs : List GroupVersion) → groups_at n (v ∷ []) ++ groups_at n vs ≡ groups_at n (v ∷ vs)
there_cons n v vs = by (is_there n v)
  where
    by : (b : Bool) → map (λ (w : GroupVersion). w.group) (cond b (v ∷ []) []) ++ groups_at n vs ≡ map (λ (w : GroupVersion). w.group) (cond b (v ∷ filter (is_there n) vs) (filter (is_there n) vs))
    by true = refl
    by false = refl

next_there : (n i : ℕ) (v : GroupVersion) (vs : List GroupVersion) → slice_get vs i ≡ Some v → groups_at n (v ∷ []) ++ groups_at n (drop (i + 1) vs) ≡ groups_at n (drop i vs)
next_there n i v vs e =
    there_cons n v (drop (i + 1) vs)
    ∙ ap (λ w. groups_at n (w ∷ drop (i + 1) vs)) (sym (got vs i v v e))
    ∙ ap (groups_at n) (sym (drop_more vs i v (got_within vs i v e)))

-- a step of a walk that takes one version's group from what is left of the groups
pub walk_there : {Y : Type 0} (n i : ℕ) (v : GroupVersion) (vs : List GroupVersion) → slice_get vs i ≡ Some v → (was is : List SignedRow → Y) → ((groups : List SignedRow) → is groups ≡ was (groups_at n (v ∷ []) ++ groups)) → (all : Y) → was (groups_at n (drop i vs)) ≡ all
    → is (groups_at n (drop (i + 1) vs)) ≡ all
walk_there n i v vs e was is step all before = step (groups_at n (drop (i + 1) vs)) ∙ ap was (next_there n i v vs e) ∙ before
