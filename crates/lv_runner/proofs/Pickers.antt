-- The picker of a kind.
use Rattle.std.proofs.Common.{◌≡◌, ℕ, zero, suc, ◌<◌, List, [], ◌∷◌, map, length, slice_index_or, refl, sym, ap, ◌∙◌, arith}
use Rattle.std.proofs.lemmas.List.{length-map}

pub length_three : {P : Type 0} (kind : P → ℕ) (ps : List P) → map kind ps ≡ 0 ∷ 1 ∷ 2 ∷ [] → length ps ≡ 3
length_three kind ps kinds = sym (length-map ps kind) ∙ ap length kinds

kind_of : {P : Type 0} (kind : P → ℕ) (ps : List P) (k : ℕ) (d : P) → kind (slice_index_or ps k d) ≡ slice_index_or (map kind ps) k (kind d)
kind_of kind [] k d = refl
kind_of kind (p ∷ ps) zero d = refl
kind_of kind (p ∷ ps) (suc k) d = kind_of kind ps k d

at_place : (k d : ℕ) → k < 3 → slice_index_or (0 ∷ 1 ∷ 2 ∷ []) k d ≡ k
at_place zero d lt = refl
at_place (suc zero) d lt = refl
at_place (suc (suc zero)) d lt = refl
at_place (suc (suc (suc k))) d lt = absurd (omega (arith, lt))

pub kind_at : {P : Type 0} (kind : P → ℕ) (ps : List P) (k : ℕ) (p : P) → map kind ps ≡ 0 ∷ 1 ∷ 2 ∷ [] → k < 3 → p ≡ slice_index_or ps k p → kind p ≡ k
kind_at kind ps k p kinds lt is =
    ap kind is ∙ (kind_of kind ps k p ∙ (ap (λ (ks : List ℕ). slice_index_or ks k (kind p)) kinds ∙ at_place k (kind p) lt))
