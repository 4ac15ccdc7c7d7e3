-- A table that had no row at a commit has none there once some of its versions are dropped.
use Rattle.std.proofs.Common.{◌≡◌, ℕ, Bool, true, false, cond, List, [], ◌∷◌, map, refl, ◌∙◌}
use Rattle.std.specs.List.{filter}
use Rattle.lv_schema.specs.declared.version.RowVersion.{RowVersion}
use Rattle.lv_schema.specs.Versions.{is_at}
use Rattle.lv_stands.specs.Kept.{shown}

pub still_empty : (kept : RowVersion → Bool) (n : ℕ) (versions : List RowVersion) → shown n versions ≡ [] → shown n (filter kept versions) ≡ []
still_empty kept n [] e = refl
still_empty kept n (v ∷ versions) e = by (kept v) (is_at n v) refl e (still_empty kept n versions)
  where
    by : (stays there : Bool) → is_at n v ≡ there → map (λ (w : RowVersion). w.row) (cond there (v ∷ filter (is_at n) versions) (filter (is_at n) versions)) ≡ [] → (shown n versions ≡ [] → shown n (filter kept versions) ≡ [])
        → shown n (cond stays (v ∷ filter kept versions) (filter kept versions)) ≡ []
    by stays true f h rest = cc
    by true false f h rest = (λ i. map (λ (w : RowVersion). w.row) (cond (f i) (v ∷ filter (is_at n) (filter kept versions)) (filter (is_at n) (filter kept versions)))) ∙ rest h
    by false false f h rest = rest h
