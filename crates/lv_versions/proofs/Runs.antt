-- The rows of versions that follow one another.
use Rattle.std.proofs.Common.{◌≡◌, ℕ, ◌+◌, ◌-◌, ◌≤◌, List, ◌++◌, drop, take, length, map, filter, sym, ap, ap₂, ◌∙◌, arith}
use Rattle.std.proofs.lemmas.List.{append_assoc, drop-drop, drop-take, map-append, take-append-drop, take-take}
use Rattle.std.proofs.lemmas.List.Elements.{filter-append}
use Rattle.lv_values.specs.declared.value.Value.{Value}
use Rattle.lv_schema.specs.declared.version.RowVersion.{RowVersion}
use Rattle.lv_versions.specs.Versions.{is_at, state_at}

-- a run, and what is behind it up to a place
pub split_run : {X : Type 0} (at end k : ℕ) (xs : List X) → at + k ≤ end → take k (drop at xs) ++ drop (at + k) (take end xs) ≡ drop at (take end xs)
split_run at end k xs le =
    let m = end - at in
    let to : at + m ≡ end = omega (arith, le) in
    let here : drop at (take end xs) ≡ take m (drop at xs) = ap (λ i. drop at (take i xs)) (sym to) ∙ drop-take at m xs in
    let first : take k (drop at (take end xs)) ≡ take k (drop at xs) = ap (take k) here ∙ take-take k m (drop at xs) (omega (arith, le)) in
    ap₂ (λ l r. l ++ r) (sym first) (sym (drop-drop k at (take end xs))) ∙ take-append-drop k (drop at (take end xs))

run_split : {X : Type 0} (at end : ℕ) (run xs : List X) → run ≡ take (length run) (drop at xs) → at + length run ≤ end → run ++ drop (at + length run) (take end xs) ≡ drop at (take end xs)
run_split at end run xs e le = ap (λ l. l ++ drop (at + length run) (take end xs)) e ∙ split_run at end (length run) xs le

pub state_append : (n : ℕ) (vs ws : List RowVersion) → state_at n (vs ++ ws) ≡ state_at n vs ++ state_at n ws
state_append n vs ws = ap (map (λ (v : RowVersion). v.row)) (filter-append (is_at n) vs ws) ∙ map-append (λ (v : RowVersion). v.row) (filter (is_at n) vs) (filter (is_at n) ws)

-- one run of those that a loop goes over
pub run_step : (n at end : ℕ) (rows : List (List Value)) (run vs : List RowVersion) → run ≡ take (length run) (drop at vs) → at + length run ≤ end
    → (rows ++ state_at n run) ++ state_at n (drop (at + length run) (take end vs)) ≡ rows ++ state_at n (drop at (take end vs))
run_step n at end rows run vs e le =
    let rest = drop (at + length run) (take end vs) in
    append_assoc rows (state_at n run) (state_at n rest)
    ∙ ap (λ l. rows ++ l) (sym (state_append n run rest) ∙ ap (state_at n) (run_split at end run vs e le))
