-- A step of a view of one table without links costs nothing.
use Rattle.std.proofs.Common.{◌≡◌, ◌↔◌, ℕ, zero, suc, ◌+◌, ◌<◌, ◌≤◌, Bool, true, false, cond, List, [], ◌∷◌, length, refl, sym, ap, subst, arith}
use Rattle.std.specs.Prelude.{filter}
use Rattle.std.proofs.lemmas.List.Sums.{sum_by-cons}
use Rattle.lv_schema.specs.declared.part.Part.{Part}
use Rattle.lv_reach.specs.declared.link.Link.{Link}
use Rattle.lv_reach.specs.declared.rows.AliasRow.{AliasRow}
use Rattle.lv_reach.specs.Cost.{IsReach, cost, looked_up, neighbours, whole_from}
use Rattle.lv_reach.specs.Reach.{IsFar, agree, is_changed, old_rows, part_at}

none_agree : (a : AliasRow) (rows : List AliasRow) → filter (agree [] a) rows ≡ []
none_agree a [] = refl
none_agree a (row ∷ rows) = none_agree a rows

none_looked_up : (parts : List Part) (near : List AliasRow) → looked_up [] parts near ≡ 0
none_looked_up parts [] = refl
none_looked_up parts (a ∷ near) =
    omega (arith, sum_by-cons (λ b. length (neighbours [] parts b)) a near, ap (λ (rows : List AliasRow). length rows) (none_agree a (old_rows parts)), none_looked_up parts near)

-- there is no other alias that could make it far
not_far : (p : Part) → IsFar [] (p ∷ []) 0 → ⊥
not_far p far = by far.from.alias (far.apart []) far.changed
  where
    by : (i : ℕ) → (i ≡ 0 → ⊥) → is_changed (part_at (p ∷ []) i) far.from.row ≡ true → ⊥
    by zero apart changed = apart refl
    by (suc i) apart changed = absurd cc

none_whole : (far : ℕ → Bool) (parts : List Part) → length parts ≤ 1 → ((j : ℕ) → j < length parts → (far j ≡ true) ↔ IsFar [] parts j) → whole_from far 0 parts ≡ 0
none_whole far [] few is = refl
none_whole far (p ∷ []) few is = by (far 0) refl
  where
    by : (b : Bool) → far 0 ≡ b → whole_from far 0 (p ∷ []) ≡ 0
    by true e = absurd (not_far p ((is 0 (omega arith)).0 e))
    by false e = ap (λ b. cond b (length p.old) 0 + 0) e
none_whole far (p ∷ q ∷ parts) few is = absurd (omega (arith, few))

pub no_cost : (links : List Link) (parts : List Part) (near : List AliasRow) (far : ℕ → Bool) → links ≡ [] → length parts ≤ 1 → IsReach links parts near far → cost links parts near far ≡ 0
no_cost links parts near far none few reach =
    subst (λ ls. IsReach ls parts near far → cost ls parts near far ≡ 0) (sym none)
    (λ r. λ i. none_looked_up parts near i + none_whole far parts few r.far_aliases i) reach
