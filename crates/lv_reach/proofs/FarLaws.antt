-- Far aliases, told from the parts one by one.
use Rattle.std.proofs.Common.{◌≡◌, ◌↔◌, ℕ, zero, suc, ◌+◌, ◌<◌, ◌≤◌, Bool, true, false, not, ◌||◌, ◌==◌, List, [], ◌∷◌, ◌++◌, length, get_or, refl, sym, ap, ◌∙◌, subst, arith}
use Rattle.std.proofs.lemmas.Bool.{eqb-false, eqb-true}
use Rattle.lv_schema.specs.declared.part.Part.{Part}
use Rattle.lv_schema.specs.Nets.{has_row}
use Rattle.lv_schema.proofs.ChangeLists.{ARow}
use Rattle.lv_schema.proofs.NetsLead.{row_itself}
use Rattle.lv_reach.specs.declared.link.Link.{Link}
use Rattle.lv_reach.specs.Far.{HasChange, CutsOff, AreFlags}
use Rattle.lv_reach.specs.Reach.{of_alias, part_at, is_changed, IsFar}

first_there : (a b : Bool) → a ≡ true → (a || b) ≡ true
first_there true b h = refl
first_there false b h = cc

second_there : (a b : Bool) → b ≡ true → (a || b) ≡ true
second_there true b h = refl
second_there false b h = h

-- ---- a part with a changed row
pub change_there : (p : Part) → ((p.minus ≡ []) × (p.plus ≡ []) → ⊥) → HasChange p
change_there p h = by p.minus p.plus refl refl
  where
    by : (minus plus : List ARow) → p.minus ≡ minus → p.plus ≡ plus → HasChange p
    by (row ∷ minus) plus e f = (row, first_there _ _ (ap (has_row row) e ∙ first_there _ _ (row_itself row)))
    by [] (row ∷ plus) e f = (row, second_there (has_row row p.minus) _ (ap (has_row row) f ∙ first_there _ _ (row_itself row)))
    by [] [] e f = absurd (h (e, f))

pub no_change : (p : Part) → p.minus ≡ [] → p.plus ≡ [] → HasChange p → ⊥
no_change p m q h = let no : true ≡ false = sym h.1 ∙ (λ i. has_row h.0 (m i) || has_row h.0 (q i)) in cc

-- told by whether each list is empty
pub by_plus : (p : Part) (b : Bool) → p.minus ≡ [] → (b ≡ true → p.plus ≡ []) × (p.plus ≡ [] → b ≡ true) → (not b ≡ true → HasChange p) × (HasChange p → not b ≡ true)
by_plus p true m h = (λ e. let no : true ≡ false = sym e in cc, λ change. absurd (no_change p m (h.0 refl) change))
by_plus p false m h = (λ e. change_there p (λ both. let no : true ≡ false = sym (h.1 both.1) in cc), λ change. refl)

pub by_minus : (p : Part) → (p.minus ≡ [] → false ≡ true) → HasChange p
by_minus p h = change_there p (λ both. let no : true ≡ false = sym (h both.0) in cc)

-- ---- far aliases
-- only a part that is there has a changed row
part_within : (parts : List Part) (i : ℕ) (row : ARow) → is_changed (part_at parts i) row ≡ true → i < length parts
part_within [] i row h = cc
part_within (p ∷ parts) zero row h = omega arith
part_within (p ∷ parts) (suc i) row h = omega (arith, part_within parts i row h)

pub part_is : (parts : List Part) (i : ℕ) (p : Part) → i < length parts → p ≡ get_or parts i p → p ≡ part_at parts i
part_is [] i p lt is = absurd (let none = lt in omega (arith, none))
part_is (q ∷ parts) zero p lt is = is
part_is (q ∷ parts) (suc i) p lt is = part_is parts i p (omega arith) is

module _ (links : List Link) (parts : List Part) (j : ℕ) where
  pub far_there : (i : ℕ) → CutsOff links (part_at parts i) i j → IsFar links parts j
  far_there i h = record { from = of_alias i h.0.0; changed = h.0.1; apart = λ path p. h.1 (path, p) }

  pub off_at : (i alias : ℕ) (p : Part) → i < length parts → p ≡ get_or parts i p → alias ≡ i → CutsOff links p alias j → CutsOff links (part_at parts i) i j
  off_at i alias p lt is e h = subst (λ q. CutsOff links q i j) (part_is parts i p lt is) (subst (λ k. CutsOff links p k j) e h)

  pub off_from : (i alias : ℕ) (p : Part) → i < length parts → p ≡ get_or parts i p → alias ≡ i → CutsOff links (part_at parts i) i j → CutsOff links p alias j
  off_from i alias p lt is e h = subst (λ k. CutsOff links p k j) (sym e) (subst (λ q. CutsOff links q i j) (sym (part_is parts i p lt is)) h)

  -- none of the first parts makes it far
  abbrev pub NoneBelow : ℕ → Type 0
  NoneBelow n = (i : ℕ) → i < n → CutsOff links (part_at parts i) i j → ⊥

  pub none_more : (n : ℕ) → NoneBelow n → (CutsOff links (part_at parts n) n j → ⊥) → NoneBelow (n + 1)
  none_more n h none i lt off = by (i == n) refl
    where
      by : (t : Bool) → (i == n) ≡ t → ⊥
      by true e = none (subst (λ k. CutsOff links (part_at parts k) k j) (eqb-true i n e) off)
      by false e =
          let other : i ≡ n → ⊥ = eqb-false i n e in
          let below : i < n = grind (arith, other) in
          h i below off

  pub none_far : NoneBelow (length parts) → IsFar links parts j → ⊥
  none_far h far = h far.from.alias (part_within parts far.from.alias far.from.row far.changed) ((far.from.row, far.changed), λ r. far.apart r.0 r.1)

-- ---- flags of the first aliases
pub flags_none : (links : List Link) (parts : List Part) → AreFlags links parts 0 []
flags_none links parts = record { as_many = refl; each = λ j lt. absurd (let none = lt in omega (arith, none)) }

before_last : (flags : List Bool) (b : Bool) (j : ℕ) → j < length flags → get_or (flags ++ b ∷ []) j true ≡ get_or flags j true
before_last [] b j lt = absurd (let none = lt in omega (arith, none))
before_last (f ∷ flags) b zero lt = refl
before_last (f ∷ flags) b (suc j) lt = before_last flags b j (omega arith)

at_last : (flags : List Bool) (b : Bool) → get_or (flags ++ b ∷ []) (length flags) true ≡ b
at_last [] b = refl
at_last (f ∷ flags) b = at_last flags b

long_last : (flags : List Bool) (b : Bool) → length (flags ++ b ∷ []) ≡ length flags + 1
long_last [] b = refl
long_last (f ∷ flags) b = omega (arith, long_last flags b)

pub past_end : (flags : List Bool) (j : ℕ) → length flags ≤ j → get_or flags j true ≡ true
past_end [] j le = refl
past_end (f ∷ flags) zero le = absurd (let none = le in omega (arith, none))
past_end (f ∷ flags) (suc j) le = past_end flags j (omega arith)

pub flags_more : (links : List Link) (parts : List Part) (n : ℕ) (flags : List Bool) (b : Bool) → AreFlags links parts n flags → (b ≡ true) ↔ IsFar links parts n → AreFlags links parts (n + 1) (flags ++ b ∷ [])
flags_more links parts n flags b g h = record {
  as_many = long_last flags b ∙ ap (λ k. k + 1) g.as_many;
  each = λ j lt. by j lt (j == n) refl;
}
  where
    by : (j : ℕ) → j < n + 1 → (t : Bool) → (j == n) ≡ t → (get_or (flags ++ b ∷ []) j true ≡ true) ↔ IsFar links parts j
    by j lt true e =
        let same : j ≡ n = eqb-true j n e in
        let at : get_or (flags ++ b ∷ []) j true ≡ b = ap (λ k. get_or (flags ++ b ∷ []) k true) (same ∙ sym g.as_many) ∙ at_last flags b in
        (λ x. subst (λ k. IsFar links parts k) (sym same) (h.0 (sym at ∙ x)), λ far. at ∙ h.1 (subst (λ k. IsFar links parts k) same far))
    by j lt false e =
        let other : j ≡ n → ⊥ = eqb-false j n e in
        let below : j < n = grind (arith, other) in
        let at : get_or (flags ++ b ∷ []) j true ≡ get_or flags j true = before_last flags b j (omega (arith, g.as_many, below)) in
        let each = g.each j below in
        (λ x. each.0 (sym at ∙ x), λ far. at ∙ each.1 far)
