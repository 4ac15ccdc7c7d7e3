-- A change that lies within another: of each alias no more rows before the step, and no other changes. And the parts of a
-- step in which one alias alone changes, with few of its own rows or none.
use Rattle.std.specs.Prelude.{◌≡◌, ◌≢◌, ℕ, zero, suc, Bool, true, List, [], ◌∷◌, filter}
use Rattle.std.specs.List.{AllZip}
use Rattle.lv_values.specs.declared.value.Value.{Value}
use Rattle.lv_schema.specs.declared.part.Part.{Part}
use Rattle.lv_reach.specs.Reach.{part_at, is_changed}

-- a part that has no more: some of the rows before the step, in their order, and no other changes
pub record IsNoMore (s p : Part) : Type 0 where
  pub keep : List Value → Bool
  pub kept : s.old ≡ filter keep p.old
  pub only : (row : List Value) → is_changed s row ≡ true → is_changed p row ≡ true

-- each part has no more than the other one of its alias
abbrev pub ChangesNoMore : List Part → List Part → Type 0
ChangesNoMore small parts = AllZip (λ s p. IsNoMore s p) small parts

-- the part of an alias with other rows before the step, all others as they are
abbrev pub with_old_at : (Part → List (List Value)) → ℕ → List Part → List Part
with_old_at rows i [] = []
with_old_at rows zero (p ∷ parts) = record { old = rows p; minus = p.minus; plus = p.plus } ∷ parts
with_old_at rows (suc i) (p ∷ parts) = p ∷ with_old_at rows i parts

-- that of an alias without rows before the step
abbrev pub without_old : ℕ → List Part → List Part
without_old i parts = with_old_at (λ p. []) i parts

-- that of an alias with those alone that go
abbrev pub with_lost_at : ℕ → List Part → List Part
with_lost_at i parts = with_old_at (λ p. p.minus) i parts

-- one alias alone changes
abbrev pub OnlyChanges : ℕ → List Part → Type 0
OnlyChanges i parts = (j : ℕ) → j ≢ i → ((part_at parts j).minus ≡ []) × ((part_at parts j).plus ≡ [])
