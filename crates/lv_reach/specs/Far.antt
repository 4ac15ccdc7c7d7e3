-- The aliases to which chains of links lead, as tests.
use Rattle.std.specs.Prelude.{◌≡◌, ◌↔◌, ℕ, ◌<◌, Bool, true, ◌==◌, List, length, slice_index_or}
use Rattle.std.specs.List.{list_any}
use Rattle.lv_values.specs.declared.value.Value.{Value}
use Rattle.lv_schema.specs.declared.part.Part.{Part}
use Rattle.lv_reach.specs.declared.link.Link.{Link}
use Rattle.lv_reach.specs.Reach.{are_linked, IsPath, is_changed, IsFar}

-- some chain of links leads from an alias to another
abbrev pub IsReached : List Link → ℕ → ℕ → Type 0
IsReached links i j = (path : List ℕ) × IsPath links i path j

-- whether an alias is among these
abbrev pub has_alias : ℕ → List ℕ → Bool
has_alias j aliases = list_any (λ i. j == i) aliases

-- whether one of these aliases is linked to another
abbrev pub are_led : List Link → List ℕ → ℕ → Bool
are_led links from j = list_any (λ i. are_linked links i j) from

-- some row of a part changes
abbrev pub HasChange : Part → Type 0
HasChange p = (row : List Value) × (is_changed p row ≡ true)

-- a part of this alias makes another alias far: it has a changed row, and no chain of links leads there
abbrev pub CutsOff : List Link → Part → ℕ → ℕ → Type 0
CutsOff links p i j = HasChange p × (IsReached links i j → ⊥)

-- flags of the first aliases, which say whether each is far
pub record AreFlags (links : List Link) (parts : List Part) (n : ℕ) (flags : List Bool) : Type 0 where
  pub as_many : length flags ≡ n
  pub each : (j : ℕ) → j < n → (slice_index_or flags j true ≡ true) ↔ IsFar links parts j
