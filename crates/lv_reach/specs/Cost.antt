-- The cost of a step: the old rows that are looked up to find the near rows, and those of the far aliases.
use Rattle.std.specs.Prelude.{◌≡◌, ◌↔◌, ℕ, suc, ◌+◌, ◌<◌, Bool, true, cond, List, [], ◌∷◌, filter, length}
use Rattle.std.specs.List.{sum_by, AllByRecursion}
use Rattle.lv_schema.specs.declared.part.Part.{Part}
use Rattle.lv_schema.specs.Nets.{has_row}
use Rattle.lv_schema.specs.Once.{are_apart}
use Rattle.lv_reach.specs.declared.link.Link.{Link}
use Rattle.lv_reach.specs.declared.rows.AliasRow.{AliasRow}
use Rattle.lv_reach.specs.Reach.{alike, has_alias_row, old_rows, part_at, agree, is_changed, IsNear, IsFar}

-- the near rows, each once, and for each alias whether it is far
pub record IsReach (links : List Link) (parts : List Part) (near : List AliasRow) (far : ℕ → Bool) : Type 0 where
  pub near_rows : (a : AliasRow) → (has_alias_row a near ≡ true) ↔ IsNear links parts a
  pub once : are_apart alike near ≡ true
  pub far_aliases : (j : ℕ) → j < length parts → (far j ≡ true) ↔ IsFar links parts j

-- the old rows that agree with a row, of all aliases that are linked to its alias
abbrev pub neighbours : List Link → List Part → AliasRow → List AliasRow
neighbours links parts a = filter (agree links a) (old_rows parts)

-- how many pairs there are of one of these rows and an old one that agrees with it
abbrev pub looked_up : List Link → List Part → List AliasRow → ℕ
looked_up links parts near = sum_by (λ a. length (neighbours links parts a)) near

-- how many old rows the far aliases have; the aliases count from i
abbrev pub whole_from : (ℕ → Bool) → ℕ → List Part → ℕ
whole_from far i [] = 0
whole_from far i (p ∷ parts) = cond (far i) (length p.old) 0 + whole_from far (suc i) parts

-- the cost of a step
abbrev pub cost : List Link → List Part → List AliasRow → (ℕ → Bool) → ℕ
cost links parts near far = looked_up links parts near + whole_from far 0 parts

-- near rows that are found: first the changed ones, and then old ones
pub record AreFound (parts : List Part) (first more : List AliasRow) : Type 0 where
  pub changed : (a : AliasRow) → has_alias_row a first ≡ true → is_changed (part_at parts a.alias) a.row ≡ true
  pub all : (a : AliasRow) → is_changed (part_at parts a.alias) a.row ≡ true → has_alias_row a first ≡ true
  pub old : AllByRecursion (λ a. has_row a.row (part_at parts a.alias).old ≡ true) more
