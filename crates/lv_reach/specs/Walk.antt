-- The walk over near rows: each row that is found goes behind the others once.
use Rattle.std.specs.Prelude.{◌≡◌, ℕ, zero, suc, ◌≤◌, true, cond, List, [], ◌∷◌, ◌++◌, map, length, take}
use Rattle.std.specs.List.{AllByRecursion}
use Rattle.lv_values.specs.declared.value.Value.{Value}
use Rattle.lv_values.specs.Rows.{value_in}
use Rattle.lv_schema.specs.declared.part.Part.{Part}
use Rattle.lv_schema.specs.Nets.{has_row}
use Rattle.lv_schema.specs.Once.{are_apart}
use Rattle.lv_reach.specs.declared.link.Link.{Link}
use Rattle.lv_reach.specs.declared.rows.AliasRow.{AliasRow}
use Rattle.lv_reach.specs.Reach.{of_alias, alike, goes, has_alias_row, part_at, IsNear}
use Rattle.lv_reach.specs.Cost.{neighbours}

-- a row behind the others, if it is not among them; and rows so
abbrev pub put_behind : AliasRow → List AliasRow → List AliasRow
put_behind a rows = cond (has_alias_row a rows) rows (rows ++ a ∷ [])

abbrev pub put_all : List AliasRow → List AliasRow → List AliasRow
put_all [] rows = rows
put_all (a ∷ more) rows = put_all more (put_behind a rows)

-- the rows of so many aliases, alias by alias
abbrev pub rows_below : (ℕ → List (List Value)) → ℕ → List AliasRow
rows_below rows zero = []
rows_below rows (suc n) = rows_below rows n ++ map (of_alias n) (rows n)

-- ---- what is looked up of another alias for a row
-- what a link from the one alias to the other gives
abbrev pub if_goes : {A : Type 0} → Link → ℕ → ℕ → A → List A
if_goes link i j a = cond (goes link i j) (a ∷ []) []

-- the columns of the other alias in the links between the two
abbrev pub columns_to : List Link → ℕ → ℕ → List ℕ
columns_to [] i j = []
columns_to (link ∷ links) i j = (if_goes link i j link.right.column ++ if_goes link j i link.left.column) ++ columns_to links i j

-- the row's own values in them
abbrev pub values_to : List Link → AliasRow → ℕ → List Value
values_to [] a j = []
values_to (link ∷ links) a j = (if_goes link a.alias j (value_in a.row link.left.column) ++ if_goes link j a.alias (value_in a.row link.right.column)) ++ values_to links a j

-- each near row is among these
abbrev pub HasNear : List Link → List Part → List AliasRow → Type 0
HasNear links parts rows = (a : AliasRow) → IsNear links parts a → has_alias_row a rows ≡ true

-- the rows that are found from these first ones on are near, each once; of the first so many the old rows that agree with
-- them are found, too
pub record IsWalk (links : List Link) (parts : List Part) (first near : List AliasRow) (at : ℕ) : Type 0 where
  pub more : List AliasRow
  pub near_is : near ≡ first ++ more
  pub old : AllByRecursion (λ a. has_row a.row (part_at parts a.alias).old ≡ true) more
  pub once : are_apart alike near ≡ true
  pub sound : AllByRecursion (IsNear links parts) near
  pub within : at ≤ length near
  pub closed : (a b : AliasRow) → has_alias_row a (take at near) ≡ true → has_alias_row b (neighbours links parts a) ≡ true → has_alias_row b near ≡ true
