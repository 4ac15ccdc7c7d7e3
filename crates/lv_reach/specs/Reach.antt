-- The reach of a change: the rows that can join a changed row. A maintenance step needs no others, since a tuple
-- without a changed row stands before the step and after it (Zhou, Larson and Elmongui, "Lazy Maintenance of
-- Materialized Views", 2007); and a row that agrees with no row near it joins none, as in a semijoin (Bernstein and
-- Chiu, "Using Semi-Joins to Solve Relational Queries", 1981).
use Rattle.std.specs.Prelude.{◌≡◌, ◌⊎◌, ℕ, suc, ◌<◌, Bool, true, false, not, ◌&&◌, ◌||◌, ◌==◌, List, [], ◌∷◌, ◌++◌, map, filter, length, slice_index_or}
use Rattle.std.specs.List.{list_all, list_any, AllByRecursion, AllZip}
use Rattle.lv_values.specs.declared.value.Value.{Value}
use Rattle.lv_values.specs.Order.{value_eq, row_eq}
use Rattle.lv_values.specs.Rows.{value_in}
use Rattle.lv_schema.specs.declared.part.Part.{Part}
use Rattle.lv_schema.specs.Nets.{has_row}
use Rattle.lv_schema.specs.Tuples.{Tuple, value_at}
use Rattle.lv_reach.specs.declared.link.Link.{Link}
use Rattle.lv_reach.specs.declared.rows.AliasRow.{AliasRow}

-- a row of an alias
abbrev pub of_alias : ℕ → List Value → AliasRow
of_alias alias row = record { alias = alias; row = row }

-- the row of a tuple at an alias
abbrev pub row_at : Tuple → ℕ → List Value
row_at tuple i = slice_index_or tuple i []

abbrev pub in_tuple : Tuple → ℕ → AliasRow
in_tuple tuple i = of_alias i (row_at tuple i)

-- the part of an alias, one without rows where there is none
abbrev pub no_part : Part
no_part = record { old = []; minus = []; plus = [] }

abbrev pub part_at : List Part → ℕ → Part
part_at parts i = slice_index_or parts i no_part

-- ---- links
-- whether a link goes from the one alias to the other
abbrev pub goes : Link → ℕ → ℕ → Bool
goes link i j = (link.left.alias == i) && (link.right.alias == j)

-- whether two aliases are linked, one way or the other
abbrev pub are_linked : List Link → ℕ → ℕ → Bool
are_linked links i j = list_any (λ link. goes link i j || goes link j i) links

-- whether two rows have equal values in both columns of a link, if it goes from the one's alias to the other's
abbrev pub fit : Link → AliasRow → AliasRow → Bool
fit link a b = not (goes link a.alias b.alias) || value_eq (value_in a.row link.left.column) (value_in b.row link.right.column)

-- whether they have them in every link between their aliases
abbrev pub all_fit : List Link → AliasRow → AliasRow → Bool
all_fit links a b = list_all (λ link. fit link a b && fit link b a) links

-- whether two rows agree: their aliases are linked, and they have equal values in both columns of every link between them
abbrev pub agree : List Link → AliasRow → AliasRow → Bool
agree links a b = are_linked links a.alias b.alias && all_fit links a b

-- whether a chain of links leads from an alias to another, over these aliases
abbrev pub IsPath : List Link → ℕ → List ℕ → ℕ → Type 0
IsPath links i [] j = i ≡ j
IsPath links i (k ∷ path) j = (are_linked links i k ≡ true) × IsPath links k path j

-- each link is between two of so many aliases
abbrev pub AreWithin : ℕ → List Link → Type 0
AreWithin n links = AllByRecursion (λ link. (link.left.alias < n) × (link.right.alias < n)) links

-- a tuple that a condition keeps agrees in these links: it has the same value in both columns of each
abbrev pub AgreesIn : List Link → Tuple → Type 0
AgreesIn links tuple = AllByRecursion (λ link. value_at tuple link.left ≡ value_at tuple link.right) links

-- ---- changed rows
-- whether a row is among those that go or those that come
abbrev pub is_changed : Part → List Value → Bool
is_changed p row = has_row row p.minus || has_row row p.plus

-- whether a row stands for an alias before a step or after it
abbrev pub is_present : Part → List Value → Bool
is_present p row = has_row row p.old || has_row row p.plus

-- rows of each part, alias by alias; the aliases count from i
abbrev pub rows_from : (Part → List (List Value)) → ℕ → List Part → List AliasRow
rows_from pick i [] = []
rows_from pick i (p ∷ parts) = map (of_alias i) (pick p) ++ rows_from pick (suc i) parts

-- the rows that change, and those before the step
abbrev pub changed_rows : List Part → List AliasRow
changed_rows parts = rows_from (λ p. p.minus ++ p.plus) 0 parts

abbrev pub old_rows : List Part → List AliasRow
old_rows parts = rows_from (λ p. p.old) 0 parts

-- whether two are the same row of the same alias
abbrev pub alike : AliasRow → AliasRow → Bool
alike a b = (a.alias == b.alias) && row_eq a.row b.row

-- whether a row of an alias is among these
abbrev pub has_alias_row : AliasRow → List AliasRow → Bool
has_alias_row a rows = list_any (alike a) rows

-- whether each row of a tuple is present
abbrev pub IsOver : List Part → Tuple → Type 0
IsOver parts tuple = AllZip (λ p row. is_present p row ≡ true) parts tuple

-- whether a tuple has a changed row
abbrev pub has_change : List Part → Tuple → Bool
has_change [] tuple = false
has_change (p ∷ parts) [] = false
has_change (p ∷ parts) (row ∷ tuple) = is_changed p row || has_change parts tuple

-- the tuples without one
abbrev pub unchanged : List Part → List Tuple → List Tuple
unchanged parts tuples = filter (λ tuple. not (has_change parts tuple)) tuples

-- ---- near and far
-- Whether a chain of rows leads to a row: the row is a changed one where the chain is at its end; else it stands before
-- the step and agrees with the next row of the chain, and the rest leads to that one.
abbrev pub Leads : List Link → List Part → List AliasRow → AliasRow → Type 0
Leads links parts [] to = is_changed (part_at parts to.alias) to.row ≡ true
Leads links parts (from ∷ chain) to =
    (has_row to.row (part_at parts to.alias).old ≡ true) × (agree links from to ≡ true) × Leads links parts chain from

-- a near row: some chain leads to it
abbrev pub IsNear : List Link → List Part → AliasRow → Type 0
IsNear links parts to = (chain : List AliasRow) × Leads links parts chain to

-- a far alias: another one has a changed row, and no chain of links leads from there
pub record IsFar (links : List Link) (parts : List Part) (j : ℕ) : Type 0 where
  pub from : AliasRow
  pub changed : is_changed (part_at parts from.alias) from.row ≡ true
  pub apart : (path : List ℕ) → IsPath links from.alias path j → ⊥

-- ---- smaller inputs
-- the same changes, with these rows before the step; the aliases count from i
abbrev pub with_old_from : (ℕ → List (List Value)) → ℕ → List Part → List Part
with_old_from rows i [] = []
with_old_from rows i (p ∷ parts) = record { old = rows i; minus = p.minus; plus = p.plus } ∷ with_old_from rows (suc i) parts

abbrev pub with_old : (ℕ → List (List Value)) → List Part → List Part
with_old rows parts = with_old_from rows 0 parts

-- the part of an alias with those of the old rows alone that are to be kept
abbrev pub cut_part : (AliasRow → Bool) → ℕ → Part → Part
cut_part keep i p = record { old = filter (λ row. keep (of_alias i row)) p.old; minus = p.minus; plus = p.plus }

-- the parts so; the aliases count from i
abbrev pub cut_from : (AliasRow → Bool) → ℕ → List Part → List Part
cut_from keep i [] = []
cut_from keep i (p ∷ parts) = cut_part keep i p ∷ cut_from keep (suc i) parts

abbrev pub cut : (AliasRow → Bool) → List Part → List Part
cut keep parts = cut_from keep 0 parts

-- what keeps the reach of a change: each near row, and each row of a far alias
pub record KeepsReach (links : List Link) (parts : List Part) (keep : AliasRow → Bool) : Type 0 where
  pub near : (a : AliasRow) → IsNear links parts a → keep a ≡ true
  pub far : (a : AliasRow) → IsFar links parts a.alias → keep a ≡ true

-- what keeps the reach and no more: each row that it keeps is near, or of a far alias
pub record IsReachOf (links : List Link) (parts small : List Part) : Type 0 where
  pub keep : AliasRow → Bool
  pub keeps : KeepsReach links parts keep
  pub only : (a : AliasRow) → a.alias < length parts → keep a ≡ true → IsNear links parts a ⊎ IsFar links parts a.alias
  pub cut_is : small ≡ cut keep parts

-- whether a row is among the near ones, or its alias is far by these flags, one for each alias
abbrev pub kept_by : List AliasRow → List Bool → AliasRow → Bool
kept_by near far a = slice_index_or far a.alias true || has_alias_row a near
