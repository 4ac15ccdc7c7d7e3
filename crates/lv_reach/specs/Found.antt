-- Near rows behind the old rows of the parts of their aliases.
use Rattle.std.specs.Prelude.{ℕ, suc, ◌==◌, cond, List, [], ◌∷◌, ◌++◌}
use Rattle.lv_values.specs.declared.value.Value.{Value}
use Rattle.lv_schema.specs.declared.part.Part.{Part}
use Rattle.lv_reach.specs.declared.rows.AliasRow.{AliasRow}

-- the rows of an alias among others
abbrev pub rows_of_alias : ℕ → List AliasRow → List (List Value)
rows_of_alias alias [] = []
rows_of_alias alias (a ∷ rows) = cond (alias == a.alias) (a.row ∷ rows_of_alias alias rows) (rows_of_alias alias rows)

-- a part with more old rows behind the others
abbrev pub with_more : Part → List (List Value) → Part
with_more p rows = record { old = p.old ++ rows; minus = p.minus; plus = p.plus }

-- the parts with rows behind the old ones of their aliases; the aliases count from i
abbrev pub with_found : ℕ → List Part → List AliasRow → List Part
with_found i [] rows = []
with_found i (p ∷ parts) rows = with_more p (rows_of_alias i rows) ∷ with_found (suc i) parts rows
