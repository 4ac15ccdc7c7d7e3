-- Lists of columns that are the rows of one alias as they stand.
use Rattle.std.specs.Prelude.{ℕ, suc, Bool, true, ◌&&◌, ◌==◌, List, [], ◌∷◌}
use Rattle.lv_values.specs.declared.value.Value.{Value}
use Rattle.lv_schema.specs.declared.cond.Col.{Col}
use Rattle.lv_schema.specs.Tuples.{Tuple}

-- whether columns are those of the first alias from a place on, one after another
abbrev pub whole_from : ℕ → List Col → Bool
whole_from i [] = true
whole_from i (col ∷ cols) = (col.alias == 0) && ((col.column == i) && whole_from (suc i) cols)

-- the tuple of a row alone
abbrev pub alone : List Value → Tuple
alone row = row ∷ []
