-- Rows of a view of one table, one entry for each that the condition keeps.
use Rattle.std.specs.Prelude.{List, [], ◌∷◌, map, filter}
use Rattle.lv_values.specs.declared.value.Value.{Value}
use Rattle.lv_schema.specs.declared.cond.Col.{Col}
use Rattle.lv_schema.specs.declared.cond.Cond.{Cond}
use Rattle.lv_schema.specs.declared.signed.SignedRow.{SignedRow}
use Rattle.lv_schema.specs.Truth.{holds}
use Rattle.lv_bags.specs.Bags.{negated}
use Rattle.lv_maint.specs.Terms.{entry_of}

module _ (keys sums : List Col) (cond : Cond) where
  -- the entries of rows that come, and of rows that go
  abbrev pub came : List (List Value) → List SignedRow
  came rows = map (entry_of keys sums) (filter (holds cond) (map (λ row. row ∷ []) rows))

  abbrev pub went : List (List Value) → List SignedRow
  went rows = map negated (came rows)
