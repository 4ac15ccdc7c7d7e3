-- The writes of a transaction, and what they make of the rows below them.
use Rattle.std.specs.Prelude.{◌≡◌, ℕ, ◌==◌, Bool, true, not, ◌||◌, cond, List, [], ◌∷◌, ◌++◌, map, Option, Some, None, unwrap_or}
use Rattle.std.specs.List.{filter_map, list_all}
use Rattle.lv_values.specs.declared.value.Value.{Value}
use Rattle.lv_values.specs.Order.{row_cmp, row_eq}
use Rattle.lv_values.specs.Rows.{values_at, key_cmp}
use Rattle.lv_schema.specs.declared.action.Action.{Action}
use Rattle.lv_schema.specs.declared.table.TableDef.{TableDef}
use Rattle.lv_schema.specs.Commits.{Place, same_place}
use Rattle.lv_schema.specs.Keys.{row_at, carried}
use Rattle.lv_schema.specs.Once.{Ascends, once}
use Rattle.lv_overlay.specs.declared.put.Put.{Put}

-- what the writes left at a place, if one of them is there
abbrev pub put_at : List Put → Place → Option (Option (List Value))
put_at [] p = None
put_at (q ∷ puts) p = cond (same_place p (q.table, q.key)) (Some q.row) (put_at puts p)

-- the row at a place over what stands below
abbrev pub over : List Put → Place → Option (List Value) → Option (List Value)
over puts p below = unwrap_or (put_at puts p) below

-- one more write: its place has its row, and every other place is as it was
abbrev pub PutIs : Put → List Put → List Put → Type 0
PutIs q old new = (p : Place) → put_at new p ≡ cond (same_place p (q.table, q.key)) (Some q.row) (put_at old p)

-- the keys of a table that are written
abbrev pub put_keys : List Put → ℕ → List (List Value)
put_keys [] t = []
put_keys (q ∷ puts) t = cond (t == q.table) (q.key ∷ put_keys puts t) (put_keys puts t)

-- a table's rows with the writes over them: for each key of a row or of a write, in their order, the row that is there
-- then
abbrev pub rows_over : List ℕ → List Put → ℕ → List (List Value) → List (List Value)
rows_over key puts t rows = filter_map (λ k. over puts (t, k) (row_at key k rows)) (once row_cmp (map (values_at key) rows ++ put_keys puts t))

-- whether what was put at a key stands under it: no row, or one with that key
abbrev pub row_stands : List ℕ → List Value → Option (List Value) → Bool
row_stands key k None = true
row_stands key k (Some row) = row_eq (values_at key row) k

-- whether a write, if it is on the table, put a row that stands under its key
abbrev pub stands_under : List ℕ → ℕ → Put → Bool
stands_under key t q = not (t == q.table) || row_stands key q.key q.row

abbrev pub StandUnder : List ℕ → ℕ → List Put → Type 0
StandUnder key t puts = list_all (stands_under key t) puts ≡ true

-- writes take actions: what stands at a place is then what the last of them on it leaves
abbrev pub PutsTake : List TableDef → List Action → List Put → List Put → Type 0
PutsTake tables actions old new = (p : Place) (below : Option (List Value)) → over new p below ≡ carried tables p (over old p below) actions

-- rows of a transaction's own: those below with its writes over them
pub record AreOwnRows (key : List ℕ) (puts : List Put) (t : ℕ) (below rows : List (List Value)) : Type 0 where
  pub ascend : Ascends (key_cmp key) rows
  pub each : (k : List Value) → row_at key k rows ≡ over puts (t, k) (row_at key k below)
