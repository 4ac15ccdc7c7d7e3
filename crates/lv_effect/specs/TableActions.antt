-- The actions of a DELETE and of an UPDATE on a table's rows.
use Rattle.std.specs.Prelude.{ℕ, List, [], ◌∷◌, map}
use Rattle.std.specs.List.{flat_map}
use Rattle.lv_values.specs.declared.value.Value.{Value}
use Rattle.lv_schema.specs.declared.action.Action.{Action}
use Rattle.lv_schema.specs.declared.change.Set.{Set}
use Rattle.lv_schema.specs.declared.cond.Cond.{Cond}
use Rattle.lv_schema.specs.Effects.{matching, inserts, deletes, updated}

abbrev pub delete_actions : ℕ → Cond → List (List Value) → List Action
delete_actions table c rows = map (deletes table) (matching c rows)

-- the actions on one row that an UPDATE keeps
abbrev pub replaces : ℕ → List Set → List Value → List Action
replaces table sets row = deletes table row ∷ inserts table (updated sets row) ∷ []

abbrev pub update_actions : ℕ → List Set → Cond → List (List Value) → List Action
update_actions table sets c rows = flat_map (replaces table sets) (matching c rows)
