-- What a call says of the effect of a change.
use Rattle.std.specs.Prelude.{◌≡◌, ℕ, ◌+◌, Bool, cond, nat_lt, List, length, Option, Some, None, Result, Ok, Err}
use Rattle.lv_values.specs.declared.value.Value.{Value}
use Rattle.lv_schema.specs.declared.action.Action.{Action}
use Rattle.lv_schema.specs.declared.change.Change.{Change}
use Rattle.lv_schema.specs.declared.change.Change.TheVariants.{Insert, Update, Delete}
use Rattle.lv_schema.specs.declared.cond.Cond.{Cond}
use Rattle.lv_schema.specs.declared.fault.Fault.{Fault}
use Rattle.lv_schema.specs.declared.fault.Fault.TheVariants.{Duplicate, TableFull}
use Rattle.lv_schema.specs.declared.table.TableDef.{TableDef}
use Rattle.lv_schema.specs.Effects.{Effect, first_fault, option_fault, fault_where, first_taken}
use Rattle.lv_effect.specs.Bounds.{rows_bounded}
use Rattle.lv_effect.specs.FixedKeys.{says_key}
use Rattle.lv_effect.specs.declared.fault.EffectFault.{EffectFault}
use Rattle.lv_effect.specs.declared.fault.EffectFault.TheVariants.{Stmt, NoMemory}

-- the number of rows and the actions, or the fault; want of memory says nothing
abbrev pub GivesEffect : Result (ℕ × List Action) EffectFault → Result Effect Fault → Type 0
GivesEffect (Ok e) effect = effect ≡ Ok (record { count = e.0; actions = e.1 })
GivesEffect (Err (Stmt fault)) effect = effect ≡ Err fault
GivesEffect (Err NoMemory) effect = Unit {0}

-- why an INSERT is refused
abbrev pub insert_fault : ℕ → TableDef → List (List Value) → List (List Value) → Option Fault
insert_fault table def new rows =
    first_fault (option_fault (Duplicate table) (first_taken def.key rows new)) (fault_where (nat_lt 65535 (length rows + length new)) (TableFull table))

-- whether so many more rows could be too many for a table, where so many things that are known of it were rows
abbrev pub could_fill : ℕ → ℕ → Bool
could_fill known more = nat_lt 65535 (known + more)

-- how many base rows a change reads at most, of a table of which so much is known and which has so many rows: an INSERT
-- one for each new row, and all only where the table could be full; an UPDATE or DELETE one where its condition fixes
-- the key
abbrev pub most_steps : List ℕ → Change → ℕ → ℕ → ℕ
most_steps key (Insert table new) known rows = length new + cond (could_fill known (length new)) rows 0
most_steps key (Update table sets c) known rows = cond (says_key c key) 1 rows
most_steps key (Delete table c) known rows = cond (says_key c key) 1 rows

-- and how many of these rows at most: an UPDATE or DELETE whose condition does not fix the key reads those whose first key
-- column is between the values by which the condition bounds it
abbrev pub most_within : List ℕ → Change → ℕ → List (List Value) → ℕ
most_within key (Insert table new) known rows = most_steps key (Insert table new) known (length rows)
most_within key (Update table sets c) known rows = cond (says_key c key) 1 (length (rows_bounded c key rows))
most_within key (Delete table c) known rows = cond (says_key c key) 1 (length (rows_bounded c key rows))

-- the condition of an UPDATE or DELETE
abbrev pub condition_of : Change → Option Cond
condition_of (Insert table new) = None
condition_of (Update table sets c) = Some c
condition_of (Delete table c) = Some c
