-- A change has the same effect on the part of the rows that it tries.
use Rattle.std.proofs.Common.{◌≡◌, ℕ, List, [], ◌∷◌, length, map, sym, ap, ◌∙◌, subst}
use Rattle.std.specs.Prelude.{None, Result}
use Rattle.std.specs.List.{flat_map}
use Rattle.lv_values.specs.declared.value.Value.{Value}
use Rattle.lv_schema.specs.declared.action.Action.{Action}
use Rattle.lv_schema.specs.declared.change.Change.{Change}
use Rattle.lv_schema.specs.declared.change.Change.TheVariants.{Update, Delete}
use Rattle.lv_schema.specs.declared.change.Set.{Set}
use Rattle.lv_schema.specs.declared.cond.Cond.{Cond}
use Rattle.lv_schema.specs.declared.fault.Fault.{Fault}
use Rattle.lv_schema.specs.declared.fault.Fault.TheVariants.{Range}
use Rattle.lv_schema.specs.declared.table.TableDef.{TableDef}
use Rattle.lv_schema.specs.Effects.{Effect, deletes, effect_on, first_wide, inserts, matching, ok_unless, option_fault, updated}
use Rattle.lv_effect.specs.declared.fault.EffectFault.{EffectFault}
use Rattle.lv_effect.specs.Answered.{GivesEffect}

-- the effect of an UPDATE, and of a DELETE, by the rows that the condition keeps
abbrev update_of : ℕ → List Set → List (List Value) → Result Effect Fault
update_of table sets kept =
    ok_unless (option_fault Range (first_wide sets kept)) (record { count = length kept; actions = flat_map (λ row. deletes table row ∷ inserts table (updated sets row) ∷ []) kept })

abbrev delete_of : ℕ → List (List Value) → Result Effect Fault
delete_of table kept = ok_unless None (record { count = length kept; actions = map (deletes table) kept })

pub update_tried : (def : TableDef) (change : Change) (table : ℕ) (sets seen : List Set) (c : Cond) (tried rows : List (List Value)) (r : Result (ℕ × List Action) EffectFault)
    → change ≡ Update table sets c → seen ≡ sets → matching c tried ≡ matching c rows → GivesEffect r (effect_on def (Update table seen c) tried)
    → GivesEffect r (effect_on def change rows)
update_tried def change table sets seen c tried rows r is same all given =
    subst (GivesEffect r) (
    ap (λ s. effect_on def (Update table s c) tried) same ∙ ap (update_of table sets) all ∙ ap (λ ch. effect_on def ch rows) (sym is)
    ) given

pub delete_tried : (def : TableDef) (change : Change) (table : ℕ) (c : Cond) (tried rows : List (List Value)) (r : Result (ℕ × List Action) EffectFault)
    → change ≡ Delete table c → matching c tried ≡ matching c rows → GivesEffect r (effect_on def (Delete table c) tried) → GivesEffect r (effect_on def change rows)
delete_tried def change table c tried rows r is all given =
    subst (GivesEffect r) (ap (delete_of table) all ∙ ap (λ ch. effect_on def ch rows) (sym is)) given
