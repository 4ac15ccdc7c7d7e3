-- A row of another length than its table fits no columns.
use Rattle.std.proofs.Common.{◌≡◌, suc, Bool, true, false, ◌&&◌, List, [], ◌∷◌, length, refl, ap, ◌∙◌}
use Rattle.lv_values.specs.declared.value.Value.{Value}
use Rattle.lv_schema.specs.declared.table.Column.{Column}
use Rattle.lv_schema.specs.Databases.{row_fits, value_fits}

pub row_short : (cs : List Column) (vs : List Value) → (length cs ≡ length vs → ⊥) → row_fits cs vs ≡ false
row_short [] [] ne = absurd (ne refl)
row_short [] (v ∷ vs) ne = refl
row_short (c ∷ cs) [] ne = refl
row_short (c ∷ cs) (v ∷ vs) ne = ap (λ b. value_fits c.kind v && b) (row_short cs vs (λ e. ne (ap suc e))) ∙ by (value_fits c.kind v)
  where
    by : (b : Bool) → (b && false) ≡ false
    by true = refl
    by false = refl
