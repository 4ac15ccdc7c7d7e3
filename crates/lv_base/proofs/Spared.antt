-- What actions make of a table that none of them is on.
use Rattle.std.proofs.Common.{◌≡◌, ℕ, ◌==◌, Bool, true, false, List, [], ◌∷◌, refl, sym, ap, ◌∙◌, arith}
use Rattle.std.specs.Prelude.{cond, ◌||◌}
use Rattle.std.specs.List.{filter_map}
use Rattle.std.proofs.lemmas.Bool.Decides.{nat_tests}
use Rattle.lv_values.specs.Order.{row_cmp}
use Rattle.lv_values.specs.Rows.{values_at}
use Rattle.lv_schema.specs.Condensed.{condensed, first_found, last_left, unless, written_keys}
use Rattle.lv_schema.specs.Keys.{writes_table}
use Rattle.lv_schema.specs.Once.{once}
use Rattle.lv_schema.specs.World.{table_at}
use Rattle.lv_schema.specs.declared.action.Action.{Action}
use Rattle.lv_schema.specs.declared.table.TableDef.{TableDef}
use Rattle.lv_stands.specs.Moves.{no_net}

other_way : (m n : ℕ) → (m == n) ≡ false → (n == m) ≡ false
other_way m n e = grind (arith, nat_tests)

none_written : (tables : List TableDef) (actions : List Action) (t : ℕ) → writes_table actions t ≡ false → written_keys tables actions t ≡ []
none_written tables [] t e = refl
none_written tables (a ∷ actions) t e = by (a.table == t) refl e (λ h. none_written tables actions t h)
  where
    by : (b : Bool) → (a.table == t) ≡ b → (b || writes_table actions t) ≡ false → (writes_table actions t ≡ false → written_keys tables actions t ≡ []) → written_keys tables (a ∷ actions) t ≡ []
    by true is h rest = cc
    by false is h rest = ap (λ c. cond c (values_at (table_at tables t).key a.row ∷ written_keys tables actions t) (written_keys tables actions t)) (other_way a.table t is) ∙ rest h

pub none_condensed : (tables : List TableDef) (actions : List Action) (t : ℕ) → writes_table actions t ≡ false → no_net ≡ condensed tables actions t
none_condensed tables actions t e =
    ap (λ keys. record {
      minus = filter_map (λ k. unless (first_found tables actions (t, k)) (last_left tables actions (t, k))) (once row_cmp keys);
      plus = filter_map (λ k. unless (last_left tables actions (t, k)) (first_found tables actions (t, k))) (once row_cmp keys);
    }) (sym (none_written tables actions t e))
