use Rattle.std.proofs.Common.{◌≡◌, ℕ, Bool, true, false, not, ◌&&◌, List, [], ◌∷◌, map, refl, ap, ◌∙◌, arith}
use Rattle.std.specs.Prelude.{◌==◌, ◌||◌}
use Rattle.std.proofs.lemmas.Bool.Decides.{nat_tests}
use Rattle.lv_values.specs.declared.value.Value.{Value}
use Rattle.lv_values.specs.Rows.{values_at}
use Rattle.lv_schema.specs.declared.action.Action.{Action}
use Rattle.lv_schema.specs.declared.action.ActionKind.{ActionKind}
use Rattle.lv_schema.specs.declared.action.ActionKind.TheVariants.{Insert, Delete}
use Rattle.lv_schema.specs.declared.table.TableDef.{TableDef}
use Rattle.lv_schema.specs.Keys.{left_by}
use Rattle.lv_schema.specs.World.{table_at}
use Rattle.lv_schema.proofs.NetsLead.{row_itself}
use Rattle.lv_overlay.specs.Puts.{row_stands, stands_under, StandUnder}
use Rattle.lv_txn.specs.Written.{put_of}
use Rattle.lv_txn.proofs.laws.written_rows_stand_under_their_keys.Goals as goal

same_number : (x y : ℕ) → (x == y) ≡ true → x ≡ y
same_number x y e = grind (arith, nat_tests)

both : (a b : Bool) → a ≡ true → b ≡ true → (a && b) ≡ true
both true b e f = f
both false b e f = cc

row_at_key : (key : List ℕ) (k : ActionKind) (row : List Value) → row_stands key (values_at key row) (left_by k row) ≡ true
row_at_key key Insert row = row_itself (values_at key row)
row_at_key key Delete row = refl

one : (tables : List TableDef) (a : Action) (t : ℕ) → stands_under (table_at tables t).key t (put_of tables a) ≡ true
one tables a t = by (t == a.table) refl
  where
    by : (b : Bool) → (t == a.table) ≡ b → (not b || row_stands (table_at tables t).key (values_at (table_at tables a.table).key a.row) (left_by a.kind a.row)) ≡ true
    by true e = ap (λ u. row_stands (table_at tables u).key (values_at (table_at tables a.table).key a.row) (left_by a.kind a.row)) (same_number t a.table e) ∙ row_at_key (table_at tables a.table).key a.kind a.row
    by false e = refl

each : (tables : List TableDef) (actions : List Action) (t : ℕ) → StandUnder (table_at tables t).key t (map (put_of tables) actions)
each tables [] t = refl
each tables (a ∷ actions) t = both (stands_under (table_at tables t).key t (put_of tables a)) _ (one tables a t) (each tables actions t)

pub returns : goal.returns
returns c = each
