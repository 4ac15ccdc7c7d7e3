-- Worked examples, computed from the definitions alone: a join of sales with themselves that sums over one side.
use Rattle.std.proofs.Common.{◌≡◌, ℕ, pos, true, List, [], ◌∷◌, ◌++◌, sym, ap, ◌∙◌}
use Rattle.std.specs.Prelude.{codes}
use Rattle.lv_values.specs.declared.value.Value.{Value}
use Rattle.lv_values.specs.declared.value.Value.TheVariants.{Num}
use Rattle.lv_schema.specs.declared.cond.Col.{Col}
use Rattle.lv_schema.specs.declared.cond.Cond.TheFolds.{fold-roll-Cond}
use Rattle.lv_schema.specs.declared.cond.Cond.TheOpen.{Cond-F}
use Rattle.lv_schema.specs.declared.cond.Cond.TheVariants.{Cmp, rolls-Cmp}
use Rattle.lv_schema.specs.declared.cond.Op.{Op}
use Rattle.lv_schema.specs.declared.cond.Op.TheVariants.{Eq}
use Rattle.lv_schema.specs.declared.cond.Operand.{Operand}
use Rattle.lv_schema.specs.declared.cond.Operand.TheVariants.{Column}
use Rattle.lv_schema.specs.declared.part.Part.{Part}
use Rattle.lv_schema.specs.declared.view.Item.TheVariants.{Plain, Sum, Count}
use Rattle.lv_schema.specs.declared.view.ViewDef.{ViewDef}
use Rattle.lv_relevance.specs.Relevance.{operand_columns, columns_step, columns_of, used_columns, unchanged, told_from, told}

columns-Cmp : (op : Op) (left right : Operand) → columns_of (Cmp op left right) ≡ operand_columns left ++ operand_columns right
columns-Cmp op left right = ap columns_of (sym (rolls-Cmp op left right)) ∙ fold-roll-Cond (List Col) columns_step (Cond-F.Cmp op left right)

abbrev at : ℕ → ℕ → Col
at alias column = record { alias = alias; column = column }

-- select x.item, sum(y.qty) as total, count(*) as n from sale x, sale y where x.item = y.item group by x.item
abbrev per_item : ViewDef
per_item = record {
  no = 0;
  name = codes "per_item";
  created = 0;
  tables = 0 ∷ 0 ∷ [];
  cond = Cmp Eq (Column (at 0 1)) (Column (at 1 1));
  items = Plain (at 0 1) (codes "item") ∷ Sum (at 1 2) (codes "total") ∷ Count (codes "n") ∷ [];
  grouped = true;
  groups = at 0 1 ∷ [];
}

-- it uses the item of both sides, and the quantity of the second one
abbrev used : List Col
used = at 0 1 ∷ at 1 1 ∷ at 0 1 ∷ at 1 2 ∷ []

uses : used_columns per_item ≡ used
uses = ap (λ cols. cols ++ (at 0 1 ∷ at 1 2 ∷ [])) (columns-Cmp Eq (Column (at 0 1)) (Column (at 1 1)))

-- sale 101 of item 1 and quantity 9 becomes one of this item and quantity
abbrev sale : ℕ → ℕ → List Value
sale item qty = Num (pos 101) ∷ Num (pos item) ∷ Num (pos qty) ∷ []

abbrev becomes : ℕ → ℕ → Part
becomes item qty = record { old = sale 1 9 ∷ []; minus = sale 1 9 ∷ []; plus = sale item qty ∷ [] }

-- of another quantity the second side alone is told
other_quantity : told per_item (becomes 1 7 ∷ becomes 1 7 ∷ []) ≡ unchanged (becomes 1 7) ∷ becomes 1 7 ∷ []
other_quantity = ap (λ cols. told_from cols 0 (becomes 1 7 ∷ becomes 1 7 ∷ [])) uses

-- of another item both are
other_item : told per_item (becomes 2 9 ∷ becomes 2 9 ∷ []) ≡ becomes 2 9 ∷ becomes 2 9 ∷ []
other_item = ap (λ cols. told_from cols 0 (becomes 2 9 ∷ becomes 2 9 ∷ [])) uses
