-- Worked examples of views, computed from the definitions alone: items with prices, and sales of items.
use Rattle.std.proofs.Common.{◌≡◌, ℕ, ℤ, pos, negsuc, Bool, true, false, List, [], ◌∷◌, ◌++◌, map, refl, ap, ◌∙◌}
use Rattle.std.specs.Prelude.{codes, filter}
use Rattle.std.specs.Int.{int_wrap}
use Rattle.lv_values.specs.declared.value.Value.{Value}
use Rattle.lv_values.specs.declared.value.Value.TheVariants.{Num}
use Rattle.lv_schema.specs.declared.cond.Col.{Col}
use Rattle.lv_schema.specs.declared.cond.Cond.TheVariants.{Cmp, Not}
use Rattle.lv_schema.specs.declared.cond.Op.{Op}
use Rattle.lv_schema.specs.declared.cond.Op.TheVariants.{Eq, Lt}
use Rattle.lv_schema.specs.declared.cond.Operand.{Operand}
use Rattle.lv_schema.specs.declared.cond.Operand.TheVariants.{Column, Number}
use Rattle.lv_schema.specs.declared.query.Query.{Query}
use Rattle.lv_schema.specs.declared.query.Rel.TheVariants.{Table}
use Rattle.lv_schema.specs.declared.signed.SignedRow.{SignedRow}
use Rattle.lv_schema.specs.declared.view.Item.TheVariants.{Plain, Sum, Count}
use Rattle.lv_schema.specs.declared.view.ViewDef.{ViewDef}
use Rattle.lv_values.specs.Ascending.{ascending}
use Rattle.lv_values.specs.Order.{row_cmp}
use Rattle.lv_schema.specs.AnswerOrder.{sorted_cmp}
use Rattle.lv_schema.specs.Answers.{sorted_row, answer_over}
use Rattle.lv_schema.specs.Differences.{key_of, change_of, changes, difference}
use Rattle.lv_schema.specs.Groups.{grouped_rows, group_row}
use Rattle.lv_schema.specs.Once.{once}
use Rattle.lv_schema.specs.Tuples.{Tuple, tuples, listed}
use Rattle.lv_schema.specs.Truth.{operand_value, compared, opposite, is_yes, holds}
use Rattle.lv_schema.proofs.TruthLaws.{truth-Cmp, truth-Not}

abbrev pub ARow : Type 0
ARow = List Value

abbrev pub n : ℕ → Value
n k = Num (pos k)

abbrev pub at : ℕ → ℕ → Col
at alias column = record { alias = alias; column = column }

-- a comparison keeps a tuple where its sides meet the sign
abbrev pub meets : Op → Operand → Operand → Tuple → Bool
meets op left right tuple = is_yes (compared op (operand_value tuple left) (operand_value tuple right))

pub holds-Cmp : (op : Op) (left right : Operand) → holds (Cmp op left right) ≡ meets op left right
holds-Cmp op left right = λ i tuple. is_yes (truth-Cmp op left right tuple i)

-- select x.no, y.no as other, y.qty from sale x, sale y where x.item = y.item
abbrev pub pairs : ViewDef
pairs = record {
  no = 0;
  name = codes "pairs";
  created = 0;
  tables = 0 ∷ 0 ∷ [];
  cond = Cmp Eq (Column (at 0 1)) (Column (at 1 1));
  items = Plain (at 0 0) (codes "no") ∷ Plain (at 1 0) (codes "other") ∷ Plain (at 1 2) (codes "qty") ∷ [];
  grouped = false;
  groups = [];
}

-- the difference of a view whose condition keeps these tuples
abbrev difference_by : ViewDef → (Tuple → Bool) → List (List ARow) → List (List ARow) → List SignedRow
difference_by view keeps before after = changes (change_of view (filter keeps (tuples before)) (filter keeps (tuples after))) (map (key_of view) (filter keeps (tuples before) ++ filter keeps (tuples after)))

abbrev change : ARow → ℤ → List ℤ → SignedRow
change row count sums = record { row = row; count = count; sums = sums }

-- sale 101 moves to another item: it is no longer paired with sale 100, on either side
abbrev sales : ℕ → List ARow
sales item = (n 100 ∷ n 1 ∷ n 5 ∷ []) ∷ (n 101 ∷ n item ∷ n 9 ∷ []) ∷ []

self_join_changes : difference pairs (sales 1 ∷ sales 1 ∷ []) (sales 2 ∷ sales 2 ∷ [])
    ≡ change (n 100 ∷ n 101 ∷ n 9 ∷ []) (negsuc 0) [] ∷ change (n 101 ∷ n 100 ∷ n 5 ∷ []) (negsuc 0) [] ∷ []
self_join_changes = ap (λ keeps. difference_by pairs keeps (sales 1 ∷ sales 1 ∷ []) (sales 2 ∷ sales 2 ∷ [])) (holds-Cmp Eq (Column (at 0 1)) (Column (at 1 1)))

-- select s.item, sum(s.qty) as total, count(*) as n from sale s group by s.item
abbrev per_item : ViewDef
per_item = record {
  no = 0;
  name = codes "per_item";
  created = 0;
  tables = 0 ∷ [];
  cond = Cmp Lt (Column (at 0 0)) (Number (pos 1000));
  items = Plain (at 0 1) (codes "item") ∷ Sum (at 0 2) (codes "total") ∷ Count (codes "n") ∷ [];
  grouped = true;
  groups = at 0 1 ∷ [];
}

abbrev grouped_by : ViewDef → (Tuple → Bool) → List (List ARow) → List ARow
grouped_by view keeps parts = let kept = filter keeps (tuples parts) in ascending row_cmp (map (group_row view kept) (once row_cmp (map (listed view.groups) kept)))

abbrev below_thousand : Tuple → Bool
below_thousand = meets Lt (Column (at 0 0)) (Number (pos 1000))

-- a sum is not bound to 64 bits: twice the greatest number of a column
abbrev wide_sales : List ARow
wide_sales = (n 100 ∷ n 1 ∷ n 9223372036854775807 ∷ []) ∷ (n 101 ∷ n 1 ∷ n 9223372036854775807 ∷ []) ∷ []

wide_sum : grouped_rows per_item (wide_sales ∷ []) ≡ (n 1 ∷ n 18446744073709551614 ∷ n 2 ∷ []) ∷ []
wide_sum = ap (λ keeps. grouped_by per_item keeps (wide_sales ∷ [])) (holds-Cmp Lt (Column (at 0 0)) (Number (pos 1000)))

-- a group goes with its last tuple, and comes back with a sum of 0
abbrev one_sale : ℕ → ℕ → List ARow
one_sale key qty = (n key ∷ n 1 ∷ n qty ∷ []) ∷ []

group_is_there : grouped_rows per_item (one_sale 100 5 ∷ []) ≡ (n 1 ∷ n 5 ∷ n 1 ∷ []) ∷ []
group_is_there = ap (λ keeps. grouped_by per_item keeps (one_sale 100 5 ∷ [])) (holds-Cmp Lt (Column (at 0 0)) (Number (pos 1000)))

group_is_gone : grouped_rows per_item ([] ∷ []) ≡ []
group_is_gone = refl

group_is_back : grouped_rows per_item (one_sale 101 0 ∷ []) ≡ (n 1 ∷ n 0 ∷ n 1 ∷ []) ∷ []
group_is_back = ap (λ keeps. grouped_by per_item keeps (one_sale 101 0 ∷ [])) (holds-Cmp Lt (Column (at 0 0)) (Number (pos 1000)))

-- its differences: first it loses a tuple and 5, then it gains a tuple and 0
group_goes : difference per_item (one_sale 100 5 ∷ []) ([] ∷ []) ≡ change (n 1 ∷ []) (negsuc 0) (negsuc 4 ∷ []) ∷ []
unfolding int_wrap
group_goes = ap (λ keeps. difference_by per_item keeps (one_sale 100 5 ∷ []) ([] ∷ [])) (holds-Cmp Lt (Column (at 0 0)) (Number (pos 1000)))

group_comes : difference per_item ([] ∷ []) (one_sale 101 0 ∷ []) ≡ change (n 1 ∷ []) (pos 1) (pos 0 ∷ []) ∷ []
unfolding int_wrap
group_comes = ap (λ keeps. difference_by per_item keeps ([] ∷ []) (one_sale 101 0 ∷ [])) (holds-Cmp Lt (Column (at 0 0)) (Number (pos 1000)))

-- select id, price from item where not (price < 10) order by price desc: ties by the listed row
abbrev items : List ARow
items = (n 1 ∷ n 10 ∷ []) ∷ (n 2 ∷ n 10 ∷ []) ∷ (n 3 ∷ n 15 ∷ []) ∷ (n 4 ∷ n 5 ∷ []) ∷ []

abbrev dear : Query
dear = record { rels = Table 0 ∷ []; cond = Not (Cmp Lt (Column (at 0 1)) (Number (pos 10))); list = at 0 0 ∷ at 0 1 ∷ []; order = record { col = at 0 1; descending = true } ∷ [] }

abbrev answer_by : Query → (Tuple → Bool) → List (List ARow) → List ARow
answer_by query keeps parts = map (λ r. r.row) (ascending sorted_cmp (map (sorted_row query) (filter keeps (tuples parts))))

abbrev misses : Op → Operand → Operand → Tuple → Bool
misses op left right tuple = is_yes (opposite (compared op (operand_value tuple left) (operand_value tuple right)))

holds-Not-Cmp : (op : Op) (left right : Operand) → holds (Not (Cmp op left right)) ≡ misses op left right
holds-Not-Cmp op left right = λ i tuple. is_yes ((truth-Not (Cmp op left right) tuple ∙ ap opposite (truth-Cmp op left right tuple)) i)

order_with_ties : answer_over dear (items ∷ []) ≡ (n 3 ∷ n 15 ∷ []) ∷ (n 1 ∷ n 10 ∷ []) ∷ (n 2 ∷ n 10 ∷ []) ∷ []
order_with_ties = ap (λ keeps. answer_by dear keeps (items ∷ [])) (holds-Not-Cmp Lt (Column (at 0 1)) (Number (pos 10)))
