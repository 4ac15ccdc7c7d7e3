-- Rows that ascend are distinct.
use Rattle.std.proofs.Common.{◌≡◌, true, false, not, ◌&&◌, List, [], ◌∷◌, refl, ◌∙◌}
use Rattle.std.specs.Prelude.{◌||◌}
use Rattle.std.specs.List.{AllByRecursion, list_any}
use Rattle.std.specs.Ordering.{is_eq}
use Rattle.std.specs.declared.cmp.Ordering.TheVariants.{Less}
use Rattle.lv_values.specs.declared.value.Value.{Value}
use Rattle.lv_values.specs.Order.{row_cmp, row_eq}
use Rattle.lv_schema.specs.Once.{Ascends, are_apart}

none_same : (row : List Value) (rows : List (List Value)) → AllByRecursion (λ other. row_cmp row other ≡ Less) rows → list_any (row_eq row) rows ≡ false
none_same row [] a = refl
none_same row (other ∷ rows) a = (λ i. is_eq (a.0 i) || list_any (row_eq row) rows) ∙ none_same row rows a.1

pub ascends_distinct : (rows : List (List Value)) → Ascends row_cmp rows → are_apart row_eq rows ≡ true
ascends_distinct [] a = refl
ascends_distinct (row ∷ rows) a = (λ i. not (none_same row rows a.0 i) && are_apart row_eq rows) ∙ ascends_distinct rows a.1
