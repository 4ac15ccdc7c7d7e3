use Rattle.std.proofs.Common.{◌≡◌, List, true, sym, subst}
use Rattle.lv_values.specs.declared.value.Value.{Value}
use Rattle.lv_values.specs.Order.{row_eq}
use Rattle.lv_schema.specs.Groups.{view_rows_over}
use Rattle.lv_schema.specs.Once.{are_apart}
use Rattle.lv_made.proofs.Distinct.{ascends_distinct}
use Rattle.lv_made.proofs.views.join_view.Goals as goal

pub new-requires-clause-distinct : goal.new-requires-clause-distinct
new-requires-clause-distinct c = subst (λ (rows : List (List Value)). are_apart row_eq rows ≡ true) (sym c.in_ok-rows.ensures) (ascends_distinct (view_rows_over c.args.def c.args.parts.now) c.requires.distinct)
