use Rattle.std.proofs.Common.{◌≡◌, List, map, subst}
use Rattle.std.specs.Prelude.{IfOk}
use Rattle.lv_values.specs.declared.value.Value.{Value}
use Rattle.lv_values.specs.Ascending.{ascending}
use Rattle.lv_schema.specs.AnswerOrder.{sorted_cmp}
use Rattle.lv_schema.specs.Answers.{sorted_row}
use Rattle.lv_store.proofs.store.Store.answer_with.Goals as goal

pub returns-clause-rows : goal.returns-clause-rows
returns-clause-rows g c = λ floor last take.
    subst (λ tuples. IfOk c.answer.result (λ (rows : List (List Value)). rows ≡ map (λ r. r.row) (ascending sorted_cmp (map (sorted_row c.args.query.now) tuples))))
    (c.in_ok-parts.ensures.parts floor last take) c.answer.ensures
