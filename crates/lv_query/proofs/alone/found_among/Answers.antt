use Rattle.std.proofs.Common.{◌≡◌, ◌++◌, ◌∷◌, [], true, false, ap, sym, ◌∙◌}
use Rattle.lv_schema.specs.declared.directed.SortedRow.{SortedRow}
use Rattle.lv_schema.specs.Answers.{sorted_row}
use Rattle.lv_schema.specs.Truth.{holds}
use Rattle.lv_query.specs.Whole.{alone}
use Rattle.lv_query.proofs.WholeRows.{kept_more, left_more}
use Rattle.lv_query.proofs.alone.found_among.Goals as goal

pub loop-row-preserved-in_ok-push : goal.loop-row-preserved-in_ok-push
loop-row-preserved-in_ok-push c =
    let query = c.args.query.now in
    let row = c.in-Some.row in
    let keeps : holds query.cond (alone row) ≡ true = ap (holds query.cond) (sym c.from_ref.ensures.value) ∙ sym c.holds.ensures ∙ c.if-holds.true in
    c.in_ok-push.ensures.added
    ∙ ap (λ (s : SortedRow). c.loop-row.found ++ s ∷ []) c.in_ok-sorted_row.ensures
    ∙ (λ i. c.loop-row.invariant i ++ sorted_row query (alone row) ∷ [])
    ∙ sym (kept_more query query.cond c.loop-row.yielded row keeps)

pub loop-row-preserved : goal.loop-row-preserved
loop-row-preserved c =
    let query = c.args.query.now in
    let row = c.in-Some.row in
    let leaves : holds query.cond (alone row) ≡ false = ap (holds query.cond) (sym c.from_ref.ensures.value) ∙ sym c.holds.ensures ∙ c.if-holds.false in
    c.loop-row.invariant ∙ sym (left_more query query.cond c.loop-row.yielded row leaves)
