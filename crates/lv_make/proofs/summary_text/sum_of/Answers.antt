use Rattle.std.proofs.Common.{◌+ℤ◌, sym, ap, ◌∙◌}
use Rattle.std.proofs.lemmas.Int.{to_z-of_z}
use Rattle.std.specs.Int.{int_wrap, w128}
use Rattle.lv_make.specs.Summary.{row_sum}
use Rattle.lv_make.proofs.Sums.{wrapped_wrapped_more}
use Rattle.lv_make.proofs.summary_text.sum_of.Goals as goal

pub loop-row-preserved : goal.loop-row-preserved
loop-row-preserved c =
    let read = to_z-of_z w128 c.row_sum.result (record { sfits = c.row_sum.type_inv }) ∙ c.row_sum.ensures ∙ ap (λ row. int_wrap w128 (row_sum row)) c.as_slice.ensures in
    wrapped_wrapped_more row_sum c.args.rows.now c.loop-row.row-index c.row-item.result c.loop-row.sum _ c.loop-row-test.true c.row-item.is
    (sym c.loop-row.sum-is ∙ c.loop-row.invariant)
    (to_z-of_z w128 c.wrapped_sum-sum.result (record { sfits = c.wrapped_sum-sum.type_inv })
    ∙ c.wrapped_sum-sum.ensures
    ∙ λ i. int_wrap w128 (c.loop-row.sum-is i +ℤ read i))
