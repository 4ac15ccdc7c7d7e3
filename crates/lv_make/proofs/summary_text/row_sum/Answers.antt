use Rattle.std.proofs.Common.{◌+ℤ◌, sym, ◌∙◌}
use Rattle.std.proofs.lemmas.Int.{to_z-of_z}
use Rattle.std.specs.Int.{int_wrap, w128}
use Rattle.lv_values.specs.Order.{number_of}
use Rattle.lv_make.proofs.Sums.{wrapped_more}
use Rattle.lv_make.proofs.summary_text.row_sum.Goals as goal

pub loop-value-preserved : goal.loop-value-preserved
loop-value-preserved c =
    let read = to_z-of_z w128 c.number_of.result (record { sfits = c.number_of.type_inv }) ∙ c.number_of.ensures in
    wrapped_more number_of c.args.row.now c.loop-value.value-index c.value-item.result c.loop-value.sum _ c.loop-value-test.true c.value-item.is
    (sym c.loop-value.sum-is ∙ c.loop-value.invariant)
    (to_z-of_z w128 c.wrapped_sum-sum.result (record { sfits = c.wrapped_sum-sum.type_inv })
    ∙ c.wrapped_sum-sum.ensures
    ∙ λ i. int_wrap w128 (c.loop-value.sum-is i +ℤ read i))
