use Rattle.std.proofs.Common.{◌+ℤ◌, sym, ap, ◌∙◌}
use Rattle.std.proofs.lemmas.Int.{to_z-of_z}
use Rattle.std.specs.Int.{int_wrap, w128}
use Rattle.lv_schema.specs.Groups.{number_at}
use Rattle.lv_group.specs.Entries.{AnEntry}
use Rattle.lv_group.proofs.Sums.{wrapped_more}
use Rattle.lv_group.proofs.gathering.sum_of.Goals as goal

pub loop-entry-preserved : goal.loop-entry-preserved
loop-entry-preserved c =
    let at = λ (entry : AnEntry). number_at c.args.col entry.1 in
    let read = to_z-of_z w128 c.number_at.result (record { sfits = c.number_at.type_inv }) ∙ c.number_at.ensures ∙ ap at c.entry.view_is in
    wrapped_more at c.args.entries.now c.loop-entry.entry-index c.entry-item.result c.loop-entry.sum _ c.loop-entry-test.true c.entry-item.is
    (sym c.loop-entry.sum-is ∙ c.loop-entry.invariant)
    (to_z-of_z w128 c.wrapped_sum-sum.result (record { sfits = c.wrapped_sum-sum.type_inv })
    ∙ c.wrapped_sum-sum.ensures
    ∙ λ i. int_wrap w128 (c.loop-entry.sum-is i +ℤ read i))
