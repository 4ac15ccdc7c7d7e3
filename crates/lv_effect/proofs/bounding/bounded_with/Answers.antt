use Rattle.std.proofs.Common.{sym, ap, ◌∙◌}
use Rattle.lv_effect.specs.Bounds.{bounds}
use Rattle.lv_effect.proofs.Bounded.{right_bounds}
use Rattle.lv_effect.proofs.bounding.bounded_with.Goals as goal

pub returns-then-bounds-2-clause-bounds : goal.returns-then-bounds-2-clause-bounds
returns-then-bounds-2-clause-bounds c =
    right_bounds c.args.side c.args.op c.args.column c.args.left.now c.args.right.now (c.is_column-else-is_column.ensures.value c.if-is_column-2.true)
    (c.is_literal-then-is_column-2.ensures.value c.if-is_literal-2.true) (sym (ap (λ s. bounds s c.args.op) c.other_side.ensures) ∙ sym c.bounds-then-is_literal-2.ensures ∙ c.if-bounds-2.true)
