use Rattle.lv_effect.proofs.FixedKeys.{left_fixes, right_fixes}
use Rattle.lv_effect.proofs.fixing.compared_with.Goals as goal

pub returns-then-is_literal-clause-fixes : goal.returns-then-is_literal-clause-fixes
returns-then-is_literal-clause-fixes c =
    left_fixes c.args.column c.args.left.now c.args.right.now (c.is_column.ensures.value c.if-is_column.true) (c.is_literal.ensures.value c.if-is_literal.true)

pub returns-then-is_literal-2-clause-fixes : goal.returns-then-is_literal-2-clause-fixes
returns-then-is_literal-2-clause-fixes c =
    right_fixes c.args.column c.args.left.now c.args.right.now (c.is_column-else-is_column.ensures.value c.if-is_column-2.true)
    (c.is_literal-then-is_column-2.ensures.value c.if-is_literal-2.true)
