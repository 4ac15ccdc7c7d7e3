use Rattle.std.proofs.Common.{◌∙◌, sym}
use Rattle.lv_parser.proofs.Signs.{op_none, op_other, op_some}
use Rattle.lv_parser.proofs.conditions.op.Goals as goal

pub returns-in_default : goal.returns-in_default
returns-in_default c = op_none c.args.cursor.now (sym c.in_default.is ∙ c.peek.ensures)

pub returns-in_default-sign_of : goal.returns-in_default-sign_of
returns-in_default-sign_of c = op_other c.args.cursor.now c.in-Some.class (sym c.in-Some.is ∙ c.peek.ensures) (sym c.in_default-sign_of.is ∙ c.sign_of.ensures)

pub returns : goal.returns
returns c =
    rw c.skip.ensures
    (op_some c.args.cursor.now c.in-Some.class c.in-Some-sign_of.sign (sym c.in-Some.is ∙ c.peek.ensures) (sym c.in-Some-sign_of.is ∙ c.sign_of.ensures))
