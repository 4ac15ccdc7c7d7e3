use Rattle.std.proofs.Common.{◌∙◌, sym}
use Rattle.lv_parser.proofs.Cursors.{expect_other, expect_nothing, expect_taken}
use Rattle.lv_parser.proofs.cursor.Cursor.expect.Goals as goal

pub returns-then-not-sees-clause-given : goal.returns-then-not-sees-clause-given
returns-then-not-sees-clause-given c = expect_other c.args.class c.args.self.now (sym c.sees.ensures ∙ c.if-not-sees.true)

pub returns-in-None-clause-given : goal.returns-in-None-clause-given
returns-in-None-clause-given c =
    expect_nothing c.args.class c.args.self.now c.take.new.self c.in-None.ensures.taken.0 c.in-None.ensures.taken.1

pub returns-in-Some-clause-given : goal.returns-in-Some-clause-given
returns-in-Some-clause-given c =
    expect_taken c.args.class c.args.self.now c.in-Some.token c.take.new.self (sym c.sees.ensures ∙ c.if-not-sees.false) c.in-Some.ensures.taken
