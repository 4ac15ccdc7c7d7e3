use Rattle.std.proofs.Common.{◌∙◌, sym}
use Rattle.lv_parser.proofs.Cursors.{allow_taken}
use Rattle.lv_parser.proofs.cursor.Cursor.allow.Goals as goal

pub returns-then-sees : goal.returns-then-sees
returns-then-sees c = allow_taken c.args.class c.args.self.now c.take.result c.take.new.self (sym c.sees.ensures ∙ c.if-sees.true) c.take.ensures.taken
