use Rattle.std.proofs.Common.{◌∙◌}
use Rattle.lv_parser.proofs.Cursors.{sameb-same}
use Rattle.lv_parser.proofs.cursor.same_class.Goals as goal

pub returns : goal.returns
returns c = c.eq.ensures ∙ sameb-same c.args.a c.args.b
