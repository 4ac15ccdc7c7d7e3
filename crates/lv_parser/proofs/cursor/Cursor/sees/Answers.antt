use Rattle.std.proofs.Common.{◌∙◌, sym, ap}
use Rattle.std.specs.Option.{option_copied}
use Rattle.lv_parser.proofs.Cursors.{sees_none, sees_some}
use Rattle.lv_parser.proofs.cursor.Cursor.sees.Goals as goal

pub returns-in-None : goal.returns-in-None
returns-in-None c = sees_none c.args.class c.args.self.now (sym c.next.ensures ∙ ap option_copied c.in-None.is)

pub returns-in-Some : goal.returns-in-Some
returns-in-Some c =
    c.same_class.ensures ∙ sees_some c.args.class c.args.self.now c.in-Some.token.now (sym c.next.ensures ∙ ap option_copied c.in-Some.is)
