use Rattle.std.proofs.Common.{◌∙◌, sym}
use Rattle.lv_lexer.proofs.Onward.{next_is}
use Rattle.lv_lexer.proofs.scanning.next_token.Goals as goal

pub returns-in-Some : goal.returns-in-Some
returns-in-Some c =
    next_is c.args.line.now c.args.at c.blanks_end-start.result c.in-Some.kind c.in-Some.len c.blanks_end-start.ensures.value (sym c.is_over.ensures ∙ c.if-is_over.false)
    (sym c.piece.ensures.value ∙ c.in-Some.is)
