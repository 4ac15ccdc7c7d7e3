use Rattle.std.proofs.Common.{List, [], subst}
use Rattle.std.proofs.lemmas.List.{append-nil}
use Rattle.lv_lexer.specs.declared.token.Token.{Token}
use Rattle.lv_lexer.specs.Scan.{Scans}
use Rattle.lv_lexer.proofs.scanning.scan.Goals as goal

pub returns-in-End : goal.returns-in-End
returns-in-End c =
    let P : List Token → Type 0 = λ ts. Scans 0 c.args.line.now ts c.in-End.stopped in subst P (append-nil c.each.list) (c.each.invariant.behind [] c.in-End.stopped c.in-End.ensures)
