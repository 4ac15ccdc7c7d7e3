use Rattle.std.proofs.Common.{◌∙◌, sym}
use Rattle.lv_parser.specs.Read as read
use Rattle.lv_parser.proofs.ExactRules.{line_reads}
use Rattle.lv_parser.proofs.Whole.{whole_reading, rest_fault, stop_fault}
use Rattle.lv_parser.proofs.Loops.{at_syntax}
use Rattle.lv_parser.proofs.parsing.read_all.Goals as goal

pub returns-then-is_whole : goal.returns-then-is_whole
returns-then-is_whole c =
    whole_reading line_reads c.args.terminals c.args.ends c.in-Ok.found c.line.new.cursor (rw c.new-cursor.ensures at c.in-Ok.ensures)
    (sym c.is_whole.ensures ∙ c.if-is_whole.true)

pub returns-in-Ok : goal.returns-in-Ok
returns-in-Ok c =
    rw c.byte.ensures
    (rest_fault line_reads c.args.terminals c.args.ends c.args.end c.in-Ok.found c.line.new.cursor (rw c.new-cursor.ensures at c.in-Ok.ensures)
    (sym c.is_whole.ensures ∙ c.if-is_whole.false))

pub returns-in-Err-Syntax : goal.returns-in-Err-Syntax
returns-in-Err-Syntax c =
    let e = at_syntax (read.line c.new-cursor.result) c.in-Err-Syntax.field-0 c.line.new.cursor c.in-Err-Syntax.field-0-is c.in-Err-Syntax.ensures in
    rw c.byte-in-Err-Syntax.ensures (stop_fault line_reads c.args.terminals c.args.ends c.args.end c.line.new.cursor (rw c.new-cursor.ensures at e))
