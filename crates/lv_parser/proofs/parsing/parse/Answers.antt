use Rattle.lv_lexer.specs.Cut.{cut}
use Rattle.lv_parser.proofs.Answered.{scans_as_cut, only_cut, ends_at, found_line, fault_line, only_line}
use Rattle.lv_parser.proofs.parsing.parse.Goals as goal

pub returns-clause-found : goal.returns-clause-found
returns-clause-found c =
    let line = c.args.line.now in
    let scan = c.in_ok-list.field-0 in
    let known = c.in_ok-list.ensures in
    found_line line (cut line).0 scan.stopped scan.list c.is_none.result c.read_all.result (only_cut line scan.stopped known.stopped) known.said
    (ends_at scan.stopped c.is_none.result c.is_none.ensures) (rw (← c.end_of-end.ensures) c.read_all.ensures) (scans_as_cut line scan.stopped known.stopped)

pub returns-clause-only : goal.returns-clause-only
returns-clause-only c =
    let line = c.args.line.now in
    let scan = c.in_ok-list.field-0 in
    let known = c.in_ok-list.ensures in
    only_line line (cut line).0 scan.stopped scan.list c.is_none.result c.read_all.result (only_cut line scan.stopped known.stopped) known.said
    (ends_at scan.stopped c.is_none.result c.is_none.ensures) (rw (← c.end_of-end.ensures) c.read_all.ensures)

pub returns-clause-byte : goal.returns-clause-byte
returns-clause-byte c =
    let line = c.args.line.now in
    let scan = c.in_ok-list.field-0 in
    let known = c.in_ok-list.ensures in
    fault_line line (cut line).0 scan.stopped scan.list c.is_none.result c.read_all.result (only_cut line scan.stopped known.stopped) known.said
    (ends_at scan.stopped c.is_none.result c.is_none.ensures) (rw (← c.end_of-end.ensures) c.read_all.ensures) (scans_as_cut line scan.stopped known.stopped)
