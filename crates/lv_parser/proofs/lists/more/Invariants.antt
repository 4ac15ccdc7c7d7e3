use Rattle.std.proofs.Common.{◌≡◌, ◌-◌}
use Rattle.lv_parser.specs.Reading.{sees, behind, many_from, many_more}
use Rattle.lv_parser.proofs.lists.more.Given as goal

abbrev pub invariant-each : goal.invariant-each
invariant-each g l =
    many_from (sees l.class) (behind l.class g.T.Part.reader) (l.end - l.counter) l.found l.cursor ≡ many_more (sees l.class) (behind l.class g.T.Part.reader) l.fn.found l.fn.cursor
