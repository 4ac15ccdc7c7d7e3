use Rattle.std.proofs.Common.{◌≡◌, ◌-◌}
use Rattle.lv_parser.specs.Reading.{many_from, many_more}
use Rattle.lv_parser.specs.Read.{is_more, joined}
use Rattle.lv_parser.proofs.sources.more_joined.Given as goal

abbrev pub invariant-each : goal.invariant-each
invariant-each l = many_from is_more (joined l.within) (l.end - l.counter) l.found l.cursor ≡ many_more is_more (joined l.within) l.fn.found l.fn.cursor
