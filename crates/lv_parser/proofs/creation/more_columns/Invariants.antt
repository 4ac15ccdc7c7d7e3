use Rattle.std.proofs.Common.{◌≡◌, ◌-◌}
use Rattle.lv_lexer.specs.declared.terminals.Class.TheVariants as k
use Rattle.lv_parser.specs.Reading.{sees, many_from, many_more}
use Rattle.lv_parser.specs.Read.{column_comma}
use Rattle.lv_parser.proofs.creation.more_columns.Given as goal

abbrev pub invariant-each : goal.invariant-each
invariant-each l = many_from (sees k.Name) column_comma (l.end - l.counter) l.found l.cursor ≡ many_more (sees k.Name) column_comma l.fn.found l.fn.cursor
