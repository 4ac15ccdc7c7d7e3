use Rattle.std.proofs.Common.{◌≡◌, ◌+◌, ◌-◌, ◌*◌}
use Rattle.lv_lexer.specs.declared.terminals.Class.TheVariants as k
use Rattle.lv_parser.specs.Reading.{sees, behind, many_from, many_more}
use Rattle.lv_parser.specs.Read as read
use Rattle.lv_parser.proofs.conditions.+condition.Given as goal

abbrev pub decreases-cond_within : goal.decreases-cond_within
decreases-cond_within l = 8 * l.depth + 6

abbrev pub decreases-more_conjs : goal.decreases-more_conjs
decreases-more_conjs l = 8 * l.depth + 5

abbrev pub decreases-next_conj : goal.decreases-next_conj
decreases-next_conj l = 8 * l.depth + 4

abbrev pub decreases-conj : goal.decreases-conj
decreases-conj l = 8 * l.depth + 3

abbrev pub decreases-more_units : goal.decreases-more_units
decreases-more_units l = 8 * l.depth + 2

abbrev pub decreases-next_unit : goal.decreases-next_unit
decreases-next_unit l = 8 * l.depth + 1

abbrev pub decreases-negation : goal.decreases-negation
decreases-negation l = 8 * l.depth + 7

abbrev pub decreases-bracketed : goal.decreases-bracketed
decreases-bracketed l = 8 * l.depth + 7

abbrev pub decreases-unit : goal.decreases-unit
decreases-unit l = 8 * l.depth

abbrev pub invariant-more_units-each : goal.invariant-more_units-each
invariant-more_units-each l =
    many_from (sees k.And) (behind k.And (read.unit l.within l.depth)) (l.end - l.counter) l.found l.cursor ≡ many_more (sees k.And) (behind k.And (read.unit l.within l.depth)) l.fn.found l.fn.cursor

abbrev pub invariant-more_conjs-each : goal.invariant-more_conjs-each
invariant-more_conjs-each l =
    many_from (sees k.Or) (behind k.Or (read.conj_of (read.unit l.within l.depth))) (l.end - l.counter) l.found l.cursor
    ≡ many_more (sees k.Or) (behind k.Or (read.conj_of (read.unit l.within l.depth))) l.fn.found l.fn.cursor
