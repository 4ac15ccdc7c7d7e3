use Rattle.std.proofs.Common.{◌≡◌, map, drop}
use Rattle.lv_lexer.specs.Written.{with_tokens}
use Rattle.lv_parser.specs.Printed.{joined_tokens, shown}
use Rattle.lv_parser.proofs.print_sources.print_others.Given as goal

abbrev pub invariant-loop-table : goal.invariant-loop-table
invariant-loop-table l =
    with_tokens l.out (joined_tokens (drop l.table-index l.others) (map (λ p. (shown p).tokens) l.left))
    ≡ with_tokens l.initial.out (joined_tokens l.others (map (λ p. (shown p).tokens) l.parts))
