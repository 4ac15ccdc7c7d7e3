use Rattle.std.proofs.Common.{◌≡◌, map, drop}
use Rattle.lv_lexer.specs.Written.{with_tokens}
use Rattle.lv_parser.specs.Printed.{comma, behind}
use Rattle.lv_parser.proofs.print_lists.print_behind.Given as goal

abbrev pub invariant-loop-item : goal.invariant-loop-item
invariant-loop-item g l =
    with_tokens l.out (behind comma (map g.T.Print.tokens (drop l.item-index l.items))) ≡ with_tokens l.initial.out (behind comma (map g.T.Print.tokens l.items))
