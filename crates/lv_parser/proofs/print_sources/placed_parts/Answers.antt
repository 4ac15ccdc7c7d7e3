use Rattle.std.proofs.Common.{◌∙◌, List, sym, ap, map, arith}
use Rattle.lv_parser.specs.declared.tree.CondTree.{CondTree}
use Rattle.lv_parser.specs.Printed.{shown, whole, placed_parts}
use Rattle.lv_parser.proofs.ShownLemmas.{placed-And_few, placed-And_many}
use Rattle.lv_parser.proofs.print_sources.placed_parts.Goals as goal

pub returns-then-len-refs : goal.returns-then-len-refs
returns-then-len-refs c =
    ap (λ (ps : List CondTree). map (λ p. (shown p).tokens) ps) c.as_slice.ensures ∙ sym (placed-And_few c.args.refs c.in-And.parts (omega arith))
    ∙ ap (λ (t : CondTree). placed_parts c.args.refs (shown t)) (sym c.in-And.is)

pub returns-else-len-refs : goal.returns-else-len-refs
returns-else-len-refs c =
    c.whole-else-len-refs.ensures ∙ ap (λ (t : CondTree). whole (shown t)) c.in-And.is ∙ sym (placed-And_many c.args.refs c.in-And.parts (omega arith))
    ∙ ap (λ (t : CondTree). placed_parts c.args.refs (shown t)) (sym c.in-And.is)
