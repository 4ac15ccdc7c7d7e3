use Rattle.std.proofs.Common.{sym, ap, ◌∙◌}
use Rattle.lv_effect.specs.Bounds.{bound_in, bound_of}
use Rattle.lv_effect.proofs.Bounded.{all_cmp_bounds, all_parts_bound, bound-And}
use Rattle.lv_effect.proofs.bounding.+bounded.Goals as goal

pub bounded_by-returns-in-Cmp-clause-bounds : goal.bounded_by-returns-in-Cmp-clause-bounds
bounded_by-returns-in-Cmp-clause-bounds t c =
    all_cmp_bounds c.args.side c.args.column c.in-Cmp.op c.in-Cmp.left c.in-Cmp.right c.args.cond.now c.bounded_with.result c.in-Cmp.is c.bounded_with.ensures.bounds

pub bounded_by-returns-in-And-clause-bounds : goal.bounded_by-returns-in-And-clause-bounds
bounded_by-returns-in-And-clause-bounds t c =
    all_parts_bound c.args.side c.args.column c.as_slice.result.now c.in-And.parts c.args.cond.now c.bounded_by_parts.result c.as_slice.ensures c.in-And.is c.bounded_by_parts.ensures.bounds

pub bounded_by-returns-in-And-clause-found : goal.bounded_by-returns-in-And-clause-found
bounded_by-returns-in-And-clause-found t c =
    let column = c.args.column in
    let side = c.args.side in
    c.bounded_by_parts.ensures.found
    ∙ ap (λ parts. bound_in side parts column) c.as_slice.ensures
    ∙ sym (bound-And side column c.in-And.parts)
    ∙ ap (λ cond. bound_of side cond column) (sym c.in-And.is)
