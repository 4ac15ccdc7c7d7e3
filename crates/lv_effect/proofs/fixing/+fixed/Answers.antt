use Rattle.std.proofs.Common.{sym, ap, ◌∙◌}
use Rattle.std.specs.List.{list_any}
use Rattle.lv_effect.specs.FixedKeys.{says_column}
use Rattle.lv_effect.proofs.FixedKeys.{all_parts_fix, says-And}
use Rattle.lv_effect.proofs.fixing.+fixed.Goals as goal

pub fixed_by-returns-in-And-clause-fixes : goal.fixed_by-returns-in-And-clause-fixes
fixed_by-returns-in-And-clause-fixes t c =
    all_parts_fix c.args.column c.as_slice.result.now c.in-And.parts c.args.cond.now c.fixed_by_parts.result c.as_slice.ensures c.in-And.is c.fixed_by_parts.ensures.fixes

pub fixed_by-returns-in-And-clause-found : goal.fixed_by-returns-in-And-clause-found
fixed_by-returns-in-And-clause-found t c =
    let column = c.args.column in
    c.fixed_by_parts.ensures.found
    ∙ ap (list_any (λ part. says_column part column)) c.as_slice.ensures
    ∙ sym (says-And column c.in-And.parts)
    ∙ ap (λ cond. says_column cond column) (sym c.in-And.is)
