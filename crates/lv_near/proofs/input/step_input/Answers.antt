use Rattle.lv_near.proofs.Inputs.{fit_told, input_told, same_told}
use Rattle.lv_near.specs.Small.{whole_parts}
use Rattle.lv_near.proofs.input.step_input.Goals as goal

pub new-requires : goal.new-requires
new-requires g c =
    fit_told c.args.base.now c.requires.fit.0 c.args.def.now (whole_parts c.args.base.now c.args.def.now.tables c.args.lo c.args.hi) c.requires.fit.1 c.in_ok-parts.parts c.in_ok-parts.ensures.reach c.in_ok-copy.field-0 c.in_ok-copy.ensures

pub returns-clause-input : goal.returns-clause-input
returns-clause-input g c =
    input_told c.args.base.now c.requires.fit.0 c.args.def.now (whole_parts c.args.base.now c.args.def.now.tables c.args.lo c.args.hi) c.requires.fit.1 c.in_ok-parts.parts c.in_ok-parts.ensures.reach
    c.args.lo c.args.hi c.new.result c.in_ok-copy.field-0 c.in_ok-copy.ensures c.new.ensures

pub returns-clause-same : goal.returns-clause-same
returns-clause-same g c =
    same_told c.args.base.now c.requires.fit.0 c.args.def.now (whole_parts c.args.base.now c.args.def.now.tables c.args.lo c.args.hi) c.requires.fit.1 c.in_ok-parts.parts c.in_ok-parts.ensures.reach
    c.args.lo c.args.hi c.new.result c.in_ok-copy.field-0 c.new.ensures
