use Rattle.std.proofs.Common.{sym, ap, ◌∙◌, subst, List}
use Rattle.std.specs.Prelude.{IfOk}
use Rattle.lv_schema.specs.declared.part.Part.{Part}
use Rattle.lv_base.specs.Bases.{defs_of}
use Rattle.lv_maint.specs.Inputs.{FitOver}
use Rattle.lv_reach.specs.Links.{links_of}
use Rattle.lv_reach.specs.Reach.{IsReachOf, with_old}
use Rattle.lv_near.specs.Small.{looked_at}
use Rattle.lv_near.proofs.Inputs.{most_over, whole_told}
use Rattle.lv_near.proofs.input.step_parts.Goals as goal

pub reached_parts-requires-clause-fit : goal.reached_parts-requires-clause-fit
reached_parts-requires-clause-fit g c =
    let at = c.args.at.now in
    let is = whole_told at.base.now at.lo at.hi at.tables.now c.args.def.now.tables c.in_ok-changes.changes c.requires.tables c.in_ok-changes.ensures in
    (c.requires.fit.0, subst (FitOver (defs_of at.base.now) c.requires.fit.0 c.args.def.now) (sym is) c.requires.fit.1)

pub returns-clause-reach : goal.returns-clause-reach
returns-clause-reach g c =
    let at = c.args.at.now in
    let is = whole_told at.base.now at.lo at.hi at.tables.now c.args.def.now.tables c.in_ok-changes.changes c.requires.tables c.in_ok-changes.ensures in
    subst (λ (whole : List Part). IfOk c.reached_parts.result (λ parts. IsReachOf (links_of c.args.def.now.cond) whole parts)) is (c.reached_parts.ensures.reach c.requires.all)

pub returns-clause-most : goal.returns-clause-most
returns-clause-most g c =
    let at = c.args.at.now in
    let is = whole_told at.base.now at.lo at.hi at.tables.now c.args.def.now.tables c.in_ok-changes.changes c.requires.tables c.in_ok-changes.ensures in
    let all = ap (λ changing. with_old (looked_at at.base.now at.tables.now at.lo changing) c.in_ok-changes.changes) c.requires.all in
    most_over (links_of c.args.def.now.cond) c.args.steps.now c.reached_parts.new.steps _ _ (all ∙ is) c.reached_parts.ensures.most
