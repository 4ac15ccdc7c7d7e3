use Rattle.std.proofs.Common.{sym, ap, ◌∙◌, subst, List}
use Rattle.std.proofs.lemmas.Result.{IfOk-weaker}
use Rattle.lv_schema.specs.declared.part.Part.{Part}
use Rattle.lv_schema.specs.Differences.{difference}
use Rattle.lv_schema.specs.Jobs.{new_sides, old_sides}
use Rattle.lv_base.specs.Bases.{defs_of}
use Rattle.lv_maint.specs.Inputs.{FitOver}
use Rattle.lv_reach.specs.Links.{links_of}
use Rattle.lv_reach.proofs.Within.{bound_no_more}
use Rattle.lv_relevance.specs.Relevance.{told}
use Rattle.lv_relevance.proofs.Untold.{no_difference}
use Rattle.lv_near.specs.Small.{whole_parts}
use Rattle.lv_near.proofs.Inputs.{most_over}
use Rattle.lv_near.proofs.Told.{left_is, less_told, told_fits, told_no_more}
use Rattle.lv_near.proofs.input.needed_difference.Goals as goal

pub difference_by-requires-clause-fit : goal.difference_by-requires-clause-fit
difference_by-requires-clause-fit g c =
    let at = c.args.at.now in
    let is = left_is at.base.now at.lo at.hi at.tables.now c.args.def.now c.in_ok-changes.changes c.in_ok-left.left c.requires.tables c.in_ok-changes.ensures c.in_ok-left.ensures in
    (c.requires.fit.0, subst (FitOver (defs_of at.base.now) c.requires.fit.0 c.args.def.now) (sym is) (told_fits at.base.now c.requires.fit.0 c.args.def.now _ c.requires.fit.1))

pub returns-clause-changes : goal.returns-clause-changes
returns-clause-changes g c =
    let at = c.args.at.now in
    let is = left_is at.base.now at.lo at.hi at.tables.now c.args.def.now c.in_ok-changes.changes c.in_ok-left.left c.requires.tables c.in_ok-changes.ensures c.in_ok-left.ensures in
    IfOk-weaker c.difference_by.result _ _
    (λ list same.
    same
    ∙ ap (λ (ps : List Part). difference c.args.def.now (old_sides ps) (new_sides ps)) is
    ∙ no_difference (defs_of at.base.now) c.args.def.now (whole_parts at.base.now c.args.def.now.tables at.lo at.hi) c.requires.fit.1.each)
    c.difference_by.ensures.changes

pub returns-clause-most : goal.returns-clause-most
returns-clause-most g c =
    let at = c.args.at.now in
    let is = left_is at.base.now at.lo at.hi at.tables.now c.args.def.now c.in_ok-changes.changes c.in_ok-left.left c.requires.tables c.in_ok-changes.ensures c.in_ok-left.ensures in
    let whole = whole_parts at.base.now c.args.def.now.tables at.lo at.hi in
    let links = links_of c.args.def.now.cond in
    bound_no_more links (told c.args.def.now whole) whole (told_no_more c.args.def.now whole) c.args.steps.now c.difference_by.new.steps
    (most_over links c.args.steps.now c.difference_by.new.steps _ _ is c.difference_by.ensures.most)

pub returns-clause-less : goal.returns-clause-less
returns-clause-less g c =
    let at = c.args.at.now in
    let is = left_is at.base.now at.lo at.hi at.tables.now c.args.def.now c.in_ok-changes.changes c.in_ok-left.left c.requires.tables c.in_ok-changes.ensures c.in_ok-left.ensures in
    less_told at.base.now at.tables.now at.lo c.in_ok-left.left _ is (links_of c.args.def.now.cond) c.args.steps.now c.difference_by.new.steps c.difference_by.ensures.less
