use Rattle.std.proofs.Common.{◌+◌, ◌≤◌, ℕ, Bool, List, None, ap, ◌∙◌, subst, arith}
use Rattle.std.proofs.lemmas.Result.{IfOk-weaker}
use Rattle.lv_schema.specs.declared.part.Part.{Part}
use Rattle.lv_schema.specs.Differences.{difference}
use Rattle.lv_schema.specs.Jobs.{new_sides, old_sides}
use Rattle.lv_reach.specs.declared.link.Link.{Link}
use Rattle.lv_reach.specs.declared.rows.AliasRow.{AliasRow}
use Rattle.lv_reach.specs.Cost.{IsReach, cost}
use Rattle.lv_reach.specs.Links.{links_of}
use Rattle.lv_reach.specs.Within.{without_old}
use Rattle.lv_near.specs.Small.{with_tables}
use Rattle.lv_near.proofs.Inputs.{each_table, most_over, within_found}
use Rattle.lv_near.proofs.OnlyOne.{looked_is}
use Rattle.lv_near.proofs.PairSteps.{none_alone}
use Rattle.lv_near.proofs.differing.difference_by_one.Goals as goal

pub pair_step-requires-clause-within : goal.pair_step-requires-clause-within
pair_step-requires-clause-within g c =
    let at = c.args.at.now in
    within_found at.base.now c.args.def.now at.tables.now at.lo c.args.changes None c.requires.tables (none_alone c.args.changes) c.requires.fit.0 c.requires.fit.1
    c.as_slice-then-are_linked.result.now c.as_slice-then-are_linked-2.result.now (c.as_slice-then-are_linked.ensures ∙ c.in_ok-links.ensures) c.as_slice-then-are_linked-2.ensures

pub pair_step-requires-clause-changing : goal.pair_step-requires-clause-changing
pair_step-requires-clause-changing g c =
    let at = c.args.at.now in
    let long = each_table at.base.now c.args.def.now at.tables.now at.lo c.args.changes None c.requires.tables (none_alone c.args.changes) c.requires.fit.0 c.requires.fit.1 in
    omega (arith, long, c.if-at-eq2.true, c.requires.within)

pub returns-then-are_linked-clause-changes : goal.returns-then-are_linked-clause-changes
returns-then-are_linked-clause-changes g c =
    let at = c.args.at.now in
    IfOk-weaker c.pair_step.result _ _
    (λ list is.
    is
    ∙ ap (λ (ps : List Part). difference c.args.def.now (old_sides (with_tables at.base.now at.tables.now at.lo ps)) (new_sides (with_tables at.base.now at.tables.now at.lo ps))) c.as_slice-then-are_linked-2.ensures)
    c.pair_step.ensures.changes

pub returns-then-are_linked-clause-most : goal.returns-then-are_linked-clause-most
returns-then-are_linked-clause-most g c =
    let at = c.args.at.now in
    let whole = without_old c.args.alias (with_tables at.base.now at.tables.now at.lo c.args.changes) in
    subst (λ (links : List Link). (near : List AliasRow) (far : ℕ → Bool) → IsReach links whole near far → c.pair_step.new.steps ≤ c.args.steps.now + cost links whole near far)
    (c.as_slice-then-are_linked.ensures ∙ c.in_ok-links.ensures)
    (most_over c.as_slice-then-are_linked.result.now c.args.steps.now c.pair_step.new.steps _ whole (ap (λ (ps : List Part). without_old c.args.alias (with_tables at.base.now at.tables.now at.lo ps)) c.as_slice-then-are_linked-2.ensures) c.pair_step.ensures.most)

pub returns-clause-most : goal.returns-clause-most
returns-clause-most g c =
    let at = c.args.at.now in
    most_over (links_of c.args.def.now.cond) c.args.steps.now c.walked_difference.new.steps _ _ (looked_is at.base.now at.tables.now at.lo c.args.changes c.args.alias) c.walked_difference.ensures.most
