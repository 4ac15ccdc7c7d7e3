use Rattle.std.proofs.Common.{◌∙◌}
use Rattle.std.proofs.lemmas.Result.{IfOk-weaker}
use Rattle.lv_reach.specs.Links.{links_of}
use Rattle.lv_near.proofs.Alone.{one_alias}
use Rattle.lv_near.proofs.EmptyBefore.{empty_before}
use Rattle.lv_near.proofs.Inputs.{each_table, each_told, either_way, few_parts, few_tables, look_up_fails, most_told, of_told, parts_told, reach_of_small, same_of_small, splits_told, tables_of_small, whole_needed, within_found, within_parts}
use Rattle.lv_near.proofs.input.reached_parts.Goals as goal

pub returns-then-at-eq1-clause-reach : goal.returns-then-at-eq1-clause-reach
returns-then-at-eq1-clause-reach g c =
    λ none. IfOk-weaker c.alone_parts.result _ _ (λ parts is. one_alias c.args.at.now.base.now c.args.at.now.lo c.args.def.now.cond c.args.at.now.tables.now c.args.changes parts c.if-at-eq1.true (each_told c.args.at.now.base.now c.args.def.now c.args.at.now.tables.now c.args.at.now.lo c.args.changes c.args.at.now.changing c.requires.tables c.requires.alone c.requires.fit.0 c.requires.fit.1) is) c.alone_parts.ensures

pub returns-then-at-eq1-clause-same : goal.returns-then-at-eq1-clause-same
returns-then-at-eq1-clause-same g c =
    IfOk-weaker c.alone_parts.result _ _ (λ parts is. parts_told c.args.at.now.base.now c.requires.fit.0 c.args.def.now _ c.requires.fit.1 parts (one_alias c.args.at.now.base.now c.args.at.now.lo c.args.def.now.cond c.args.at.now.tables.now c.args.changes parts c.if-at-eq1.true (each_told c.args.at.now.base.now c.args.def.now c.args.at.now.tables.now c.args.at.now.lo c.args.changes c.args.at.now.changing c.requires.tables c.requires.alone c.requires.fit.0 c.requires.fit.1) is)) c.alone_parts.ensures

pub returns-then-at-eq1-clause-of : goal.returns-then-at-eq1-clause-of
returns-then-at-eq1-clause-of g c =
    IfOk-weaker c.alone_parts.result _ _ (λ parts is. of_told c.args.at.now.base.now c.requires.fit.0 c.args.def.now _ c.requires.fit.1 parts (one_alias c.args.at.now.base.now c.args.at.now.lo c.args.def.now.cond c.args.at.now.tables.now c.args.changes parts c.if-at-eq1.true (each_told c.args.at.now.base.now c.args.def.now c.args.at.now.tables.now c.args.at.now.lo c.args.changes c.args.at.now.changing c.requires.tables c.requires.alone c.requires.fit.0 c.requires.fit.1) is)) c.alone_parts.ensures

pub returns-then-at-eq0-clause-reach : goal.returns-then-at-eq0-clause-reach
returns-then-at-eq0-clause-reach g c =
    λ none. IfOk-weaker c.alone_parts-then-at-eq0.result _ _ (λ parts is. empty_before c.args.at.now.base.now c.args.at.now.lo (links_of c.args.def.now.cond) c.args.at.now.tables.now c.args.changes parts (within_parts c.args.at.now.base.now c.requires.fit.0 c.args.def.now _ c.requires.fit.1) c.begin_empty.ensures (each_told c.args.at.now.base.now c.args.def.now c.args.at.now.tables.now c.args.at.now.lo c.args.changes c.args.at.now.changing c.requires.tables c.requires.alone c.requires.fit.0 c.requires.fit.1) is) c.alone_parts-then-at-eq0.ensures

pub returns-then-at-eq0-clause-same : goal.returns-then-at-eq0-clause-same
returns-then-at-eq0-clause-same g c =
    IfOk-weaker c.alone_parts-then-at-eq0.result _ _ (λ parts is. parts_told c.args.at.now.base.now c.requires.fit.0 c.args.def.now _ c.requires.fit.1 parts (empty_before c.args.at.now.base.now c.args.at.now.lo (links_of c.args.def.now.cond) c.args.at.now.tables.now c.args.changes parts (within_parts c.args.at.now.base.now c.requires.fit.0 c.args.def.now _ c.requires.fit.1) c.begin_empty.ensures (each_told c.args.at.now.base.now c.args.def.now c.args.at.now.tables.now c.args.at.now.lo c.args.changes c.args.at.now.changing c.requires.tables c.requires.alone c.requires.fit.0 c.requires.fit.1) is)) c.alone_parts-then-at-eq0.ensures

pub returns-then-at-eq0-clause-of : goal.returns-then-at-eq0-clause-of
returns-then-at-eq0-clause-of g c =
    IfOk-weaker c.alone_parts-then-at-eq0.result _ _ (λ parts is. of_told c.args.at.now.base.now c.requires.fit.0 c.args.def.now _ c.requires.fit.1 parts (empty_before c.args.at.now.base.now c.args.at.now.lo (links_of c.args.def.now.cond) c.args.at.now.tables.now c.args.changes parts (within_parts c.args.at.now.base.now c.requires.fit.0 c.args.def.now _ c.requires.fit.1) c.begin_empty.ensures (each_told c.args.at.now.base.now c.args.def.now c.args.at.now.tables.now c.args.at.now.lo c.args.changes c.args.at.now.changing c.requires.tables c.requires.alone c.requires.fit.0 c.requires.fit.1) is)) c.alone_parts-then-at-eq0.ensures

pub reach_of-requires-clause-few : goal.reach_of-requires-clause-few
reach_of-requires-clause-few g c = few_parts c.args.at.now.base.now c.args.def.now c.args.at.now.tables.now c.args.at.now.lo c.args.changes c.args.at.now.changing c.requires.tables c.requires.alone c.requires.fit.0 c.requires.fit.1 c.as_slice.result.now c.as_slice-2.result.now (c.as_slice.ensures ∙ c.in_ok-links.ensures) c.as_slice-2.ensures

pub reach_of-requires-clause-within : goal.reach_of-requires-clause-within
reach_of-requires-clause-within g c = within_found c.args.at.now.base.now c.args.def.now c.args.at.now.tables.now c.args.at.now.lo c.args.changes c.args.at.now.changing c.requires.tables c.requires.alone c.requires.fit.0 c.requires.fit.1 c.as_slice.result.now c.as_slice-2.result.now (c.as_slice.ensures ∙ c.in_ok-links.ensures) c.as_slice-2.ensures

pub returns-in_err-reach-clause-most : goal.returns-in_err-reach-clause-most
returns-in_err-reach-clause-most g c = look_up_fails c.args.at.now.base.now c.args.def.now c.args.at.now.tables.now c.args.at.now.lo c.args.changes c.args.at.now.changing c.requires.tables c.requires.alone c.requires.fit.0 c.requires.fit.1 c.as_slice.result.now c.as_slice-2.result.now (c.as_slice.ensures ∙ c.in_ok-links.ensures) c.as_slice-2.ensures c.args.steps.now c.reach_of.new.steps c.in_err-reach.ensures.most

pub small_parts-requires-clause-few : goal.small_parts-requires-clause-few
small_parts-requires-clause-few g c = few_tables c.args.at.now.base.now c.args.def.now c.args.at.now.tables.now c.args.at.now.lo c.args.changes c.args.at.now.changing c.requires.tables c.requires.alone c.requires.fit.0 c.requires.fit.1

pub small_parts-requires-clause-each : goal.small_parts-requires-clause-each
small_parts-requires-clause-each g c = each_table c.args.at.now.base.now c.args.def.now c.args.at.now.tables.now c.args.at.now.lo c.args.changes c.args.at.now.changing c.requires.tables c.requires.alone c.requires.fit.0 c.requires.fit.1

pub small_parts-requires-clause-split : goal.small_parts-requires-clause-split
small_parts-requires-clause-split g c = splits_told c.args.at.now.base.now c.args.def.now c.args.at.now.tables.now c.args.at.now.lo c.args.changes c.args.at.now.changing c.requires.tables c.requires.alone c.requires.fit.0 c.requires.fit.1 c.as_slice.result.now c.as_slice-2.result.now (c.as_slice.ensures ∙ c.in_ok-links.ensures) c.as_slice-2.ensures c.in_ok-reach.reach.near c.in_ok-reach.reach.far c.in_ok-reach.reach.changed c.in_ok-reach.ensures.reach c.in_ok-reach.ensures.found c.in_ok-reach.ensures.flags

pub small_parts-requires-clause-whole : goal.small_parts-requires-clause-whole
small_parts-requires-clause-whole g c = whole_needed c.args.at.now.base.now c.args.def.now c.args.at.now.tables.now c.args.at.now.lo c.args.changes c.args.at.now.changing c.requires.tables c.requires.alone c.requires.fit.0 c.requires.fit.1 c.as_slice.result.now c.as_slice-2.result.now (c.as_slice.ensures ∙ c.in_ok-links.ensures) c.as_slice-2.ensures c.in_ok-reach.reach.near c.in_ok-reach.reach.far c.in_ok-reach.reach.changed c.in_ok-reach.ensures.reach c.in_ok-reach.ensures.found c.in_ok-reach.ensures.flags

pub returns-clause-reach : goal.returns-clause-reach
returns-clause-reach g c = λ none.
    IfOk-weaker c.small_parts.result _ _ (λ parts is. reach_of_small c.args.at.now.base.now c.args.def.now c.args.at.now.tables.now c.args.at.now.lo c.args.changes c.args.at.now.changing c.requires.tables c.requires.alone c.requires.fit.0 c.requires.fit.1 c.as_slice.result.now c.as_slice-2.result.now (c.as_slice.ensures ∙ c.in_ok-links.ensures) c.as_slice-2.ensures c.in_ok-reach.reach.near c.in_ok-reach.reach.far c.in_ok-reach.reach.changed c.in_ok-reach.ensures.reach c.in_ok-reach.ensures.found c.in_ok-reach.ensures.flags parts is none) c.small_parts.ensures.small

pub returns-clause-same : goal.returns-clause-same
returns-clause-same g c =
    IfOk-weaker c.small_parts.result _ _ (same_of_small c.args.at.now.base.now c.args.def.now c.args.at.now.tables.now c.args.at.now.lo c.args.changes c.args.at.now.changing c.requires.tables c.requires.alone c.requires.fit.0 c.requires.fit.1 c.as_slice.result.now c.as_slice-2.result.now (c.as_slice.ensures ∙ c.in_ok-links.ensures) c.as_slice-2.ensures c.in_ok-reach.reach.near c.in_ok-reach.reach.far c.in_ok-reach.reach.changed c.in_ok-reach.ensures.reach c.in_ok-reach.ensures.found c.in_ok-reach.ensures.flags) c.small_parts.ensures.small

pub returns-clause-of : goal.returns-clause-of
returns-clause-of g c =
    IfOk-weaker c.small_parts.result _ _ (tables_of_small c.args.at.now.base.now c.args.def.now c.args.at.now.tables.now c.args.at.now.lo c.args.changes c.args.at.now.changing c.requires.tables c.requires.alone c.requires.fit.0 c.requires.fit.1 c.as_slice.result.now c.as_slice-2.result.now (c.as_slice.ensures ∙ c.in_ok-links.ensures) c.as_slice-2.ensures c.in_ok-reach.reach.near c.in_ok-reach.reach.far c.in_ok-reach.reach.changed c.in_ok-reach.ensures.reach c.in_ok-reach.ensures.found c.in_ok-reach.ensures.flags) c.small_parts.ensures.small

pub returns-clause-most : goal.returns-clause-most
returns-clause-most g c =
    most_told c.args.at.now.base.now c.args.def.now c.args.at.now.tables.now c.args.at.now.lo c.args.changes c.args.at.now.changing c.requires.tables c.requires.alone c.requires.fit.0 c.requires.fit.1 c.as_slice.result.now c.as_slice-2.result.now (c.as_slice.ensures ∙ c.in_ok-links.ensures) c.as_slice-2.ensures c.in_ok-reach.reach.near c.in_ok-reach.reach.far c.in_ok-reach.reach.changed c.in_ok-reach.ensures.reach c.in_ok-reach.ensures.found c.in_ok-reach.ensures.flags
    c.args.steps.now c.reach_of.new.steps c.in_ok-reach.ensures.cost c.small_parts.new.steps (either_way c.small_parts.result _ _ c.small_parts.ensures.cost c.small_parts.ensures.most)
