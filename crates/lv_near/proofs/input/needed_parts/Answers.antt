use Rattle.std.proofs.Common.{◌≡◌, true, false, sym, ◌∙◌, subst}
use Rattle.std.proofs.lemmas.Result.{IfOk-weaker}
use Rattle.std.specs.List.{AllByRecursion}
use Rattle.lv_reach.specs.Links.{links_of}
use Rattle.lv_near.specs.Small.{StaysSame}
use Rattle.lv_near.proofs.Inputs.{of_told, parts_told}
use Rattle.lv_near.proofs.NoChange.{none_changes}
use Rattle.lv_near.proofs.input.needed_parts.Goals as goal

pub returns-then-all_stay_same-clause-same : goal.returns-then-all_stay_same-clause-same
returns-then-all_stay_same-clause-same g c =
    let at = c.args.at.now in
    let stay = subst (AllByRecursion StaysSame) c.as_slice.ensures (c.all_stay_same.ensures.is c.if-all_stay_same.true) in
    IfOk-weaker c.alone_parts.result _ _
    (λ parts e. parts_told at.base.now c.requires.fit.0 c.args.def.now _ c.requires.fit.1 parts (none_changes at.base.now at.lo at.tables.now c.args.changes stay (links_of c.args.def.now.cond) parts e))
    c.alone_parts.ensures

pub returns-then-all_stay_same-clause-of : goal.returns-then-all_stay_same-clause-of
returns-then-all_stay_same-clause-of g c =
    let at = c.args.at.now in
    let stay = subst (AllByRecursion StaysSame) c.as_slice.ensures (c.all_stay_same.ensures.is c.if-all_stay_same.true) in
    IfOk-weaker c.alone_parts.result _ _
    (λ parts e. of_told at.base.now c.requires.fit.0 c.args.def.now _ c.requires.fit.1 parts (none_changes at.base.now at.lo at.tables.now c.args.changes stay (links_of c.args.def.now.cond) parts e))
    c.alone_parts.ensures

pub returns-clause-none : goal.returns-clause-none
returns-clause-none g c = λ stay.
    let no : true ≡ false = sym (c.all_stay_same.ensures.all (subst (AllByRecursion StaysSame) (sym c.as_slice.ensures) stay)) ∙ c.if-all_stay_same.false in
    cc
