use Rattle.std.proofs.Common.{◌≡◌, List, None, length, sym, ap, subst, arith}
use Rattle.std.specs.List.{AllByRecursion}
use Rattle.lv_schema.specs.declared.part.Part.{Part}
use Rattle.lv_reach.specs.Links.{links_of}
use Rattle.lv_reach.specs.Within.{OnlyChanges, without_old}
use Rattle.lv_reach.proofs.Within.{bound_no_more, changes_without}
use Rattle.lv_near.specs.Small.{StaysSame, with_tables}
use Rattle.lv_near.proofs.Inputs.{each_table, few_tables, most_over}
use Rattle.lv_near.proofs.PairSteps.{none_alone}
use Rattle.lv_near.proofs.differing.difference_by.Goals as goal

pub only_changing-requires : goal.only_changing-requires
only_changing-requires g c =
    let at = c.args.at.now in
    let same = ap (λ (l : List Part). length l) c.as_slice.ensures in
    omega (
      arith,
      same,
      each_table at.base.now c.args.def.now at.tables.now at.lo c.args.changes None c.requires.tables (none_alone c.args.changes) c.requires.fit.0 c.requires.fit.1,
      few_tables at.base.now c.args.def.now at.tables.now at.lo c.args.changes None c.requires.tables (none_alone c.args.changes) c.requires.fit.0 c.requires.fit.1,
    )

pub returns-in-Some-clause-most : goal.returns-in-Some-clause-most
returns-in-Some-clause-most g c =
    let at = c.args.at.now in
    let whole = with_tables at.base.now at.tables.now at.lo c.args.changes in
    bound_no_more (links_of c.args.def.now.cond) (without_old c.in-Some.alias whole) whole (changes_without c.in-Some.alias whole) c.args.steps.now c.difference_by_one.new.steps c.difference_by_one.ensures.most

pub returns-in-Some-clause-less : goal.returns-in-Some-clause-less
returns-in-Some-clause-less g c = λ i near far only.
    let at = c.args.at.now in
    let whole = with_tables at.base.now at.tables.now at.lo c.args.changes in
    let same : c.in-Some.alias ≡ i = c.only_changing.ensures.it c.in-Some.alias i c.in-Some.is (subst (OnlyChanges i) (sym c.as_slice.ensures) only) in
    most_over (links_of c.args.def.now.cond) c.args.steps.now c.difference_by_one.new.steps _ _ (ap (λ n. without_old n whole) same) c.difference_by_one.ensures.most near far

pub returns-in-None-clause-less : goal.returns-in-None-clause-less
returns-in-None-clause-less g c = λ i near far only reach.
    let stay = c.only_changing.ensures.none i c.in-None.is (subst (OnlyChanges i) (sym c.as_slice.ensures) only) in
    let none = c.walked_difference.ensures.none (subst (AllByRecursion StaysSame) c.as_slice.ensures stay) in
    omega (arith, none)
