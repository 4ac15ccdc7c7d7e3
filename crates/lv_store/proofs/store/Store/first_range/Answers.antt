use Rattle.std.proofs.Common.{◌∷◌, [], None, refl, sym, ap, ◌∙◌, subst}
use Rattle.std.specs.Prelude.{IfOk}
use Rattle.std.proofs.lemmas.Option.{get_or_from_slice_get}
use Rattle.std.proofs.lemmas.Result.{IfOk-weaker}
use Rattle.lv_schema.specs.Truth.{holds}
use Rattle.lv_viewrows.specs.Beginning.{AllFrom, AllUpTo, first_column}
use Rattle.lv_viewrows.specs.Kept.{ViewKept}
use Rattle.lv_store.specs.declared.sought.FirstRange.{FirstRange}
use Rattle.lv_store.specs.declared.sought.FirstRange.TheVariants.{Between}
use Rattle.lv_store.specs.Ranges.{IsSaid, IsSaidOf, highest_of, lowest_of}
use Rattle.lv_store.proofs.FirstValues.{said_from, said_up_to}
use Rattle.lv_store.proofs.store.Store.first_range.Goals as goal

pub returns-in-Some-clause-said : goal.returns-in-Some-clause-said
returns-in-Some-clause-said c kept e =
    let same = c.get.ensures ∙ get_or_from_slice_get c.args.self.now.rows.list c.args.view kept c.get.result.now e in
    let column = sym c.in-Some.is ∙ c.first_column.ensures.exact ∙ ap (λ (k : ViewKept). first_column k.def) same in
    subst (λ o. IfOk c.range_of.result (λ (range : FirstRange). IsSaidOf o c.args.cond.now range)) column c.range_of.ensures

pub returns-in-Some-clause-low : goal.returns-in-Some-clause-low
returns-in-Some-clause-low c kept e =
    let same = c.get.ensures ∙ get_or_from_slice_get c.args.self.now.rows.list c.args.view kept c.get.result.now e in
    let view = c.get.result.now.def in
    let cond = c.args.cond.now in
    let column = c.in-Some.column in
    subst (λ (k : ViewKept). IfOk c.range_of.result (λ range. AllFrom k.def (λ row. holds cond (row ∷ [])) (lowest_of range))) same
    (IfOk-weaker c.range_of.result (IsSaid column cond) (λ (range : FirstRange). AllFrom view (λ row. holds cond (row ∷ [])) (lowest_of range)) (said_from view column cond c.in-Some.ensures.first) c.range_of.ensures)

pub returns-in-Some-clause-high : goal.returns-in-Some-clause-high
returns-in-Some-clause-high c kept e =
    let same = c.get.ensures ∙ get_or_from_slice_get c.args.self.now.rows.list c.args.view kept c.get.result.now e in
    let view = c.get.result.now.def in
    let cond = c.args.cond.now in
    let column = c.in-Some.column in
    subst (λ (k : ViewKept). IfOk c.range_of.result (λ range. AllUpTo k.def (λ row. holds cond (row ∷ [])) (highest_of range))) same
    (IfOk-weaker c.range_of.result (IsSaid column cond) (λ (range : FirstRange). AllUpTo view (λ row. holds cond (row ∷ [])) (highest_of range)) (said_up_to view column cond c.in-Some.ensures.first) c.range_of.ensures)

pub returns-in-None-clause-said : goal.returns-in-None-clause-said
returns-in-None-clause-said c kept e =
    let same = c.get.ensures ∙ get_or_from_slice_get c.args.self.now.rows.list c.args.view kept c.get.result.now e in
    let column = sym c.in-None.is ∙ c.first_column.ensures.exact ∙ ap (λ (k : ViewKept). first_column k.def) same in
    subst (λ o. IsSaidOf o c.args.cond.now (Between None None)) column refl
