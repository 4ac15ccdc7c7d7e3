use Rattle.std.proofs.Common.{◌≡◌, true, map, sym, ap, ◌∙◌, subst}
use Rattle.std.specs.List.{list_all}
use Rattle.lv_schema.specs.declared.view.ViewDef.{ViewDef}
use Rattle.lv_schema.specs.Bound.{has_col}
use Rattle.lv_schema.specs.JoinViews.{plain_columns, selected}
use Rattle.lv_group.specs.Gathered.{AreInts}
use Rattle.lv_store.specs.Querying.{own_rows_in}
use Rattle.lv_store.proofs.OwnReads.{own_ints, view_listed}
use Rattle.lv_store.proofs.store.Store.view_over_own_rows.Goals as goal

pub rows_by_definition-requires-clause-listed : goal.rows_by_definition-requires-clause-listed
rows_by_definition-requires-clause-listed g c =
    let whole = c.requires.whole in
    subst (λ (d : ViewDef). d.grouped ≡ true → list_all (λ col. has_col col d.groups) (plain_columns d.items) ≡ true) (sym c.view-def.ensures)
    (view_listed c.args.self.now whole.world whole.stands c.args.view c.requires.view)

pub rows_by_definition-requires-clause-ints : goal.rows_by_definition-requires-clause-ints
rows_by_definition-requires-clause-ints g c = λ grouped.
    let p = c.args.self.now in
    let whole = c.requires.whole in
    let own = own_rows_in p c.args.session in
    subst (λ parts. AreInts c.view-def.result.now (selected c.view-def.result.now.cond parts)) (sym (c.as_slice-2.ensures ∙ c.in_ok-parts.ensures ∙ ap (map own) c.as_slice.ensures))
    (subst (λ (d : ViewDef). AreInts d (selected d.cond (map own d.tables))) (sym c.view-def.ensures)
    (own_ints p whole.world whole.stands c.args.session c.requires.live (whole.under c.args.session) c.args.view c.requires.view))
