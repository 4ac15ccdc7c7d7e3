use Rattle.std.proofs.Common.{◌≡◌, ◌++◌, ◌∷◌, [], cond, sym, ap, ◌∙◌, subst}
use Rattle.std.specs.Prelude.{OnOk}
use Rattle.lv_versions.specs.Versions.{with_index}
use Rattle.lv_versions.proofs.Keeping.{has_told}
use Rattle.lv_versions.proofs.versions.Versions.add_index.Goals as goal

pub returns-then-is_some-clause-added : goal.returns-then-is_some-clause-added
returns-then-is_some-clause-added c =
    let indexes = c.self.inside.indexes.list in
    let columns = c.args.columns.now in
    let has = has_told c.index_by.result indexes columns (rw c.as_slice.ensures at c.index_by.ensures) in
    sym (ap (λ v. v.indexes) c.self.view_is)
    ∙ sym (ap (λ t. cond t indexes (indexes ++ columns ∷ [])) (has ∙ sym c.is_some.ensures ∙ c.if-is_some.true))
    ∙ ap (λ v. with_index columns v.indexes) c.self.view_is

pub returns-clause-added : goal.returns-clause-added
returns-clause-added c =
    let indexes = c.self.inside.indexes.list in
    let columns = c.args.columns.now in
    let has = has_told c.index_by.result indexes columns (rw c.as_slice.ensures at c.index_by.ensures) in
    let new : with_index columns indexes ≡ indexes ++ columns ∷ [] = ap (λ t. cond t indexes (indexes ++ columns ∷ [])) (has ∙ sym c.is_some.ensures ∙ c.if-is_some.false) in
    subst (λ l. OnOk c.add_index.result (c.add_index.new.indexes.list ≡ l)) (sym new ∙ ap (λ v. with_index columns v.indexes) c.self.view_is) c.add_index.ensures.added
