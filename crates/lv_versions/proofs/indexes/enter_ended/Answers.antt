use Rattle.std.proofs.Common.{◌≡◌, set, sym, ap, subst, ◌∙◌}
use Rattle.std.specs.Ordering.{is_lt}
use Rattle.lv_schema.specs.declared.version.RowVersion.{RowVersion}
use Rattle.lv_shelf.specs.Cuts.{IsCut}
use Rattle.lv_shelf.specs.Shelves.{other_at}
use Rattle.lv_versions.specs.Versions.{index_cmp}
use Rattle.lv_versions.proofs.Indexing.{index_total}
use Rattle.lv_versions.proofs.Keeping.{same_item}
use Rattle.lv_versions.proofs.Standing.{placed_there}
use Rattle.lv_versions.proofs.indexes.enter_ended.Goals as goal

pub returns-clause-entered : goal.returns-clause-entered
returns-clause-entered c = λ v e.
    let cs = c.args.columns.now in
    let ps = c.args.positions.now in
    let others = c.args.versions.now.others in
    let j = c.args.order in
    let place = c.place_in-place.result in
    let same : c.get_in-version.result.now ≡ v = same_item (other_at others 0) c.args.at c.get_in-version.result.now v c.get_in-version.ensures e in
    let cut = subst (λ (x : RowVersion). IsCut (λ y. is_lt (index_cmp cs ps y x)) place (other_at others j)) same c.place_in-place.ensures.cut in
    c.enter_from.ensures.entered v e ∙ sym (ap (set others j) (placed_there (index_cmp cs ps) (index_total cs ps) v (other_at others j) place cut))
