use Rattle.std.proofs.Common.{◌≡◌, subst}
use Rattle.std.specs.Ordering.{is_lt}
use Rattle.lv_schema.specs.declared.version.RowVersion.{RowVersion}
use Rattle.lv_shelf.specs.Cuts.{IsCut}
use Rattle.lv_shelf.specs.Shelves.{other_at}
use Rattle.lv_shelf.proofs.Cutting.{got_within}
use Rattle.lv_shelf.specs.Chains.{chain_at}
use Rattle.lv_versions.specs.Versions.{index_cmp}
use Rattle.lv_versions.proofs.Indexing.{found_in, index_total}
use Rattle.lv_versions.proofs.Keeping.{same_item}
use Rattle.lv_versions.proofs.indexes.leave.Goals as goal

pub leave-requires-clause-place : goal.leave-requires-clause-place
leave-requires-clause-place c =
    let order = other_at c.args.versions.now.others c.args.order in
    let place = c.place_in-place.result in
    let v = c.oldest.result.now in
    got_within order place v (found_in (index_total c.args.columns.now c.args.positions.now) v place order c.requires.ascends (c.requires.there v c.oldest.ensures) c.place_in-place.ensures.cut)

pub returns-clause-left : goal.returns-clause-left
returns-clause-left c = λ v e.
    let cs = c.args.columns.now in
    let ps = c.args.positions.now in
    let order = other_at c.args.versions.now.others c.args.order in
    let place = c.place_in-place.result in
    let same : c.oldest.result.now ≡ v = same_item (chain_at c.args.versions.now.chains c.args.chain) 0 c.oldest.result.now v c.oldest.ensures e in
    let cut = subst (λ (x : RowVersion). IsCut (λ y. is_lt (index_cmp cs ps y x)) place order) same c.place_in-place.ensures.cut in
    (place, (found_in (index_total cs ps) v place order c.requires.ascends (c.requires.there v e) cut, c.leave.ensures.left))
