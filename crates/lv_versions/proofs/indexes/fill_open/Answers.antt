use Rattle.std.proofs.Common.{◌≡◌, ◌+◌, List, [], length, set, sym, ap, subst, ◌∙◌}
use Rattle.std.proofs.lemmas.List.{get_or-set_other, get_or-set_same, length-set}
use Rattle.lv_values.specs.Ascending.{placed}
use Rattle.lv_schema.specs.declared.version.RowVersion.{RowVersion}
use Rattle.lv_shelf.specs.Shelves.{LacksItem, other_at}
use Rattle.lv_shelf.specs.Chains.{chain_at}
use Rattle.lv_versions.specs.Versions.{AreIndexed, index_cmp}
use Rattle.lv_versions.proofs.DroppingChains.{filled_next, filled_same, filled_to, open_lacks}
use Rattle.lv_versions.proofs.Indexing.{indexed_lacks}
use Rattle.lv_versions.proofs.Keeping.{same_item}
use Rattle.lv_versions.proofs.indexes.fill_open.Goals as goal

pub enter-requires-clause-ascends : goal.enter-requires-clause-ascends
enter-requires-clause-ascends c = c.requires.front.ascends

pub enter-requires-clause-absent : goal.enter-requires-clause-absent
enter-requires-clause-absent c = λ v e.
    let ps = c.args.positions.now in
    let old = c.args.versions.now in
    let i = c.args.chain in
    let ended = other_at old.others 0 in
    let w = c.newest.result.now in
    let same : w ≡ v = same_item (chain_at old.chains i) _ w v c.newest.ensures e in
    let lacks = open_lacks ps ended old.chains i w c.requires.stand c.requires.chain c.requires.ended c.newest.ensures (sym c.is_open.ensures ∙ c.if-is_open.true) in
    subst (λ (x : RowVersion). LacksItem x (other_at old.others c.args.order)) same (indexed_lacks c.args.columns.now ps (other_at old.others c.args.order) (filled_to ended old.chains i) w lacks c.requires.front)

pub returns-then-is_open-clause-filled : goal.returns-then-is_open-clause-filled
returns-then-is_open-clause-filled c =
    let cs = c.args.columns.now in
    let ps = c.args.positions.now in
    let old = c.args.versions.now in
    let now = c.enter.new.versions in
    let i = c.args.chain in
    let j = c.args.order in
    let ended = other_at old.others 0 in
    let v = c.newest.result.now in
    let put : List RowVersion = placed (index_cmp cs ps) v (other_at old.others j) in
    let entered : now.others ≡ set old.others j put = c.enter.ensures.entered v c.newest.ensures in
    subst (λ l. AreIndexed cs ps l (filled_to ended old.chains (i + 1))) (sym (ap (λ l. other_at l j) entered ∙ get_or-set_same old.others j put [] c.requires.last))
    (filled_next cs ps (other_at old.others j) ended old.chains i v c.requires.stand c.requires.chained c.requires.chain c.requires.ended c.newest.ensures (sym c.is_open.ensures ∙ c.if-is_open.true) c.requires.front)

pub returns-then-is_open-clause-others : goal.returns-then-is_open-clause-others
returns-then-is_open-clause-others c = λ k ne.
    let old = c.args.versions.now in
    let v = c.newest.result.now in
    let put : List RowVersion = placed (index_cmp c.args.columns.now c.args.positions.now) v (other_at old.others c.args.order) in
    ap (λ l. other_at l k) (c.enter.ensures.entered v c.newest.ensures) ∙ get_or-set_other old.others c.args.order k put [] ne

pub returns-then-is_open-clause-count : goal.returns-then-is_open-clause-count
returns-then-is_open-clause-count c =
    let old = c.args.versions.now in
    let v = c.newest.result.now in
    ap length (c.enter.ensures.entered v c.newest.ensures) ∙ length-set old.others c.args.order (placed (index_cmp c.args.columns.now c.args.positions.now) v (other_at old.others c.args.order))

pub returns-else-is_open-clause-filled : goal.returns-else-is_open-clause-filled
returns-else-is_open-clause-filled c =
    let old = c.args.versions.now in
    filled_same c.args.columns.now c.args.positions.now (other_at old.others c.args.order) (other_at old.others 0) old.chains c.args.chain c.newest.result.now c.requires.stand c.requires.chained c.requires.chain c.newest.ensures
    (sym c.is_open.ensures ∙ c.if-is_open.false) c.requires.front
