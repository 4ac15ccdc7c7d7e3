use Rattle.std.proofs.Common.{◌≡◌, ◌++◌, ◌∷◌, List, [], length, take, sym, ap, subst, ◌∙◌}
use Rattle.std.specs.List.{insert}
use Rattle.std.proofs.lemmas.List.{get_or-set_other, get_or-set_same, length-set}
use Rattle.std.proofs.lemmas.List.Edits.{insert_end}
use Rattle.lv_schema.proofs.Apart.{all_filter}
use Rattle.lv_schema.specs.declared.version.RowVersion.{RowVersion}
use Rattle.lv_shelf.specs.Shelves.{LacksItem, other_at}
use Rattle.lv_shelf.specs.Chains.{joined}
use Rattle.lv_versions.specs.Versions.{is_open}
use Rattle.lv_versions.proofs.DroppingChains.{ended_more, newest_lacks, open_more}
use Rattle.lv_versions.proofs.crowding.enter_open.Goals as goal

pub enter-requires-clause-absent : goal.enter-requires-clause-absent
enter-requires-clause-absent c = λ v e.
    let ps = c.args.positions.now in
    let old = c.args.versions.now in
    subst (LacksItem v) (sym c.requires.current)
    (all_filter (λ y. y ≡ v → ⊥) is_open (joined (take c.args.chain old.chains)) (newest_lacks ps old.chains c.args.chain v c.requires.stand c.requires.chain e))

pub returns-then-is_open-clause-current : goal.returns-then-is_open-clause-current
returns-then-is_open-clause-current c =
    let old = c.args.versions.now in
    let v = c.newest-version.result.now in
    let order = other_at old.others 1 in
    let more : List RowVersion = insert order c.len_in-last.result v in
    ap (λ l. other_at l 1) (c.enter.ensures.entered v c.newest-version.ensures)
    ∙ get_or-set_same old.others 1 more [] c.requires.order
    ∙ ap (λ i. insert order i v) c.len_in-last.ensures
    ∙ insert_end order v
    ∙ ap (λ l. l ++ v ∷ []) c.requires.current
    ∙ sym (open_more c.args.positions.now old.chains c.args.chain v c.requires.stand c.requires.chained c.requires.chain c.newest-version.ensures (sym c.is_open.ensures ∙ c.if-is_open.true))

pub returns-then-is_open-clause-others : goal.returns-then-is_open-clause-others
returns-then-is_open-clause-others c = λ k ne.
    let old = c.args.versions.now in
    let v = c.newest-version.result.now in
    let more : List RowVersion = insert (other_at old.others 1) c.len_in-last.result v in
    ap (λ l. other_at l k) (c.enter.ensures.entered v c.newest-version.ensures) ∙ get_or-set_other old.others 1 k more [] ne

pub returns-then-is_open-clause-count : goal.returns-then-is_open-clause-count
returns-then-is_open-clause-count c =
    let old = c.args.versions.now in
    let v = c.newest-version.result.now in
    ap length (c.enter.ensures.entered v c.newest-version.ensures) ∙ length-set old.others 1 (insert (other_at old.others 1) c.len_in-last.result v)

pub returns-else-is_open-clause-current : goal.returns-else-is_open-clause-current
returns-else-is_open-clause-current c =
    c.requires.current
    ∙ sym (ended_more c.args.positions.now c.args.versions.now.chains c.args.chain c.newest-version.result.now c.requires.stand c.requires.chained c.requires.chain c.newest-version.ensures (sym c.is_open.ensures ∙ c.if-is_open.false))
