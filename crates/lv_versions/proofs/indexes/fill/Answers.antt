use Rattle.std.proofs.Common.{◌≡◌, ◌++◌, List, filter, take, sym, subst, arith}
use Rattle.std.proofs.lemmas.List.{take_all}
use Rattle.lv_schema.specs.declared.version.RowVersion.{RowVersion}
use Rattle.lv_shelf.specs.Shelves.{other_at}
use Rattle.lv_shelf.specs.Chains.{joined}
use Rattle.lv_versions.specs.Versions.{AreEnded, AreIndexed, is_open}
use Rattle.lv_versions.proofs.DroppingChains.{filled_all}
use Rattle.lv_versions.proofs.indexes.fill.Goals as goal

pub returns-clause-filled : goal.returns-clause-filled
returns-clause-filled c =
    let cs = c.args.columns.now in
    let ps = c.args.positions.now in
    let old = c.args.versions.now in
    let first = c.fill_ended.new.versions in
    let now = c.loop-chain.versions in
    let order = other_at now.others c.args.order in
    let ended = other_at first.others 0 in
    let start : ended ≡ other_at old.others 0 = c.fill_ended.ensures.others 0 (λ e. absurd (omega (arith, e, c.requires.order))) in
    let are : AreEnded ended (joined first.chains) =
    subst (λ (l : List (List RowVersion)). AreEnded ended (joined l)) (sym c.fill_ended.ensures.same) (subst (λ l. AreEnded l (joined old.chains)) (sym start) c.requires.ended) in
    let whole : take c.loop-chain.chain first.chains ≡ first.chains = take_all c.loop-chain.chain first.chains (omega (arith, c.loop-chain-test.false, c.chains-chain-end.ensures.count)) in
    subst (λ (l : List (List RowVersion)). AreIndexed cs ps order (joined l)) (sym c.loop-chain.invariant.same)
    (filled_all cs ps order ended (joined first.chains) are (subst (λ (l : List (List RowVersion)). AreIndexed cs ps order (ended ++ filter is_open (joined l))) whole c.loop-chain.invariant.filled))
