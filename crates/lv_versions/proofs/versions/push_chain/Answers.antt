use Rattle.std.proofs.Common.{◌≡◌, ◌+◌, ◌++◌, length, sym, ap, ◌∙◌, subst, arith}
use Rattle.std.specs.Prelude.{OnOk}
use Rattle.std.proofs.lemmas.List.{append-nil}
use Rattle.lv_versions.proofs.Finding.{seen}
use Rattle.lv_versions.proofs.ReadingChains.{chain_hits, chain_misses}
use Rattle.lv_versions.proofs.versions.push_chain.Goals as goal

pub returns-in-Some-clause-pushed : goal.returns-in-Some-clause-pushed
returns-in-Some-clause-pushed g c =
    let is = chain_hits c.args.columns.now c.args.values.now c.args.n c.args.chain c.args.seen.now c.in-Some.version.now c.requires.chain c.requires.histories c.in-Some.ensures in
    subst (λ l. OnOk c.push_hit.result (seen c.push_hit.new.rows.items ≡ seen c.args.rows.now.items ++ l)) (sym is) c.push_hit.ensures.pushed

pub returns-in-Some-clause-cost : goal.returns-in-Some-clause-cost
returns-in-Some-clause-cost g c =
    let is = chain_hits c.args.columns.now c.args.values.now c.args.n c.args.chain c.args.seen.now c.in-Some.version.now c.requires.chain c.requires.histories c.in-Some.ensures in
    subst (λ l. OnOk c.push_hit.result (c.push_hit.new.steps ≡ c.args.steps.now + length l)) (sym is) c.push_hit.ensures.cost

pub returns-in-None-clause-pushed : goal.returns-in-None-clause-pushed
returns-in-None-clause-pushed g c =
    let rows = seen c.args.rows.now.items in
    let is = chain_misses c.args.columns.now c.args.values.now c.args.n c.args.chain c.args.seen.now c.requires.chain c.requires.histories c.in-None.ensures in
    sym (append-nil rows) ∙ ap (λ l. rows ++ l) (sym is)

pub returns-in-None-clause-cost : goal.returns-in-None-clause-cost
returns-in-None-clause-cost g c =
    let is = ap length (chain_misses c.args.columns.now c.args.values.now c.args.n c.args.chain c.args.seen.now c.requires.chain c.requires.histories c.in-None.ensures) in
    omega (arith, is)
