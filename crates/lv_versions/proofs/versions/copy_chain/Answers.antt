use Rattle.std.proofs.Common.{◌≡◌, ◌+◌, ◌++◌, Some, None, length, filter, sym, ap, ◌∙◌, subst, arith}
use Rattle.std.specs.Prelude.{OnOk}
use Rattle.std.proofs.lemmas.List.{append-nil}
use Rattle.lv_versions.proofs.ReadingChains.{chain_shows}
use Rattle.lv_versions.proofs.versions.copy_chain.Goals as goal

pub returns-in-Some-clause-pushed : goal.returns-in-Some-clause-pushed
returns-in-Some-clause-pushed g c =
    let p = g.T.Test.passed c.args.test.now in
    let is = chain_shows c.args.n c.args.chain c.args.seen.now (Some c.in-Some.version.now) c.requires.chain c.requires.histories c.in-Some.ensures in
    subst (λ l. OnOk c.push_alive.result (c.push_alive.new.rows ≡ c.args.rows.now ++ filter p l)) (sym is) c.push_alive.ensures.pushed

pub returns-in-Some-clause-cost : goal.returns-in-Some-clause-cost
returns-in-Some-clause-cost g c =
    let is = chain_shows c.args.n c.args.chain c.args.seen.now (Some c.in-Some.version.now) c.requires.chain c.requires.histories c.in-Some.ensures in
    subst (λ l. OnOk c.push_alive.result (c.push_alive.new.steps ≡ c.args.steps.now + length l)) (sym is) c.push_alive.ensures.cost

pub returns-in-None-clause-pushed : goal.returns-in-None-clause-pushed
returns-in-None-clause-pushed g c =
    let rows = c.args.rows.now in
    let p = g.T.Test.passed c.args.test.now in
    let is = chain_shows c.args.n c.args.chain c.args.seen.now None c.requires.chain c.requires.histories c.in-None.ensures in
    sym (append-nil rows) ∙ ap (λ l. rows ++ filter p l) (sym is)

pub returns-in-None-clause-cost : goal.returns-in-None-clause-cost
returns-in-None-clause-cost g c =
    let is = ap length (chain_shows c.args.n c.args.chain c.args.seen.now None c.requires.chain c.requires.histories c.in-None.ensures) in
    omega (arith, is)
