use Rattle.std.proofs.Common.{◌+◌, ◌++◌, [], length, length-append, drop, take, filter, sym, ap, ◌∙◌, arith}
use Rattle.std.proofs.lemmas.List.{append-nil}
use Rattle.std.proofs.lemmas.Result.{MatchResult-from_err}
use Rattle.lv_shelf.specs.Chains.{joined}
use Rattle.lv_versions.specs.Versions.{state_at}
use Rattle.lv_versions.proofs.ReadingChains.{chains_step, no_chain_left, passing_chains}
use Rattle.lv_versions.proofs.versions.rows_in.Goals as goal

pub loop-at-preserved : goal.loop-at-preserved
loop-at-preserved g c =
    let n = c.args.n in
    let i = c.loop-at.at in
    let end = c.args.end in
    let cs = c.args.seen.now in
    let k = length c.run-run.result in
    let p = g.T.Test.passed c.args.test.now in
    let step = passing_chains p n i end k c.loop-at.rows cs c.run-run.ensures.within in
    let shown = ap length (chains_step n i end k [] cs c.run-run.ensures.within) in
    let rest = state_at n (joined (drop (i + k) (take end cs))) in
    let both = length-append (state_at n (joined (take k (drop i cs)))) rest in
    rw c.len-at.ensures (record {
      rows = ap (λ l. l ++ filter p rest) c.in_ok-copy_run.ensures.pushed ∙ step ∙ c.loop-at.invariant.rows;
      cost = omega (arith, c.in_ok-copy_run.ensures.cost, c.loop-at.invariant.cost, shown, both);
    })

pub returns-clause-rows : goal.returns-clause-rows
returns-clause-rows g c =
    let p = g.T.Test.passed c.args.test.now in
    let none = ap (filter p) (no_chain_left c.args.n c.args.end c.loop-at.at c.args.seen.now c.loop-at-test.false) in
    sym (append-nil c.loop-at.rows) ∙ sym (ap (λ l. c.loop-at.rows ++ l) none) ∙ c.loop-at.invariant.rows

pub returns-clause-cost : goal.returns-clause-cost
returns-clause-cost g c =
    let none = ap length (no_chain_left c.args.n c.args.end c.loop-at.at c.args.seen.now c.loop-at-test.false) in
    omega (arith, none, c.loop-at.invariant.cost)

pub returns-in_err-copy_run-clause-most : goal.returns-in_err-copy_run-clause-most
returns-in_err-copy_run-clause-most g c =
    let n = c.args.n in
    let i = c.loop-at.at in
    let end = c.args.end in
    let cs = c.args.seen.now in
    let k = length c.run-run.result in
    let shown = ap length (chains_step n i end k [] cs c.run-run.ensures.within) in
    let both = length-append (state_at n (joined (take k (drop i cs)))) (state_at n (joined (drop (i + k) (take end cs)))) in
    MatchResult-from_err c.from_residual.result _ _ c.from_residual.ensures.0 (λ _. omega (arith, c.in_err-copy_run.ensures.refused, c.loop-at.invariant.cost, shown, both))
