use Rattle.std.proofs.Common.{◌≡◌, ◌+◌, ◌<◌, ◌++◌, [], length, length-append, drop, take, filter, sym, ap, ◌∙◌, arith}
use Rattle.std.proofs.lemmas.List.{append-nil, at_drop_all}
use Rattle.lv_shelf.proofs.Cutting.{got_within}
use Rattle.lv_shelf.specs.Chains.{all_newest, chain_at, joined}
use Rattle.lv_versions.specs.Versions.{state_at}
use Rattle.lv_versions.proofs.ReadingChains.{chain_step, chain_within, in_run, newest_at, passing_chain, run_long}
use Rattle.lv_versions.proofs.versions.copy_run.Goals as goal

pub copy_chain-requires-clause-newest : goal.copy_chain-requires-clause-newest
copy_chain-requires-clause-newest g c =
    let cs = c.args.seen.now in
    let run = c.args.run.now in
    let i = c.loop-i.i in
    let v = c.get.result.now in
    newest_at cs (c.args.first + i) v c.requires.some (in_run run (all_newest cs) c.args.first i v c.requires.run c.get.ensures)

pub loop-i-preserved : goal.loop-i-preserved
loop-i-preserved g c =
    let n = c.args.n in
    let i = c.loop-i.i in
    let cs = c.args.seen.now in
    let run = c.args.run.now in
    let p = g.T.Test.passed c.args.test.now in
    let chains = take (length run) (drop c.args.first cs) in
    let lt : i < length run = got_within run i c.get.result.now c.get.ensures in
    let long : length chains ≡ length run = run_long cs c.args.first (length run) c.requires.end in
    let within : i < length chains = omega (arith, lt, long) in
    let here : chain_at cs (c.args.first + i) ≡ chain_at chains i = sym (chain_within cs c.args.first (length run) i lt) in
    let rest = state_at n (joined (drop (i + 1) chains)) in
    let shown = ap length (chain_step n i [] chains within) in
    let both = length-append (state_at n (chain_at chains i)) rest in
    let size = ap (λ l. length (state_at n l)) here in
    record {
      rows = ap (λ l. l ++ filter p rest) (c.in_ok-copy_chain.ensures.pushed ∙ ap (λ l. c.loop-i.rows ++ filter p (state_at n l)) here) ∙ passing_chain p n i c.loop-i.rows chains within ∙ c.loop-i.invariant.rows;
      cost = omega (arith, c.in_ok-copy_chain.ensures.cost, c.loop-i.invariant.cost, shown, both, size);
    }

pub returns-clause-pushed : goal.returns-clause-pushed
returns-clause-pushed g c =
    let p = g.T.Test.passed c.args.test.now in
    let run = c.args.run.now in
    let chains = take (length run) (drop c.args.first c.args.seen.now) in
    let long : length chains ≡ length run = run_long c.args.seen.now c.args.first (length run) c.requires.end in
    let none = at_drop_all (λ l. filter p (state_at c.args.n (joined l))) chains c.loop-i.i (omega (arith, long, c.loop-i-test.false, c.len-i-end.ensures)) in
    sym (append-nil c.loop-i.rows) ∙ sym (ap (λ l. c.loop-i.rows ++ l) none) ∙ c.loop-i.invariant.rows

pub returns-clause-cost : goal.returns-clause-cost
returns-clause-cost g c =
    let run = c.args.run.now in
    let chains = take (length run) (drop c.args.first c.args.seen.now) in
    let long : length chains ≡ length run = run_long c.args.seen.now c.args.first (length run) c.requires.end in
    let none = at_drop_all (λ l. length (state_at c.args.n (joined l))) chains c.loop-i.i (omega (arith, long, c.loop-i-test.false, c.len-i-end.ensures)) in
    omega (arith, none, c.loop-i.invariant.cost)
