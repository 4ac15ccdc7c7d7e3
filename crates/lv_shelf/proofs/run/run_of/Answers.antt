use Rattle.std.proofs.Common.{◌∙◌, sym, ap, drop, take, arith}
use Rattle.lv_shelf.specs.Shelves.{items_at}
use Rattle.lv_shelf.proofs.Runs.{run_is}
use Rattle.lv_shelf.proofs.run.run_of.Goals as goal

pub returns-clause-some : goal.returns-clause-some
returns-clause-some g c =
    let run = run_is c.args.slots.now c.args.places.now.list c.run-numbers.result.now c.args.at c.requires.held c.run-numbers.ensures.run in
    omega (arith, run.long, c.run-numbers.ensures.some)

pub returns-clause-within : goal.returns-clause-within
returns-clause-within g c =
    let run = run_is c.args.slots.now c.args.places.now.list c.run-numbers.result.now c.args.at c.requires.held c.run-numbers.ensures.run in
    omega (arith, run.long, c.run-numbers.ensures.within)

pub returns-clause-run : goal.returns-clause-run
returns-clause-run g c =
    let run = run_is c.args.slots.now c.args.places.now.list c.run-numbers.result.now c.args.at c.requires.held c.run-numbers.ensures.run in
    run.same ∙ ap (λ n. take n (drop c.args.at (items_at c.args.slots.now c.args.places.now.list))) (sym run.long)
