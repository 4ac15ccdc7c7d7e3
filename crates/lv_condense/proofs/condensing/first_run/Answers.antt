use Rattle.lv_condense.proofs.Runs.{run_of_first, run_of_one}
use Rattle.lv_condense.proofs.condensing.first_run.Goals as goal

pub returns-then-ascend : goal.returns-then-ascend
returns-then-ascend c = run_of_one c.args.touches.now c.requires.some (c.requires.ascend c.if-ascend.true)

pub returns : goal.returns
returns c = run_of_first c.args.touches.now c.split_at.result.1.now c.index-touches-0.result c.run_len.result c.requires.some c.split_at.ensures.back c.index-touches-0.is c.run_len.ensures.run
