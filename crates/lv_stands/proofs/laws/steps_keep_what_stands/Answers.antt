use Rattle.lv_stands.proofs.Runs.{steps_stand, forced_follow, forced_reads}
use Rattle.lv_stands.proofs.Steps.{step_stands}
use Rattle.lv_stands.proofs.laws.steps_keep_what_stands.Goals as goal

pub returns-clause-step : goal.returns-clause-step
returns-clause-step c = step_stands

pub returns-clause-steps : goal.returns-clause-steps
returns-clause-steps c = steps_stand

pub returns-clause-forced : goal.returns-clause-forced
returns-clause-forced c = forced_follow

pub returns-clause-reads : goal.returns-clause-reads
returns-clause-reads c = forced_reads
