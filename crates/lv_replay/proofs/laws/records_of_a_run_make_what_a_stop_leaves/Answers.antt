use Rattle.std.proofs.Common.{refl}
use Rattle.lv_replay.proofs.Runs.{run_goes_on}
use Rattle.lv_replay.proofs.laws.records_of_a_run_make_what_a_stop_leaves.Goals as goal

pub returns-clause-nothing : goal.returns-clause-nothing
returns-clause-nothing c = refl

pub returns-clause-goes_on : goal.returns-clause-goes_on
returns-clause-goes_on c = run_goes_on
