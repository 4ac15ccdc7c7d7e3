use Rattle.lv_schema.proofs.ForcedSteps.{forced_done}
use Rattle.lv_schema.proofs.laws.forced_steps_leave_nothing_pending.Goals as goal

pub returns : goal.returns
returns c = forced_done
