use Rattle.lv_schema.proofs.PlannedSteps.{planned_is_greatest}
use Rattle.lv_schema.proofs.laws.planned_step_is_greatest.Goals as goal

pub returns : goal.returns
returns c = planned_is_greatest
