use Rattle.std.proofs.Common.{subst}
use Rattle.lv_runner.specs.Plan.{IsCause}
use Rattle.lv_runner.proofs.reading.plan_of.Goals as goal

pub returns-in-Err : goal.returns-in-Err
returns-in-Err c = subst (λ bytes. IsCause bytes c.refused.result) c.as_slice.ensures (c.refused.ensures c.as_slice.result.now c.in-Err.ensures.fault)
