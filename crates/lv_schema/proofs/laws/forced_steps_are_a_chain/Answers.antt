use Rattle.std.proofs.Common.{◌-◌, arith}
use Rattle.lv_schema.specs.StepPlans.{forced_from, at_point}
use Rattle.lv_schema.proofs.PlannedSteps.{forced_chain, chain_only}
use Rattle.lv_schema.proofs.laws.forced_steps_are_a_chain.Goals as goal

pub returns-clause-chain : goal.returns-clause-chain
returns-clause-chain c = λ settings s v m lo. forced_chain settings s v m (m - lo) lo (omega arith)

pub returns-clause-only : goal.returns-clause-only
returns-clause-only c = λ settings s v m lo steps chain. chain_only settings s v m lo steps (forced_from settings s (at_point v lo) m) chain (forced_chain settings s v m (m - lo) lo (omega arith))
