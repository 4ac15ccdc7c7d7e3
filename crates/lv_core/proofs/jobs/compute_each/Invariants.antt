use Rattle.std.proofs.Common.{◌≡◌, ◌++◌, map}
use Rattle.lv_maint.specs.Inputs.{Outcome}
use Rattle.lv_core.proofs.jobs.compute_each.Given as goal

abbrev pub invariant-loop-input : goal.invariant-loop-input
invariant-loop-input l = map (λ (o : Outcome). o.input) l.outcomes ++ l.input-iterator.rest.items ≡ l.fn.inputs
