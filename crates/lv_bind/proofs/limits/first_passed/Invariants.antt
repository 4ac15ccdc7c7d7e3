use Rattle.std.proofs.Common.{◌≡◌, drop}
use Rattle.lv_bind.specs.Limits.{passed_limits}
use Rattle.lv_bind.specs.Sources.{first}
use Rattle.lv_bind.proofs.limits.first_passed.Given as goal

abbrev pub invariant-loop-measure : goal.invariant-loop-measure
invariant-loop-measure l = first (passed_limits (drop l.measure-index l.all)) ≡ first (passed_limits l.all)
