use Rattle.std.proofs.Common.{◌≡◌}
use Rattle.lv_reach.proofs.FarLaws.{NoneBelow}
use Rattle.lv_reach.proofs.far.is_far.Given as goal

abbrev pub invariant-loop-part : goal.invariant-loop-part
invariant-loop-part l = (l.alias ≡ l.part-index) × NoneBelow l.links l.parts l.to l.part-index
