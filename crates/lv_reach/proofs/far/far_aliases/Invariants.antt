use Rattle.lv_reach.specs.Far.{AreFlags}
use Rattle.lv_reach.proofs.far.far_aliases.Given as goal

abbrev pub invariant-loop-alias : goal.invariant-loop-alias
invariant-loop-alias l = AreFlags l.links l.parts l.alias l.flags
