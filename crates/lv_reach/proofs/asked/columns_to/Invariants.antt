use Rattle.std.proofs.Common.{◌≡◌, ◌++◌, drop}
use Rattle.lv_reach.specs.Walk.{columns_to}
use Rattle.lv_reach.proofs.asked.columns_to.Given as goal

abbrev pub invariant-loop-link : goal.invariant-loop-link
invariant-loop-link l = l.columns ++ columns_to (drop l.link-index l.links) l.from l.to ≡ columns_to l.links l.from l.to
