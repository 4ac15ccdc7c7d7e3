use Rattle.std.proofs.Common.{◌≡◌, ◌↔◌, drop}
use Rattle.lv_reach.specs.Walk.{values_to}
use Rattle.lv_reach.proofs.asked.are_values_to.Given as goal

abbrev pub invariant-loop-link : goal.invariant-loop-link
invariant-loop-link l = (l.rest ≡ values_to (drop l.link-index l.links) l.a l.to) ↔ (l.values ≡ values_to l.links l.a l.to)
