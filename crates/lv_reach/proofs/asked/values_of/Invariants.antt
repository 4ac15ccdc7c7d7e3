use Rattle.std.proofs.Common.{◌≡◌, ◌++◌, drop}
use Rattle.lv_reach.specs.Reach.{of_alias}
use Rattle.lv_reach.specs.Walk.{values_to}
use Rattle.lv_reach.proofs.asked.values_of.Given as goal

abbrev pub invariant-loop-link : goal.invariant-loop-link
invariant-loop-link l = l.values ++ values_to (drop l.link-index l.links) (of_alias l.alias l.row) l.to ≡ values_to l.links (of_alias l.alias l.row) l.to
