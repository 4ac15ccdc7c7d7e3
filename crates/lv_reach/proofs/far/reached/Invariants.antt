use Rattle.std.proofs.Common.{◌+◌, ◌≤◌, length}
use Rattle.lv_reach.proofs.Paths.{IsSpread}
use Rattle.lv_reach.proofs.far.reached.Given as goal

abbrev pub invariant-loop : goal.invariant-loop
invariant-loop l = IsSpread l.links l.count l.from l.found l.left × (l.counter + length l.left ≤ l.rounds)
