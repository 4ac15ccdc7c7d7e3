use Rattle.std.proofs.Common.{◌≡◌, ◌++◌, take, drop}
use Rattle.lv_bags.specs.Tallies.{sums_added}
use Rattle.lv_bags.proofs.adding.add_each.Given as goal

abbrev pub invariant-loop-j : goal.invariant-loop-j
invariant-loop-j l = l.sums ≡ sums_added (take l.j l.initial.sums) (take l.j l.more) ++ drop l.j l.initial.sums
