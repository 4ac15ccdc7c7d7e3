use Rattle.std.proofs.Common.{◌≡◌, ◌++◌, drop}
use Rattle.lv_viewrows.proofs.versions.Versions.copy.Given as goal

abbrev pub invariant-loop-at : goal.invariant-loop-at
invariant-loop-at l = l.made.list ++ drop l.at l.self.list ≡ l.self.list
