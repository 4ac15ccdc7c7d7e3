use Rattle.std.proofs.Common.{◌≡◌}
use Rattle.lv_outside.specs.Crashes.{filling}
use Rattle.lv_outside.proofs.crash_disk.fill.Given as goal

abbrev pub invariant-loop-k : goal.invariant-loop-k
invariant-loop-k l = l.piece.items ≡ filling l.pick l.image l.at l.k
