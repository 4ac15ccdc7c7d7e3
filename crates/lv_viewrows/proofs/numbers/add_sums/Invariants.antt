use Rattle.std.proofs.Common.{◌≡◌}
use Rattle.lv_viewrows.proofs.Sums.{added_upto}
use Rattle.lv_viewrows.proofs.numbers.add_sums.Given as goal

abbrev pub invariant-loop-i : goal.invariant-loop-i
invariant-loop-i l = l.more ≡ added_upto l.i l.sums l.initial.more
