use Rattle.std.proofs.Common.{◌≡◌, drop}
use Rattle.lv_query.specs.Whole.{whole_from}
use Rattle.lv_query.proofs.alone.is_whole.Given as goal

abbrev pub invariant-loop-i : goal.invariant-loop-i
invariant-loop-i l = whole_from 0 l.list ≡ whole_from l.i (drop l.i l.list)
