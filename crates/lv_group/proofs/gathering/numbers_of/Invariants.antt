use Rattle.std.proofs.Common.{◌≡◌, take}
use Rattle.lv_group.specs.Entries.{group_of, numbers_of}
use Rattle.lv_group.proofs.gathering.numbers_of.Given as goal

abbrev pub invariant-loop-col : goal.invariant-loop-col
invariant-loop-col l = l.group ≡ numbers_of (take l.col-index l.sums) (group_of l.first) l.entries
