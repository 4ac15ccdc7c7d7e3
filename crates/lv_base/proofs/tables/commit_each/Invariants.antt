use Rattle.std.proofs.Common.{length}
use Rattle.lv_base.proofs.Places.{AreTaken}
use Rattle.lv_base.proofs.tables.commit_each.Given as goal

abbrev pub invariant-loop-net : goal.invariant-loop-net
invariant-loop-net l = AreTaken l.last l.fn.nets l.fn.tables l.nets l.tables

abbrev pub decreases-loop-net : goal.decreases-loop-net
decreases-loop-net l = length l.nets
