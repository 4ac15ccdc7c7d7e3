use Rattle.std.proofs.Common.{length, false}
use Rattle.lv_shelf.specs.Chains.{joined}
use Rattle.lv_versions.proofs.Between.{prefix_falls}
use Rattle.lv_versions.proofs.ReadingChains.{prefix_agrees}
use Rattle.lv_versions.proofs.versions.place_of_low.Goals as goal

pub cut_near-requires-clause-falls : goal.cut_near-requires-clause-falls
cut_near-requires-clause-falls c = rw c.up_to.ensures (prefix_falls (length c.in-Some.values.now) c.args.positions.now c.in-Some.values.now false (joined c.args.seen.now) c.requires.stand)

pub cut_near-requires-clause-agrees : goal.cut_near-requires-clause-agrees
cut_near-requires-clause-agrees c = rw c.up_to.ensures (prefix_agrees (length c.in-Some.values.now) c.args.positions.now c.in-Some.values.now false c.args.seen.now c.requires.chained)

pub returns-in-Some-clause-cut : goal.returns-in-Some-clause-cut
returns-in-Some-clause-cut c = rw c.in-Some.is (rw c.up_to.ensures at c.cut_near.ensures.cut)
