use Rattle.std.proofs.Common.{arith}
use Rattle.lv_store.proofs.OwnReads.{snapshot_within}
use Rattle.lv_store.proofs.store.Store.next_commit.Goals as goal

pub conflict-requires-clause-kept : goal.conflict-requires-clause-kept
conflict-requires-clause-kept c = omega (arith, c.deltas-deltas.ensures.floor, snapshot_within c.args.self.now c.requires.whole.world c.requires.whole.stands c.args.session c.requires.live)
