use Rattle.std.proofs.Common.{arith}
use Rattle.lv_store.proofs.OwnReads.{snapshot_within}
use Rattle.lv_store.proofs.store.Store.own_rows_to_try.Goals as goal

pub rows_to_try-requires-clause-floor : goal.rows_to_try-requires-clause-floor
rows_to_try-requires-clause-floor g c =
    let whole = c.requires.whole in
    omega (arith, c.versions-versions.ensures.floor, c.snapshot-snapshot.ensures.live c.requires.live, snapshot_within c.args.self.now whole.world whole.stands c.args.session c.requires.live)
