use Rattle.std.proofs.Common.{take}
use Rattle.lv_txn.specs.Written.{writer_among}
use Rattle.lv_txn.proofs.FirstWritten.{entry_step, no_writer}
use Rattle.lv_txn.proofs.conflicts.first_found.Goals as goal

pub loop-entry-init : goal.loop-entry-init
loop-entry-init c = no_writer c.args.schema.now.tables c.args.places.now

pub loop-entry-preserved : goal.loop-entry-preserved
loop-entry-preserved c =
    let tables = c.args.schema.now.tables in
    let entries = c.args.entries.now in
    let i = c.loop-entry.entry-index in
    entry_step tables c.args.places.now entries i c.entry-item.result c.after-found.result c.loop-entry-test.true c.entry-item.is
    (c.after-found.ensures (writer_among tables (take i entries)) c.loop-entry.invariant)
