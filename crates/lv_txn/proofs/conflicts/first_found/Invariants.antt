use Rattle.std.proofs.Common.{take}
use Rattle.lv_txn.specs.Written.{writer_among, IsFirst}
use Rattle.lv_txn.proofs.conflicts.first_found.Given as goal

abbrev pub invariant-loop-entry : goal.invariant-loop-entry
invariant-loop-entry l = IsFirst l.places (writer_among l.schema.tables (take l.entry-index l.entries)) l.found
