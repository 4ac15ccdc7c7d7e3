use Rattle.std.proofs.Common.{arith}
use Rattle.std.specs.Prelude.{nat_lt, slice_index, length}
use Rattle.lv_schema.specs.World.{last, snap}
use Rattle.lv_replay.proofs.Applied.{applied_table, applied_created, applied_view, applied_commit, acted_database}
use Rattle.lv_replay.proofs.Tests.{and_left, and_right, lt_of, le_of}
use Rattle.lv_replay.proofs.laws.records_that_apply_are_what_calls_ask_for.Goals as goal

pub returns-clause-table : goal.returns-clause-table
returns-clause-table c = λ def w kept h. applied_table w.visible def kept h

pub returns-clause-view : goal.returns-clause-view
returns-clause-view c = λ def w kept h. (applied_view w.visible def kept h, applied_created w.visible def h)

pub returns-clause-commit : goal.returns-clause-commit
returns-clause-commit c = λ number actions w h. let next = applied_commit w.visible number actions h in (next.number_is, next.some, next.can)

pub returns-clause-database : goal.returns-clause-database
returns-clause-database c = λ number actions w sound h.
    let next = applied_commit w.visible number actions h in
    let before = sound.fits (last w.visible) (omega arith) in
    (before, acted_database w.visible.tables (snap w.visible (last w.visible)) actions before next.can next.few)

pub returns-clause-mark : goal.returns-clause-mark
returns-clause-mark c = λ view upto w h.
    let rest = and_right (nat_lt view (length w.visible.views)) _ h in
    (lt_of view (length w.visible.views) (and_left _ _ h), lt_of (slice_index w.upkeep.marks view) upto (and_left _ _ rest), le_of upto (last w.visible) (and_right (nat_lt (slice_index w.upkeep.marks view) upto) _ rest))
