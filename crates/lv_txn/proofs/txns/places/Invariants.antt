use Rattle.std.proofs.Common.{◌≡◌}
use Rattle.std.specs.Prelude.{replicate, None}
use Rattle.lv_txn.proofs.txns.places.Given as goal

abbrev pub invariant-loop : goal.invariant-loop
invariant-loop l = l.sessions ≡ replicate l.counter None
