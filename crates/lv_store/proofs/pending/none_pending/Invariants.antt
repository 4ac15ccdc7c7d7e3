use Rattle.std.proofs.Common.{◌≡◌, []}
use Rattle.std.specs.Prelude.{replicate}
use Rattle.lv_store.proofs.pending.none_pending.Given as goal

abbrev pub invariant-loop : goal.invariant-loop
invariant-loop l = l.pending ≡ replicate l.counter []
