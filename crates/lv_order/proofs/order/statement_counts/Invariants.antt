use Rattle.std.proofs.Common.{◌≡◌, take}
use Rattle.lv_plain.specs.Limits.{statements_of}
use Rattle.lv_order.proofs.order.statement_counts.Given as goal

abbrev pub invariant-loop-session : goal.invariant-loop-session
invariant-loop-session l = l.counts ≡ statements_of (take l.session-index l.sessions)
