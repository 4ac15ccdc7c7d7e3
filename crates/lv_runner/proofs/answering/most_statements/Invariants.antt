use Rattle.std.proofs.Common.{ℕ, ◌+◌, ◌≤◌, ◌<◌, length}
use Rattle.lv_plain.specs.Programs.{lines_of}
use Rattle.lv_runner.proofs.answering.most_statements.Given as goal

abbrev pub invariant-loop-session : goal.invariant-loop-session
invariant-loop-session l = (s : ℕ) → 1 ≤ s → s < l.session-index + 1 → length (lines_of l.program s) ≤ l.most
