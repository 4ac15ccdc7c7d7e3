use Rattle.std.proofs.Common.{◌≡◌, ◌+◌, ◌*◌, ◌^◌, ◌≤◌, take, length}
use Rattle.std.specs.List.{sum_by}
use Rattle.lv_plain.proofs.program.Program.statements.Given as goal

abbrev pub invariant-loop-session : goal.invariant-loop-session
invariant-loop-session l = record {
  counted : l.count ≡ length l.self.setup + sum_by (λ s. length s.lines) (take l.session-index l.self.sessions);
  bounded : l.count ≤ 2 ^ 64 * (l.session-index + 1);
}
