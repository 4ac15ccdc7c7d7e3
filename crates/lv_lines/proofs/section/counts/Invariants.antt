use Rattle.std.proofs.Common.{◌≡◌, map, take, length}
use Rattle.lv_lines.proofs.section.counts.Given as goal

abbrev pub invariant-loop-session : goal.invariant-loop-session
invariant-loop-session l = l.found ≡ map (λ s. length s.lines) (take l.session-index l.sessions)
