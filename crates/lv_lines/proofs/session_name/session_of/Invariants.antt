use Rattle.std.proofs.Common.{◌≡◌, ◌+◌, drop}
use Rattle.lv_lines.specs.SessionName.{session_from}
use Rattle.lv_lines.proofs.session_name.session_of.Given as goal

abbrev pub invariant-loop-i : goal.invariant-loop-i
invariant-loop-i l = session_from (l.i + 1) (drop l.i l.sessions) l.word ≡ session_from 1 l.sessions l.word
