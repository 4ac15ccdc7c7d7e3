use Rattle.std.proofs.Common.{◌≡◌, ◌-◌, not}
use Rattle.std.specs.List.{list_all, range_with_len}
use Rattle.lv_plain.specs.Programs.{has_more, session_count}
use Rattle.lv_core.proofs.lines.all_answered.Given as goal

abbrev pub invariant-loop-session : goal.invariant-loop-session
invariant-loop-session l = list_all (λ s. not (has_more l.program l.places s)) (range_with_len l.session (session_count l.program - l.session)) ≡ list_all (λ s. not (has_more l.program l.places s)) (range_with_len 0 (session_count l.program))
