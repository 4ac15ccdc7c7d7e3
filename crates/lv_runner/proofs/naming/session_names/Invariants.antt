use Rattle.std.proofs.Common.{◌≡◌, ◌∷◌, map, take}
use Rattle.std.specs.Prelude.{codes}
use Rattle.lv_runner.proofs.naming.session_names.Given as goal

abbrev pub invariant-loop-session : goal.invariant-loop-session
invariant-loop-session l = l.names ≡ codes "setup" ∷ map (λ s. s.name) (take l.session-index l.session-items)
