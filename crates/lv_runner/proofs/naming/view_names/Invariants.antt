use Rattle.std.proofs.Common.{◌≡◌, map, take}
use Rattle.lv_runner.proofs.naming.view_names.Given as goal

abbrev pub invariant-loop-no : goal.invariant-loop-no
invariant-loop-no l = l.names ≡ map (λ d. d.name) (take l.no l.schema.views)
