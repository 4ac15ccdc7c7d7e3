use Rattle.std.proofs.Common.{◌≡◌, drop}
use Rattle.std.specs.List.{flat_map}
use Rattle.lv_bind.specs.Kinds.{assign_kinds}
use Rattle.lv_bind.specs.Seen.{aliases}
use Rattle.lv_bind.specs.Sources.{first}
use Rattle.lv_bind.proofs.kinds.assigned_kinds.Given as goal

abbrev pub invariant-loop-assign : goal.invariant-loop-assign
invariant-loop-assign l =
    first (flat_map (assign_kinds (aliases l.scope)) (drop l.assign-index l.sets)) ≡ first (flat_map (assign_kinds (aliases l.scope)) l.sets)
