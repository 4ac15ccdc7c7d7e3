use Rattle.std.proofs.Common.{◌≡◌, drop}
use Rattle.std.specs.List.{flat_map}
use Rattle.lv_bind.specs.Kinds.{item_kinds}
use Rattle.lv_bind.specs.Seen.{aliases}
use Rattle.lv_bind.specs.Sources.{first}
use Rattle.lv_bind.proofs.kinds.summed_kinds.Given as goal

abbrev pub invariant-loop-item : goal.invariant-loop-item
invariant-loop-item l =
    first (flat_map (item_kinds (aliases l.scope)) (drop l.item-index l.items)) ≡ first (flat_map (item_kinds (aliases l.scope)) l.items)
