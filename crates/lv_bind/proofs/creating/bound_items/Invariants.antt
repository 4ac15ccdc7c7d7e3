use Rattle.std.proofs.Common.{◌≡◌, map, take}
use Rattle.lv_bind.specs.Binding.{bound_item}
use Rattle.lv_bind.specs.Seen.{aliases}
use Rattle.lv_bind.proofs.creating.bound_items.Given as goal

abbrev pub invariant-loop-item : goal.invariant-loop-item
invariant-loop-item l =
    l.out ≡ map (bound_item (aliases l.scope)) (take l.item-index l.items)
