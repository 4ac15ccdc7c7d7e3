use Rattle.std.proofs.Common.{◌≡◌, ◌++◌, take}
use Rattle.std.specs.List.{flat_map}
use Rattle.lv_plain.specs.Events.{item_events}
use Rattle.lv_order.proofs.order.push_order.Given as goal

abbrev pub invariant-loop-item : goal.invariant-loop-item
invariant-loop-item l = l.events ≡ l.fn.events ++ flat_map item_events (take l.item-index l.order)
