use Rattle.std.proofs.Common.{◌≡◌, ◌++◌, replicate}
use Rattle.lv_plain.specs.declared.event.Event.TheVariants.{Turn as turn_of}
use Rattle.lv_order.proofs.order.push_setup.Given as goal

abbrev pub invariant-loop : goal.invariant-loop
invariant-loop l = l.events ≡ l.fn.events ++ replicate l.counter (turn_of 0)
