use Rattle.std.proofs.Common.{◌≡◌, take}
use Rattle.lv_bind.specs.Binding.{bound_order}
use Rattle.lv_bind.specs.Seen.{aliases}
use Rattle.lv_bind.proofs.binding.bound_order.Given as goal

abbrev pub invariant-loop-column : goal.invariant-loop-column
invariant-loop-column l =
    l.out ≡ bound_order (aliases l.scope) (take l.column-index l.order)
