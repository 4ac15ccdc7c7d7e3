use Rattle.std.proofs.Common.{◌≡◌, ◌++◌, map}
use Rattle.std.proofs.Common.{◌-◌}
use Rattle.std.specs.List.{range_with_len}
use Rattle.lv_bind.proofs.binding.push_each.Given as goal

abbrev pub invariant-loop-column : goal.invariant-loop-column
invariant-loop-column l =
    l.out ++ map (λ k. record { alias = l.alias; column = k }) (range_with_len l.column (l.width - l.column)) ≡ l.initial.out ++ map (λ k. record { alias = l.alias; column = k }) (range_with_len 0 l.width)
