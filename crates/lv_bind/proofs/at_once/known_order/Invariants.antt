use Rattle.std.proofs.Common.{◌≡◌, drop, take}
use Rattle.std.specs.List.{list_all}
use Rattle.lv_bind.specs.Binding.{bound_order}
use Rattle.lv_bind.specs.Faultless.{is_known}
use Rattle.lv_bind.specs.Seen.{aliases}
use Rattle.lv_bind.proofs.at_once.known_order.Given as goal

abbrev pub invariant-loop-column : goal.invariant-loop-column
invariant-loop-column l = record {
  bound : l.out ≡ bound_order (aliases l.scope) (take l.column-index l.order);
  known : list_all (λ by. is_known (aliases l.scope) by.0) (drop l.column-index l.order) ≡ list_all (λ by. is_known (aliases l.scope) by.0) l.order;
}
