use Rattle.std.proofs.Common.{◌≡◌, ◌++◌}
use Rattle.lv_near.proofs.Ordered.{IsRisen}
use Rattle.lv_near.proofs.ordering.each_once.Given as goal

abbrev pub invariant-loop-row : goal.invariant-loop-row
invariant-loop-row l = record {
  all : l.yielded ++ l.row-iterator.rest.items ≡ l.fn.sorted.items;
  risen : IsRisen l.key l.yielded l.out;
}
