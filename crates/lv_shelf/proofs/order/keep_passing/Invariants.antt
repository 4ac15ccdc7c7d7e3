use Rattle.std.proofs.Common.{◌≡◌, ◌≤◌, length, take, drop, filter}
use Rattle.lv_shelf.specs.Shelves.{passes_in}
use Rattle.lv_shelf.proofs.order.keep_passing.Given as goal

abbrev pub invariant-loop-at : goal.invariant-loop-at
invariant-loop-at g l = record {
  first : take l.kept l.order.list ≡ filter (passes_in (g.P.Test.passed l.test) l.slots) (take l.at l.initial.order.list);
  rest : drop l.at l.order.list ≡ drop l.at l.initial.order.list;
  long : length l.order.list ≡ length l.initial.order.list;
  within : l.kept ≤ l.at;
  room : l.order.room ≡ l.initial.order.room;
}
