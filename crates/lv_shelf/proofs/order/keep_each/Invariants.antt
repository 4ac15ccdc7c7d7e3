use Rattle.std.proofs.Common.{◌≡◌, ℕ, filter}
use Rattle.lv_shelf.specs.Shelves.{HaveRoom, lists_of, passes_in}
use Rattle.lv_shelf.proofs.Orders.{done}
use Rattle.lv_shelf.proofs.order.keep_each.Given as goal

abbrev pub invariant-loop-i : goal.invariant-loop-i
invariant-loop-i g l = record {
  kept : lists_of l.orders.items ≡ done (filter (passes_in (g.P.Test.passed l.test) l.slots)) l.i (lists_of l.initial.orders.items);
  room : (n : ℕ) → HaveRoom n l.initial.orders.items → HaveRoom n l.orders.items;
}
