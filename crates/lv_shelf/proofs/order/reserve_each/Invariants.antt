use Rattle.std.proofs.Common.{◌≡◌, ℕ, take}
use Rattle.lv_shelf.specs.Shelves.{HaveRoom, lists_of}
use Rattle.lv_shelf.proofs.order.reserve_each.Given as goal

abbrev pub invariant-loop-i : goal.invariant-loop-i
invariant-loop-i l = record {
  same : lists_of l.orders.items ≡ lists_of l.initial.orders.items;
  room : HaveRoom l.room (take l.i l.orders.items);
  kept : (n : ℕ) → HaveRoom n l.initial.orders.items → HaveRoom n l.orders.items;
}
