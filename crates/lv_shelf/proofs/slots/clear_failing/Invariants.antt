use Rattle.std.proofs.Common.{◌≡◌, ◌≤◌, ◌+◌, ◌-◌, ◌++◌, length, drop, vec_capacity}
use Rattle.lv_shelf.specs.Shelves.{cleared, dropped}
use Rattle.lv_shelf.proofs.slots.clear_failing.Given as goal

abbrev pub invariant-loop-at : goal.invariant-loop-at
invariant-loop-at g l =
    let test = g.P.Test.passed l.test in
    let rest = drop l.at l.order.list in
    record {
      room : length l.free.items + (length l.order.list - l.at) ≤ vec_capacity l.free;
      capacity : vec_capacity l.free ≡ vec_capacity l.initial.free;
      long : length l.slots.items ≡ length l.initial.slots.items;
      cleared : cleared test l.slots.items rest ≡ cleared test l.initial.slots.items l.order.list;
      freed : l.free.items ++ dropped test l.slots.items rest ≡ l.initial.free.items ++ dropped test l.initial.slots.items l.order.list;
    }
