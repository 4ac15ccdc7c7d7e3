use Rattle.std.proofs.Common.{◌≡◌, ◌≤◌, ◌+◌, ◌++◌, length}
use Rattle.std.specs.Vec.{vec_len, vec_capacity}
use Rattle.lv_bags.specs.Bags.{width}
use Rattle.lv_bags.specs.Tallies.{tallied}
use Rattle.lv_group.proofs.applying.add_all.Given as goal

abbrev pub invariant-loop-s : goal.invariant-loop-s
invariant-loop-s l = record {
  all : l.yielded ++ l.s-iterator.rest.items ≡ l.fn.signed.items;
  groups : l.groups.items ≡ tallied (width (l.fn.groups.items ++ l.fn.signed.items)) (l.fn.groups.items ++ l.yielded);
  room : vec_len l.groups + length l.s-iterator.rest.items ≤ vec_capacity l.groups;
  capacity : vec_capacity l.fn.groups ≤ vec_capacity l.groups;
  len : vec_len l.groups + length l.s-iterator.rest.items ≤ vec_len l.fn.groups + length l.fn.signed.items;
}
