use Rattle.std.proofs.Common.{◌≡◌, ◌++◌}
use Rattle.lv_bags.specs.Bags.{width}
use Rattle.lv_bags.specs.Tallies.{tallied}
use Rattle.lv_bags.proofs.netting.tally.Given as goal

abbrev pub invariant-loop-s : goal.invariant-loop-s
invariant-loop-s l = record {
  all : l.yielded ++ l.s-iterator.rest.items ≡ l.fn.sorted.items;
  out : l.out.items ≡ tallied (width l.fn.sorted.items) l.yielded;
}
