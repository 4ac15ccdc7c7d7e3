use Rattle.std.proofs.Common.{◌≡◌, ◌++◌, map}
use Rattle.lv_near.specs.Small.{with_lost}
use Rattle.lv_near.proofs.input.alone_parts.Given as goal

abbrev pub invariant-loop-change : goal.invariant-loop-change
invariant-loop-change l = record {
  all : l.yielded ++ l.change-iterator.rest.items ≡ l.fn.changes;
  parts : l.parts ≡ map with_lost l.yielded;
}
