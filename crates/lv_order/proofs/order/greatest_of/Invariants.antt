use Rattle.std.proofs.Common.{◌≡◌, max, drop}
use Rattle.lv_plain.specs.Events.{greatest}
use Rattle.lv_order.proofs.order.greatest_of.Given as goal

abbrev pub invariant-loop-count : goal.invariant-loop-count
invariant-loop-count l = max l.most (greatest (drop l.count-index l.counts)) ≡ greatest l.counts
