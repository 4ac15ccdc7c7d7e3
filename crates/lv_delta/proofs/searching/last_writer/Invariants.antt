use Rattle.std.proofs.Common.{◌≡◌, ◌≤◌, [], length, drop, filter}
use Rattle.lv_delta.specs.Kept.{writes_key}
use Rattle.lv_delta.proofs.searching.last_writer.Given as goal

abbrev pub invariant-loop-at : goal.invariant-loop-at
invariant-loop-at l = record {
  within : l.at ≤ length l.entries;
  none : filter (writes_key l.table l.key) (drop l.at l.entries) ≡ [];
}

abbrev pub decreases-loop-at : goal.decreases-loop-at
decreases-loop-at l = l.at
