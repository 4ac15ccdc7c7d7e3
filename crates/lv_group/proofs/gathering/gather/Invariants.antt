use Rattle.std.proofs.Common.{◌≡◌, ◌≤◌, ◌-◌, ◌++◌, length, drop}
use Rattle.lv_group.specs.Entries.{gathered}
use Rattle.lv_group.proofs.Runs.{Rises}
use Rattle.lv_group.proofs.gathering.gather.Given as goal

abbrev pub invariant-loop-at : goal.invariant-loop-at
invariant-loop-at l = record {
  within : l.at ≤ length l.entries;
  all : l.groups.items ++ gathered l.sums (drop l.at l.entries) ≡ gathered l.sums l.entries;
  rises : Rises (drop l.at l.entries);
}

abbrev pub decreases-loop-at : goal.decreases-loop-at
decreases-loop-at l = length l.entries - l.at
