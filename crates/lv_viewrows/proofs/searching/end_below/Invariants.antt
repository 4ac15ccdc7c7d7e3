use Rattle.std.proofs.Common.{◌-◌, ◌≡◌, ◌≤◌, ◌<◌, length, take, drop, true}
use Rattle.std.specs.List.{AllByRecursion}
use Rattle.lv_viewrows.specs.Merged.{is_below}
use Rattle.lv_viewrows.proofs.searching.end_below.Given as goal

abbrev pub invariant-loop-high : goal.invariant-loop-high
invariant-loop-high l = record {
  forward : l.from ≤ l.end;
  order : l.end ≤ l.high;
  within : l.high ≤ length l.versions;
  upper : l.high ≤ l.initial.high;
  step : 0 < l.step;
  below : AllByRecursion (λ v. is_below (drop l.next l.changes) v.group ≡ true) (drop l.from (take l.end l.versions));
}

abbrev pub decreases-loop-high : goal.decreases-loop-high
decreases-loop-high l = l.high - l.end
