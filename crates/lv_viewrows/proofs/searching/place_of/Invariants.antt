use Rattle.std.proofs.Common.{◌-◌, ◌≡◌, ◌≤◌, ◌<◌, ℕ, length, get_or, true, false}
use Rattle.lv_viewrows.specs.declared.version.GroupVersion.{GroupVersion}
use Rattle.lv_viewrows.specs.Standing.{comes_before}
use Rattle.lv_viewrows.proofs.searching.place_of.Given as goal

abbrev pub invariant-loop-low : goal.invariant-loop-low
invariant-loop-low l =
    let list = l.versions in
    record {
      order : l.low ≤ l.high;
      within : l.high ≤ l.initial.high;
      step : 0 < l.step;
      below : (k : ℕ) (d : GroupVersion) → k < l.low → comes_before l.row l.number (get_or list k d) ≡ true;
      above : (k : ℕ) (d : GroupVersion) → l.high ≤ k → k < length list → comes_before l.row l.number (get_or list k d) ≡ false;
    }

abbrev pub decreases-loop-low : goal.decreases-loop-low
decreases-loop-low l = l.high - l.low
