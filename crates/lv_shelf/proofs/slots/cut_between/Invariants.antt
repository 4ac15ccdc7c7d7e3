use Rattle.std.proofs.Common.{◌-◌, ◌≡◌, ◌≤◌, ◌<◌, ℕ, get_or, true, false}
use Rattle.lv_shelf.specs.Shelves.{items_at}
use Rattle.lv_shelf.proofs.slots.cut_between.Given as goal

abbrev pub invariant-loop-low : goal.invariant-loop-low
invariant-loop-low g l =
    let list = items_at l.slots l.places.list in
    record {
      first : l.first ≤ l.low;
      order : l.low ≤ l.high;
      end : l.high ≤ l.end;
      below : (k : ℕ) (d : g.row.T.Denot) → l.first ≤ k → k < l.low → g.P.Test.passed l.test (get_or list k d) ≡ true;
      above : (k : ℕ) (d : g.row.T.Denot) → l.high ≤ k → k < l.end → g.P.Test.passed l.test (get_or list k d) ≡ false;
    }

abbrev pub decreases-loop-low : goal.decreases-loop-low
decreases-loop-low g l = l.high - l.low
