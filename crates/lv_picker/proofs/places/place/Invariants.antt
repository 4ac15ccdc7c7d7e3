use Rattle.std.proofs.Common.{◌≡◌, ◌≤◌, drop, get_or}
use Rattle.lv_schema.specs.Policies.{chosen}
use Rattle.lv_schema.specs.UpkeepCases.{no_pending}
use Rattle.lv_picker.proofs.Best.{so_far}
use Rattle.lv_picker.proofs.places.place.Given as goal

abbrev pub invariant-loop-at : goal.invariant-loop-at
invariant-loop-at l =
    record {
      so : so_far l.kind l.best (get_or l.list l.best no_pending) l.at (drop l.at l.list) ≡ chosen l.kind l.list;
      within : l.best ≤ l.at;
    }
