use Rattle.std.proofs.Common.{◌≡◌, ◌+◌, ◌-◌, ◌≤◌, ◌++◌, length, map, drop, take}
use Rattle.std.specs.Vec.{vec_capacity, vec_len}
use Rattle.lv_shelf.specs.Shelves.{other_at}
use Rattle.lv_versions.specs.Versions.{state_at}
use Rattle.lv_versions.proofs.versions.rows_between.Given as goal

abbrev pub invariant-loop-at : goal.invariant-loop-at
invariant-loop-at g l =
    let list = take l.end (other_at l.versions.others l.order) in
    record {
      rows : map (λ row. row.now) l.rows.items ++ state_at l.n (drop l.at list) ≡ state_at l.n (drop l.first list);
      cost : l.steps + length (state_at l.n (drop l.at list)) ≡ l.initial.steps + length (state_at l.n (drop l.first list));
      count : vec_len l.rows + l.first ≤ l.at;
      room : l.end ≤ vec_capacity l.rows + l.first;
    }

abbrev pub decreases-loop-at : goal.decreases-loop-at
decreases-loop-at g l = l.end - l.at
