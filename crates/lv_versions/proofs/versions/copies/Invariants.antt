use Rattle.std.proofs.Common.{◌≡◌, ◌≤◌, length, map, take}
use Rattle.std.specs.Vec.{vec_capacity, vec_len}
use Rattle.lv_versions.proofs.versions.copies.Given as goal

abbrev pub invariant-loop-row : goal.invariant-loop-row
invariant-loop-row l = record {
  copied : l.rows.items ≡ map (λ row. row.now) (take l.row-index l.found);
  count : vec_len l.rows ≡ l.row-index;
  room : length l.found ≤ vec_capacity l.rows;
}
